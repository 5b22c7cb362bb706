use Rattle.std.proofs.Common.{◌≡◌, ◌≤◌, ◌∷◌, [], List, length, take}
use Rattle.std.specs.List.{AllZip}
use Rattle.vl_model.specs.Cutting.{joined}
use Rattle.vl_model.specs.declared.entry.Entry.{Entry}
use Rattle.vl_table.specs.OfTables.{AreOf}
use Rattle.vl_version.specs.Gathered.{Adds}
use Rattle.vl_version.specs.Naming.{AddFaults}
use Rattle.vl_version.specs.Standing.{AddsShown, IsStanding}
use Rattle.vl_version.specs.Whole.{AddReads, AddStops, EachReadTo, EachStops}
use Rattle.vl_version.proofs.gather.tables.add_newest.Given as goal

abbrev pub invariant-loop-at : goal.invariant-loop-at
invariant-loop-at g l = record {
  adds : (tabled : List (List Entry)) → AreOf g.H.HeldFile.bytes (take l.at l.tables) tabled
      → Adds g.H.HeldFile.bytes l.span l.way (joined tabled) l.initial.sources.items l.sources.items;
  quiet : l.tables ≡ [] → l.sources.items ≡ l.initial.sources.items;
  faults : AddFaults g.H.HeldFile.bytes l.span (take l.at l.tables) l.initial.sources.items l.sources.items;
  reads : AddReads g.H.HeldFile.bytes (λ is_met. EachReadTo g.H.HeldFile.bytes l.span l.way is_met (take l.at l.tables))
      l.initial.sources.items l.sources.items;
  standing : (tabled : List (List Entry))
      → AllZip (λ t es. IsStanding g.H.HeldFile.bytes l.span l.way (t ∷ []) es) (take l.at l.tables) tabled
      → AddsShown g.H.HeldFile.bytes l.span l.way (joined tabled) l.initial.sources.items l.sources.items;
  stops : AddStops g.H.HeldFile.bytes (λ fault. EachStops g.H.HeldFile.bytes l.span l.way fault (take l.at l.tables))
      l.initial.sources.items l.sources.items;
}
