use Rattle.std.proofs.Common.{◌≡◌, [], List, take}
use Rattle.std.specs.List.{AllZip}
use Rattle.vl_model.specs.Cutting.{joined}
use Rattle.vl_model.specs.declared.entry.Entry.{Entry}
use Rattle.vl_table.specs.OfTables.{AreOf}
use Rattle.vl_version.specs.Gathered.{Adds}
use Rattle.vl_version.specs.Naming.{AddFaults}
use Rattle.vl_version.specs.Standing.{AddsShown, IsStanding}
use Rattle.vl_version.specs.Whole.{AddReads, AddStops, AllReadTo, OneStops}
use Rattle.vl_version.specs.levels.LevelTables.{AreAllApart, all_tables}
use Rattle.vl_version.proofs.gather.tables.add_deeper.Given as goal

abbrev pub invariant-loop-level : goal.invariant-loop-level
invariant-loop-level g l = record {
  adds : AreAllApart l.levels → (tabled : List (List Entry)) → AreOf g.H.HeldFile.bytes (all_tables (take l.level-index l.levels)) tabled
      → Adds g.H.HeldFile.bytes l.span l.way (joined tabled) l.initial.sources.items l.sources.items;
  quiet : all_tables l.levels ≡ [] → l.sources.items ≡ l.initial.sources.items;
  faults : AddFaults g.H.HeldFile.bytes l.span (all_tables (take l.level-index l.levels)) l.initial.sources.items l.sources.items;
  reads : AddReads g.H.HeldFile.bytes (λ is_met. AllReadTo g.H.HeldFile.bytes l.span l.way is_met (take l.level-index l.levels))
      l.initial.sources.items l.sources.items;
  standing : (tabled : List (List Entry)) → AllZip (IsStanding g.H.HeldFile.bytes l.span l.way) (take l.level-index l.levels) tabled
      → AddsShown g.H.HeldFile.bytes l.span l.way (joined tabled) l.initial.sources.items l.sources.items;
  stops : AddStops g.H.HeldFile.bytes (λ fault. OneStops g.H.HeldFile.bytes l.span l.way fault (take l.level-index l.levels))
      l.initial.sources.items l.sources.items;
}
