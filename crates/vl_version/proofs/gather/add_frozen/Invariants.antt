use Rattle.std.proofs.Common.{List, take}
use Rattle.vl_table.specs.declared.table.Table.{Table}
use Rattle.vl_version.specs.Gathered.{Adds, IsQuiet}
use Rattle.vl_version.specs.Naming.{FailWithin}
use Rattle.vl_version.specs.Sources.{held_entries}
use Rattle.vl_version.proofs.gather.add_frozen.Given as goal

abbrev pub invariant-loop-log : goal.invariant-loop-log
invariant-loop-log g l = record {
  adds : Adds g.H.HeldFile.bytes l.span l.way (held_entries (take l.log-index l.frozen)) l.initial.sources.items l.sources.items;
  quiet : IsQuiet g.H.HeldFile.bytes l.initial.sources.items → IsQuiet g.H.HeldFile.bytes l.sources.items;
  faults : (before : List (Table g.row.H.Denot)) → FailWithin g.H.HeldFile.bytes l.span before l.initial.sources.items
      → FailWithin g.H.HeldFile.bytes l.span before l.sources.items;
}
