use Rattle.std.specs.Prelude.{None, Ok}
use Rattle.std.proofs.Common.{take}
use Rattle.vl_version.specs.levels.Marks.{TellsFirst}
use Rattle.vl_version.proofs.levels.mark.first_in_each.Given as goal

-- the tables so far have no such entry
abbrev pub invariant-loop-table : goal.invariant-loop-table
invariant-loop-table g l =
    TellsFirst g.H.HeldFile.bytes g.R.Reader.faults l.asked (take l.table-index l.tables) (Unit {0}) l.fn.reader l.reader (Ok None)
