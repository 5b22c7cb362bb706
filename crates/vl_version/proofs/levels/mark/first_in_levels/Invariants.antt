use Rattle.std.specs.Prelude.{None, Ok}
use Rattle.std.proofs.Common.{take}
use Rattle.vl_version.specs.levels.LevelTables.{AreAllApart, all_tables}
use Rattle.vl_version.specs.levels.Marks.{TellsFirst}
use Rattle.vl_version.proofs.levels.mark.first_in_levels.Given as goal

-- the tables of the levels so far have no such entry
abbrev pub invariant-loop-level : goal.invariant-loop-level
invariant-loop-level g l =
    TellsFirst g.H.HeldFile.bytes g.R.Reader.faults l.asked (all_tables (take l.level-index l.levels)) (AreAllApart l.levels)
    l.fn.reader l.reader (Ok None)
