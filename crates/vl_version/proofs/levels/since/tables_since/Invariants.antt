use Rattle.std.proofs.Common.{take}
use Rattle.vl_version.specs.Changes.{AreTablesSince}
use Rattle.vl_version.proofs.levels.since.tables_since.Given as goal

abbrev pub invariant-loop-table : goal.invariant-loop-table
invariant-loop-table g l = AreTablesSince g.H.HeldFile.bytes l.since (take l.table-index l.tables) l.all.items
