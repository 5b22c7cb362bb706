use Rattle.std.proofs.Common.{take}
use Rattle.vl_version.specs.Shared.{AreSameTables}
use Rattle.vl_version.proofs.levels.share.share_tables.Given as goal

abbrev pub invariant-loop-table : goal.invariant-loop-table
invariant-loop-table g l = AreSameTables g.H.HeldFile.bytes (take l.table-index l.tables) l.all.items
