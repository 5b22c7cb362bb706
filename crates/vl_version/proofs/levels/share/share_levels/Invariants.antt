use Rattle.std.proofs.Common.{take}
use Rattle.std.specs.List.{AllZip}
use Rattle.vl_version.specs.Shared.{AreSameTables}
use Rattle.vl_version.proofs.levels.share.share_levels.Given as goal

abbrev pub invariant-loop-level : goal.invariant-loop-level
invariant-loop-level g l = AllZip (AreSameTables g.H.HeldFile.bytes) (take l.level-index l.levels) l.all.items
