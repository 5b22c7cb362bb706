use Rattle.std.proofs.Common.{take}
use Rattle.std.specs.List.{AllZip}
use Rattle.vl_version.specs.Changes.{AreTablesSince}
use Rattle.vl_version.proofs.levels.since.levels_since.Given as goal

abbrev pub invariant-loop-level : goal.invariant-loop-level
invariant-loop-level g l = AllZip (AreTablesSince g.H.HeldFile.bytes l.since) (take l.level-index l.levels) l.all.items
