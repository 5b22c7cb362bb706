use Rattle.std.proofs.Common.{◌≡◌, ◌++◌, drop, take}
use Rattle.vl_manifest.specs.Levels.{taken_out}
use Rattle.vl_manifest.proofs.levels.Levels.take_out.Given as goal

-- it was taken out of the lists up to a level
abbrev pub invariant-loop-level : goal.invariant-loop-level
invariant-loop-level l =
    l.self-inside.lists ≡ taken_out l.table (take l.level l.fn.self) ++ drop l.level l.fn.self
