use Rattle.std.proofs.Common.{◌≡◌, ◌++◌, drop}
use Rattle.vl_manifest.specs.States.{adds_from}
use Rattle.vl_manifest.proofs.levels.Levels.adds.Given as goal

-- those of the lists that are left stand behind what there is
abbrev pub invariant-loop-level : goal.invariant-loop-level
invariant-loop-level l = l.edits.items ++ adds_from l.level (drop l.level l.self) ≡ adds_from 0 l.self
