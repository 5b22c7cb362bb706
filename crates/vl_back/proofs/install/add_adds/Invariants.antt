use Rattle.std.proofs.Common.{◌≡◌, ◌+◌, ◌++◌, drop}
use Rattle.vl_manifest.specs.States.{level_adds}
use Rattle.vl_back.proofs.install.add_adds.Given as goal

abbrev pub invariant-loop-at : goal.invariant-loop-at
invariant-loop-at l =
    l.edits.items ++ level_adds l.level (l.position + l.at) (drop l.at l.tables)
    ≡ l.fn.edits.items ++ level_adds l.level l.position l.tables
