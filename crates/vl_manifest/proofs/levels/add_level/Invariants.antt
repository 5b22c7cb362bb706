use Rattle.std.proofs.Common.{◌≡◌, ◌++◌, drop}
use Rattle.vl_manifest.specs.States.{level_adds}
use Rattle.vl_manifest.proofs.levels.add_level.Given as goal

-- those of the tables that are left stand behind what there is
abbrev pub invariant-loop-position : goal.invariant-loop-position
invariant-loop-position l =
    l.edits.items ++ level_adds l.level l.position (drop l.position l.tables)
    ≡ l.fn.edits.items ++ level_adds l.level 0 l.tables
