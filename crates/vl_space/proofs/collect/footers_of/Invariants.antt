use Rattle.std.proofs.Common.{◌≡◌, ◌++◌, take}
use Rattle.std.specs.Prelude.{map}
use Rattle.vl_space.specs.Collecting.{points_in}
use Rattle.vl_version.specs.levels.LevelTables.{all_tables}
use Rattle.vl_space.proofs.collect.footers_of.Given as goal

abbrev pub invariant-loop-level : goal.invariant-loop-level
invariant-loop-level g l = map (λ f. f.now.points.items) l.footers.items
    ≡ points_in l.levels.newest.items ++ points_in (all_tables (take l.level-index l.level-items))
