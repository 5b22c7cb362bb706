use Rattle.std.proofs.Common.{◌≡◌, ◌++◌, take}
use Rattle.std.specs.List.{filter}
use Rattle.std.specs.Prelude.{map}
use Rattle.vl_space.specs.Collecting.{points_in}
use Rattle.vl_version.specs.Bases.{is_input}
use Rattle.vl_version.specs.levels.LevelTables.{all_tables}
use Rattle.vl_space.proofs.collect.input_footers.Given as goal

abbrev pub invariant-loop-level : goal.invariant-loop-level
invariant-loop-level g l = map (λ f. f.now.points.items) l.footers.items
    ≡ points_in (filter (is_input l.inputs) l.levels.newest.items)
    ++ points_in (filter (is_input l.inputs) (all_tables (take l.level-index l.level-items)))
