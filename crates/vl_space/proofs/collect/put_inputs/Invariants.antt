use Rattle.std.proofs.Common.{◌≡◌, ◌++◌, take}
use Rattle.std.specs.List.{filter}
use Rattle.std.specs.Prelude.{map}
use Rattle.vl_space.specs.Collecting.{points_in}
use Rattle.vl_version.specs.Bases.{is_input}
use Rattle.vl_space.proofs.collect.put_inputs.Given as goal

abbrev pub invariant-loop-table : goal.invariant-loop-table
invariant-loop-table g l = map (λ f. f.now.points.items) l.footers.items
    ≡ map (λ f. f.now.points.items) l.initial.footers.items
    ++ points_in (filter (is_input l.inputs) (take l.table-index l.tables))
