use Rattle.std.proofs.Common.{◌≡◌, take}
use Rattle.std.specs.Prelude.{map}
use Rattle.vl_space.specs.Collecting.{points_made}
use Rattle.vl_space.proofs.collect.made_footers.Given as goal

abbrev pub invariant-loop-table : goal.invariant-loop-table
invariant-loop-table g l = map (λ f. f.now.points.items) l.footers.items ≡ points_made (take l.table-index l.made)
