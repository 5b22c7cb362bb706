use Rattle.std.proofs.Common.{◌≡◌, ◌++◌, drop}
use Rattle.vl_table.specs.body.Footer.{points}
use Rattle.vl_table.specs.body.Lists.{items_bytes}
use Rattle.vl_table.proofs.writer.points.write_points.Given as goal

abbrev pub invariant-loop-point : goal.invariant-loop-point
invariant-loop-point l = l.out.items ++ items_bytes points (drop l.point-index l.list) ≡ l.initial.out.items ++ items_bytes points l.list
