use Rattle.std.proofs.Common.{◌≡◌, drop}
use Rattle.vl_recover.specs.opening.Opening as opening
use Rattle.vl_recover.proofs.led.with_points.Given as goal

-- the same of the points of a table
abbrev pub invariant-loop-point : goal.invariant-loop-point
invariant-loop-point l = opening.put_points (drop l.point-index l.points) l.more.items ≡ opening.put_points l.points l.fn.led.items
