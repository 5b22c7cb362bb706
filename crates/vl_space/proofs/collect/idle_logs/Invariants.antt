use Rattle.std.proofs.Common.{◌≡◌, take}
use Rattle.vl_space.specs.Collecting.{idle_in}
use Rattle.vl_space.proofs.collect.idle_logs.Given as goal

abbrev pub invariant-loop-log : goal.invariant-loop-log
invariant-loop-log g l = l.idle.items ≡ idle_in l.live (take l.log-index l.logs)
