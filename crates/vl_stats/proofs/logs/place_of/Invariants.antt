use Rattle.std.proofs.Common.{◌≤◌, ◌<◌, ◌-◌, length, take}
use Rattle.std.specs.List.{AllByRecursion}
use Rattle.vl_stats.proofs.logs.place_of.Given as goal

abbrev pub invariant-loop-log : goal.invariant-loop-log
invariant-loop-log l = record {
  within : l.at ≤ length l.logs;
  below : AllByRecursion (λ log. log.0 < l.number) (take l.at l.logs);
}

abbrev pub decreases-loop-log : goal.decreases-loop-log
decreases-loop-log l = length l.logs - l.at
