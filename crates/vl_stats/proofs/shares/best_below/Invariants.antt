use Rattle.std.proofs.Common.{◌≡◌, ◌≤◌, nat_lt, drop, length, map}
use Rattle.std.specs.List.{filter}
use Rattle.vl_engine_model.specs.Garbage.{best_of, is_worth}
use Rattle.vl_stats.specs.Tallies.{share_by}
use Rattle.vl_stats.proofs.shares.best_below.Given as goal

abbrev pub invariant-loop-at : goal.invariant-loop-at
invariant-loop-at l = record {
  within : l.at ≤ length l.logs;
  best : l.best ≡ best_of (filter (is_worth l.percent) (map (share_by l.live)
      (filter (λ log. nat_lt log.0 l.head) (drop l.at l.logs))));
}

abbrev pub decreases-loop-at : goal.decreases-loop-at
decreases-loop-at l = l.at
