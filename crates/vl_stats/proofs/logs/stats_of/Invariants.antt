use Rattle.std.proofs.Common.{◌≡◌, map, take}
use Rattle.vl_engine_model.specs.Rulings.Stats.{told}
use Rattle.vl_stats.specs.Tallies.{stat_by}
use Rattle.vl_stats.proofs.logs.stats_of.Given as goal

abbrev pub invariant-loop-log : goal.invariant-loop-log
invariant-loop-log l = l.stats.items ≡ map (λ log. told (stat_by l.live log)) (take l.log-index l.logs)
