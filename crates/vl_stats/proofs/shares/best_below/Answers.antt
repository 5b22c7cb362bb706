use Rattle.std.proofs.Common.{◌∙◌, arith, nat_lt}
use Rattle.vl_stats.specs.Tallies.{share_by}
use Rattle.vl_stats.proofs.Putting.{best_step}
use Rattle.vl_stats.proofs.shares.best_below.Goals as goal

pub loop-at-preserved : goal.loop-at-preserved
loop-at-preserved c = record {
  within = let e = c.loop-at.invariant.within in omega (arith, e);
  best = c.better_log-best.ensures
      ∙ best_step c.args.percent (share_by c.args.live.now) (λ log. nat_lt log.0 c.args.head) c.args.logs.now c.loop-at.at _
      c.loop-at.best c.loop-at-test.true c.loop-at.invariant.within c.loop-at.invariant.best;
}
