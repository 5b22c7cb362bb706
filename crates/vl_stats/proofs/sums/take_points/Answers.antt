use Rattle.std.proofs.Common.{refl}
use Rattle.std.specs.Ordering.{nat_cmp}
use Rattle.std.specs.BTreeMap.{get}
use Rattle.vl_stats.proofs.Steps.{takes_none, takes_point, takes_points}
use Rattle.vl_stats.proofs.sums.take_points.Goals as goal

pub loop-point-init : goal.loop-point-init
loop-point-init c = record { takes = takes_none (get nat_cmp c.args.sums.now) (λ s. 0) (λ s. refl); empty = λ none. none }

pub loop-point-preserved : goal.loop-point-preserved
loop-point-preserved c = record {
  takes = takes_point c.args.points.now (get nat_cmp c.args.sums.now) (get nat_cmp c.loop-point.sums) (get nat_cmp c.take_point.new.sums)
      c.loop-point.point-index _ c.loop-point-test.true c.loop-point.invariant.takes c.take_point.ensures.takes;
  empty = λ none. c.take_point.ensures.empty (c.loop-point.invariant.empty none);
}

pub returns-clause-takes : goal.returns-clause-takes
returns-clause-takes c =
    takes_points c.args.points.now (get nat_cmp c.args.sums.now) (get nat_cmp c.loop-point.sums)
    c.loop-point.point-index c.loop-point-test.false c.loop-point.invariant.takes
