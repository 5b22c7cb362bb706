use Rattle.std.proofs.Common.{refl}
use Rattle.std.specs.Ordering.{nat_cmp}
use Rattle.std.specs.BTreeMap.{get}
use Rattle.vl_stats.proofs.Steps.{adds_none, adds_point, adds_points}
use Rattle.vl_stats.proofs.sums.add_points.Goals as goal

pub loop-point-init : goal.loop-point-init
loop-point-init c = record { adds = adds_none (get nat_cmp c.args.sums.now) (λ s. 0) (λ s. refl); empty = λ none. none }

pub loop-point-preserved : goal.loop-point-preserved
loop-point-preserved c = record {
  adds = adds_point c.args.points.now (get nat_cmp c.args.sums.now) (get nat_cmp c.loop-point.sums) (get nat_cmp c.add_point.new.sums)
      c.loop-point.point-index _ c.loop-point-test.true c.loop-point.invariant.adds c.in_ok-add_point.ensures.adds;
  empty = λ none. c.in_ok-add_point.ensures.empty (c.loop-point.invariant.empty none);
}

pub returns-clause-adds : goal.returns-clause-adds
returns-clause-adds c =
    adds_points c.args.points.now (get nat_cmp c.args.sums.now) (get nat_cmp c.loop-point.sums)
    c.loop-point.point-index c.loop-point-test.false c.loop-point.invariant.adds
