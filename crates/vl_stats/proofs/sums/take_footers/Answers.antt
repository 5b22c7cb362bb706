use Rattle.std.proofs.Common.{refl}
use Rattle.std.specs.Ordering.{nat_cmp}
use Rattle.std.specs.BTreeMap.{get}
use Rattle.vl_stats.proofs.Steps.{takes_none, takes_footer, takes_footers}
use Rattle.vl_stats.proofs.sums.take_footers.Goals as goal

pub loop-footer-init : goal.loop-footer-init
loop-footer-init c = record { takes = takes_none (get nat_cmp c.args.sums.now) (λ s. 0) (λ s. refl); empty = λ none. none }

pub loop-footer-preserved : goal.loop-footer-preserved
loop-footer-preserved c = record {
  takes = takes_footer c.args.footers.now (λ f. f.now.points.items) (get nat_cmp c.args.sums.now)
      (get nat_cmp c.loop-footer.sums) (get nat_cmp c.take_points.new.sums)
      c.loop-footer.footer-index
      c.footer-item.result c.deref.result.now c.loop-footer-test.true c.footer-item.is c.deref.ensures.value
      c.loop-footer.invariant.takes c.take_points.ensures.takes;
  empty = λ none. c.take_points.ensures.empty (c.loop-footer.invariant.empty none);
}

pub returns-clause-takes : goal.returns-clause-takes
returns-clause-takes c =
    takes_footers c.args.footers.now (λ f. f.now.points.items) (get nat_cmp c.args.sums.now) (get nat_cmp c.loop-footer.sums)
    c.loop-footer.footer-index c.loop-footer-test.false c.loop-footer.invariant.takes
