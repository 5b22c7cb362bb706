use Rattle.std.proofs.Common.{refl}
use Rattle.std.specs.Ordering.{nat_cmp}
use Rattle.std.specs.BTreeMap.{get}
use Rattle.vl_stats.proofs.Steps.{adds_none, adds_footer, adds_footers}
use Rattle.vl_stats.proofs.sums.add_footers.Goals as goal

pub loop-footer-init : goal.loop-footer-init
loop-footer-init c = record { adds = adds_none (get nat_cmp c.args.sums.now) (λ s. 0) (λ s. refl); empty = λ none. none }

pub loop-footer-preserved : goal.loop-footer-preserved
loop-footer-preserved c = record {
  adds = adds_footer c.args.footers.now (λ f. f.now.points.items) (get nat_cmp c.args.sums.now)
      (get nat_cmp c.loop-footer.sums) (get nat_cmp c.add_points.new.sums)
      c.loop-footer.footer-index
      c.footer-item.result c.deref.result.now c.loop-footer-test.true c.footer-item.is c.deref.ensures.value
      c.loop-footer.invariant.adds c.in_ok-add_points.ensures.adds;
  empty = λ none. c.in_ok-add_points.ensures.empty (c.loop-footer.invariant.empty none);
}

pub returns-clause-adds : goal.returns-clause-adds
returns-clause-adds c =
    adds_footers c.args.footers.now (λ f. f.now.points.items) (get nat_cmp c.args.sums.now) (get nat_cmp c.loop-footer.sums)
    c.loop-footer.footer-index c.loop-footer-test.false c.loop-footer.invariant.adds
