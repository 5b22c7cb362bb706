use Rattle.std.proofs.Common.{take}
use Rattle.std.specs.List.{sum_by}
use Rattle.std.specs.Ordering.{nat_cmp}
use Rattle.std.specs.BTreeMap.{get}
use Rattle.vl_engine_model.specs.Garbage.{pointed_bytes}
use Rattle.vl_stats.specs.Sums.{Takes, HasNoEmpty}
use Rattle.vl_stats.proofs.sums.take_footers.Given as goal

abbrev pub invariant-loop-footer : goal.invariant-loop-footer
invariant-loop-footer l = record {
  takes : Takes (get nat_cmp l.fn.sums) (get nat_cmp l.sums)
      (λ s. sum_by (λ f. pointed_bytes s f.now.points.items) (take l.footer-index l.footers));
  empty : HasNoEmpty (get nat_cmp l.fn.sums) → HasNoEmpty (get nat_cmp l.sums);
}
