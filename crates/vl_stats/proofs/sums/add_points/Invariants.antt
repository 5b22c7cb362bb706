use Rattle.std.proofs.Common.{take}
use Rattle.std.specs.Ordering.{nat_cmp}
use Rattle.std.specs.BTreeMap.{get}
use Rattle.vl_engine_model.specs.Garbage.{pointed_bytes}
use Rattle.vl_stats.specs.Sums.{Adds, HasNoEmpty}
use Rattle.vl_stats.proofs.sums.add_points.Given as goal

abbrev pub invariant-loop-point : goal.invariant-loop-point
invariant-loop-point l = record {
  adds : Adds (get nat_cmp l.fn.sums) (get nat_cmp l.sums) (λ s. pointed_bytes s (take l.point-index l.points));
  empty : HasNoEmpty (get nat_cmp l.fn.sums) → HasNoEmpty (get nat_cmp l.sums);
}
