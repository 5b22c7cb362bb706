use Rattle.std.proofs.Common.{arith}
use Rattle.vl_recover.proofs.repairs.Removals.{can_here, can_next, left_from, none_left, removing_ends}
use Rattle.vl_recover.proofs.repairs.Removals.{removing_failed, removing_goes_on, removing_stops}
use Rattle.vl_recover.proofs.repair.remove_all.Goals as goal

pub remove-requires : goal.remove-requires
remove-requires g c = can_here c.args.names.now c.loop-name.name-index (omega arith) _ c.loop-name.invariant.can

pub returns-in_err-at-clause-removed : goal.returns-in_err-at-clause-removed
returns-in_err-at-clause-removed g c =
    removing_stops g.D.Watched _ _ _ _ _ _ _ (left_from c.args.names.now c.loop-name.name-index (omega arith))
    c.loop-name.invariant.so_far c.at.result
    c.remove.result _ c.from_residual.result c.at.ensures c.in_err-at.was c.from_residual.ensures.0 c.remove.ensures

pub loop-name-preserved : goal.loop-name-preserved
loop-name-preserved g c = record {
  can = can_next c.args.names.now c.loop-name.name-index (omega arith) _ c.loop-name.invariant.can _ c.remove.result c.at.result _
      c.at.ensures c.in_ok-at.was c.remove.ensures.removed;
  so_far = removing_goes_on g.D.Watched _ _ _ _ _ _ _ (left_from c.args.names.now c.loop-name.name-index (omega arith))
      c.loop-name.invariant.so_far c.at.result
      c.remove.result _ c.at.ensures c.in_ok-at.was c.remove.ensures;
}

pub returns-clause-removed : goal.returns-clause-removed
returns-clause-removed g c = removing_ends g.D.Watched _ _ _ _ (none_left c.args.names.now c.loop-name.name-index (omega arith))
    c.loop-name.invariant.so_far

pub returns-in_err-at-clause-at : goal.returns-in_err-at-clause-at
returns-in_err-at-clause-at g c =
    removing_failed g.D.Watched _ _ _ _ _ _ _ (left_from c.args.names.now c.loop-name.name-index (omega arith))
    c.loop-name.invariant.so_far c.at.result
    c.remove.result _ c.from_residual.result c.at.ensures c.in_err-at.was c.from_residual.ensures.0 c.from_residual.ensures.1
    c.remove.ensures
