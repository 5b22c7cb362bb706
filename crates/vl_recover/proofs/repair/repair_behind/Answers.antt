use Rattle.vl_recover.specs.repairing.PlanViews.{plan_view}
use Rattle.vl_recover.specs.repairing.Repairing.{WhileStrays, behind_last, behind_strays}
use Rattle.vl_recover.proofs.repairs.Repaired.{all_behind, fails_as, last_failed, log_failed, log_stops, passes_as}
use Rattle.vl_recover.proofs.repairs.Repaired.{so_before, strays_failed}
use Rattle.vl_recover.proofs.repair.repair_behind.Goals as goal

pub returns-in_err-log-clause-at : goal.returns-in_err-log-clause-at
returns-in_err-log-clause-at g c =
    last_failed g.D.Watched (plan_view c.args.plan.now) _ _ c.repair_last.result c.in_err-log.field-0.0 c.from_residual.result
    c.in_err-log.was c.from_residual.ensures.0 c.from_residual.ensures.1 c.repair_last.ensures.at

pub returns-in_err-make_log-clause-repaired : goal.returns-in_err-make_log-clause-repaired
returns-in_err-make_log-clause-repaired g c =
    log_stops g.D.Watched (plan_view c.args.plan.now) _ _ _ c.repair_last.result _ c.make_log.result _
    c.from_residual-in_err-make_log.result
    c.in_ok-log.was c.in_err-make_log.was c.from_residual-in_err-make_log.ensures.0 c.repair_last.ensures.repaired c.make_log.ensures.made

pub returns-in_err-make_log-clause-at : goal.returns-in_err-make_log-clause-at
returns-in_err-make_log-clause-at g c =
    log_failed g.D.Watched (plan_view c.args.plan.now) _ _ _ c.repair_last.result _ c.make_log.result c.in_err-make_log.field-0.0
    c.from_residual-in_err-make_log.result c.in_ok-log.was c.in_err-make_log.was c.from_residual-in_err-make_log.ensures.0
    c.from_residual-in_err-make_log.ensures.1 c.repair_last.ensures.repaired c.make_log.ensures.at

pub returns-in_err-remove_all-clause-repaired : goal.returns-in_err-remove_all-clause-repaired
returns-in_err-remove_all-clause-repaired g c =
    all_behind g.D.Watched (plan_view c.args.plan.now) _ _ _ _ c.repair_last.result _ c.make_log.result _ c.deref.result.now
    c.from_residual-in_err-remove_all.result
    c.in_ok-log.was c.in_ok-make_log.was c.deref.ensures.value c.repair_last.ensures.repaired c.make_log.ensures.made
    (fails_as g.D.Watched (behind_strays c.deref.result.now) (WhileStrays c.deref.result.now) _ _ _ c.remove_all.result
    c.in_err-remove_all.field-0.0
    c.from_residual-in_err-remove_all.result c.in_err-remove_all.was c.from_residual-in_err-remove_all.ensures.0
    c.remove_all.ensures.removed)

pub returns-in_err-remove_all-clause-at : goal.returns-in_err-remove_all-clause-at
returns-in_err-remove_all-clause-at g c =
    strays_failed g.D.Watched (plan_view c.args.plan.now) _ _ _ c.repair_last.result _ _ c.make_log.result _ c.deref.result.now
    c.remove_all.result
    c.in_err-remove_all.field-0.0 c.from_residual-in_err-remove_all.result c.in_ok-log.was c.in_ok-make_log.was c.in_err-remove_all.was
    c.from_residual-in_err-remove_all.ensures.0 c.from_residual-in_err-remove_all.ensures.1 c.deref.ensures.value
    c.repair_last.ensures.repaired
    c.make_log.ensures.made c.remove_all.ensures.at

pub returns-clause-repaired : goal.returns-clause-repaired
returns-clause-repaired g c =
    all_behind g.D.Watched (plan_view c.args.plan.now) _ _ _ _ c.repair_last.result _ c.make_log.result _ c.deref.result.now _
    c.in_ok-log.was c.in_ok-make_log.was c.deref.ensures.value c.repair_last.ensures.repaired c.make_log.ensures.made
    (passes_as g.D.Watched (behind_strays c.deref.result.now) (WhileStrays c.deref.result.now) _ _ _ c.remove_all.result _ c.in_ok-log.log
    c.in_ok-remove_all.was
    c.remove_all.ensures.removed)

pub returns-clause-held : goal.returns-clause-held
returns-clause-held g c =
    so_before (behind_last (plan_view c.args.plan.now).last) _ _ _ c.in_ok-log.ensures.repaired.done c.in_ok-log.ensures.held
