use Rattle.vl_recover.specs.repairing.PlanViews.{step_of}
use Rattle.vl_recover.proofs.repairs.Holding.{hold_fails, hold_named, is_held, stands_mended}
use Rattle.vl_recover.proofs.last.repair_last.Goals as goal

pub hold_log-requires-clause-stands : goal.hold_log-requires-clause-stands
hold_log-requires-clause-stands g c =
    stands_mended g.D.Watched (step_of c.args.last) _ _ c.mend_last.result _ c.in_ok-mend_last.was c.mend_last.ensures.repaired
    c.in-Some.hold c.args.hold c.in-Some.is c.requires.holds c.requires.stands

pub returns-in_err-hold_log-clause-repaired : goal.returns-in_err-hold_log-clause-repaired
returns-in_err-hold_log-clause-repaired g c =
    hold_fails g.D.Watched (step_of c.args.last) _ _ c.mend_last.result _ c.in_ok-mend_last.was c.mend_last.ensures.repaired
    c.in-Some.hold c.args.hold c.in-Some.is c.requires.holds _ c.hold_log.result c.hold_log.ensures.no_change
    c.in_err-hold_log.field-0.0 c.from_residual-in_err-hold_log.result c.in_err-hold_log.was c.from_residual-in_err-hold_log.ensures.0

pub returns-in_err-hold_log-clause-at : goal.returns-in_err-hold_log-clause-at
returns-in_err-hold_log-clause-at g c =
    hold_named g.D.Watched (step_of c.args.last) _ _ c.mend_last.result _ c.in_ok-mend_last.was c.mend_last.ensures.repaired
    c.in-Some.hold c.args.hold c.in-Some.is c.requires.holds _ c.hold_log.result c.hold_log.ensures.no_change
    c.in_err-hold_log.field-0.0 c.from_residual-in_err-hold_log.result c.in_err-hold_log.was c.from_residual-in_err-hold_log.ensures.0
    c.from_residual-in_err-hold_log.ensures.1 c.hold_log.ensures.at

pub returns-clause-repaired : goal.returns-clause-repaired
returns-clause-repaired g c =
    is_held g.D.Watched (step_of c.args.last) _ _ c.mend_last.result _ c.in_ok-mend_last.was c.mend_last.ensures.repaired
    c.in-Some.hold c.args.hold c.in-Some.is c.requires.holds _ c.hold_log.result c.hold_log.ensures.no_change
    c.in_ok-hold_log.field-0 _ c.in_ok-hold_log.was
