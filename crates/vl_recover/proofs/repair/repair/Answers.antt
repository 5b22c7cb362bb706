use Rattle.std.proofs.Common.{ap}
use Rattle.vl_recover.specs.repairing.PlanViews.{manifest_of}
use Rattle.vl_recover.proofs.repairs.Repaired.{all_repaired, behind_fits, held_before, create_stops, err_is}
use Rattle.vl_recover.proofs.repairs.Repaired.{frame_behind, frame_made, frame_stops, repairing_fails}
use Rattle.vl_recover.proofs.repair.repair.Goals as goal

pub returns-in_err-manifest-clause-repaired : goal.returns-in_err-manifest-clause-repaired
returns-in_err-manifest-clause-repaired g c =
    create_stops g.D.Watched c.args.plan.now _ c.deref.ensures.value _ _ c.create.result c.in_err-manifest.field-0.0
    (manifest_of c.from_residual.result) c.in_err-manifest.was
    (ap manifest_of (err_is c.from_residual.result c.in_err-manifest.field-0.0 c.from_residual.ensures.0 c.from_residual.ensures.1))
    c.create.ensures

pub returns-in_err-manifest-clause-frame : goal.returns-in_err-manifest-clause-frame
returns-in_err-manifest-clause-frame g c =
    frame_stops g.D.Watched c.args.plan.now _ c.deref.ensures.value _ _ c.create.result c.in_err-manifest.field-0.0
    (manifest_of c.from_residual.result) c.in_err-manifest.was
    (ap manifest_of (err_is c.from_residual.result c.in_err-manifest.field-0.0 c.from_residual.ensures.0 c.from_residual.ensures.1))
    c.create.ensures

pub repair_behind-requires-clause-fits : goal.repair_behind-requires-clause-fits
repair_behind-requires-clause-fits g c =
    behind_fits g.D.Watched c.args.plan.now _ c.deref.ensures.value _ _ c.in_ok-manifest.manifest c.create.result c.in_ok-manifest.was
    c.create.ensures c.requires.fits

pub returns-in-Ok-clause-repaired : goal.returns-in-Ok-clause-repaired
returns-in-Ok-clause-repaired g c =
    all_repaired g.D.Watched c.args.plan.now _ c.deref.ensures.value _ _ c.in_ok-manifest.manifest c.create.result c.in_ok-manifest.was
    c.create.ensures _ _ c.in-Ok.ensures.repaired

pub returns-in-Ok-clause-frame : goal.returns-in-Ok-clause-frame
returns-in-Ok-clause-frame g c =
    frame_made g.D.Watched c.args.plan.now _ c.deref.ensures.value _ _ c.in_ok-manifest.manifest c.create.result c.in_ok-manifest.was
    c.create.ensures

pub returns-in-Err-clause-repaired : goal.returns-in-Err-clause-repaired
returns-in-Err-clause-repaired g c =
    repairing_fails g.D.Watched c.args.plan.now _ c.deref.ensures.value _ _ c.in_ok-manifest.manifest c.create.result c.in_ok-manifest.was
    c.create.ensures _ c.in-Err.name c.in-Err.ensures.at c.in-Err.ensures.repaired

pub returns-in-Err-clause-frame : goal.returns-in-Err-clause-frame
returns-in-Err-clause-frame g c =
    frame_behind g.D.Watched c.args.plan.now _ c.deref.ensures.value _ _ c.in_ok-manifest.manifest c.create.result c.in_ok-manifest.was
    c.create.ensures c.in-Err.name

pub returns-in-Ok-clause-held : goal.returns-in-Ok-clause-held
returns-in-Ok-clause-held g c =
    held_before g.D.Watched c.args.plan.now _ c.deref.ensures.value _ _ c.in_ok-manifest.manifest c.create.result c.in_ok-manifest.was
    c.create.ensures _ c.in-Ok.ensures.held
