-- An empty log refuses the batch, and another one is sealed first.
use Rattle.std.proofs.Common.{ap, arith, refl, subst, sym}
use Rattle.vl_backup.proofs.Calls.{called}
use Rattle.vl_backup.proofs.Causes.{cause_before, cause_behind, no_cause, step_caused, step_of_batch}
use Rattle.vl_backup.proofs.Committing.{has_no_room, step_refused_as, went_first}
use Rattle.vl_backup.specs.Loading.{parts}
use Rattle.vl_engine_model.specs.Ruling.{ended}
use Rattle.vl_engine_model.specs.Rulings.Rotate.{rotated}
use Rattle.vl_backup.proofs.loading.commit_full.Goals as goal

pub returns-then-length-clause-commits : goal.returns-then-length-clause-commits
returns-then-length-clause-commits g c h l batch works ready full =
    has_no_room g.D.Watched (record { only_now = g.met.D.Disk.only_now; counts_now = g.met.D.Disk.counts_now })
    g.D.Held.HeldFile.bytes
    (parts c.args.engine.now.core c.args.engine.now.disk) h l c.args.txn batch works ready
    (parts c.forget.new.self.core c.forget.new.self.disk) c.args.length c.args.frame full (omega arith)
    (record { represents = c.forget.ensures.represents h l works.represents; fits = c.forget.ensures.fits h l works.fits })
    c.forget.ensures.disk (rotated (ended c.args.txn.ticket l))

pub returns-in-Ok-clause-commits : goal.returns-in-Ok-clause-commits
returns-in-Ok-clause-commits g c h l batch works ready full =
    let bytes = g.D.Held.HeldFile.bytes in
    let old = parts c.args.engine.now.core c.args.engine.now.disk in
    let mid = parts c.rotate.new.self.core c.rotate.new.self.disk in
    let new = parts c.commit_first.new.engine.core c.commit_first.new.engine.disk in
    went_first g.D.Watched (record { only_now = g.met.D.Disk.only_now; counts_now = g.met.D.Disk.counts_now }) bytes old h l
    c.args.txn
    batch works ready c.args.length c.args.frame full (omega arith) mid new c.in-Ok.field-0 _ c.commit_first.result
    (called g.D.Watched bytes old mid h l _ _ _ _ (c.in-Ok.ensures.carries h l works.represents)
    (c.in-Ok.ensures.fits h l works.represents.stands works.fits))
    (λ there ready_then. c.commit_first.ensures.commits h (rotated l) batch there ready_then refl)

pub returns-in-Err-clause-commits : goal.returns-in-Err-clause-commits
returns-in-Err-clause-commits g c h l batch works ready full =
    let bytes = g.D.Held.HeldFile.bytes in
    let old = parts c.args.engine.now.core c.args.engine.now.disk in
    let mid = parts c.rotate.new.self.core c.rotate.new.self.disk in
    let new = parts c.forget-in-Err.new.self.core c.forget-in-Err.new.self.disk in
    step_refused_as g.D.Watched (record { only_now = g.met.D.Disk.only_now; counts_now = g.met.D.Disk.counts_now }) bytes
    old h l c.args.txn
    batch works ready c.args.length c.args.frame full (omega arith) mid new
    (λ k x is. record {
      represents = c.forget-in-Err.ensures.represents k x is.represents;
      fits = c.forget-in-Err.ensures.fits k x is.fits;
    })
    c.forget-in-Err.ensures.disk c.in-Err.why c.into.result _ c.into.ensures
    (called g.D.Watched bytes old mid h l _ _ _ _ (c.in-Err.ensures.carries h l works.represents)
    (c.in-Err.ensures.fits h l works.represents.stands works.fits))

pub returns-then-length-clause-cause : goal.returns-then-length-clause-cause
returns-then-length-clause-cause g c =
    let faults = g.D.Watched.faults in
    no_cause (faults c.args.engine.now.disk) (faults c.forget.new.self.disk) _ (ap faults c.forget.ensures.disk)
    (λ failed. failed)

pub returns-in-Ok-clause-cause : goal.returns-in-Ok-clause-cause
returns-in-Ok-clause-cause g c =
    let faults = g.D.Watched.faults in
    cause_behind (faults c.args.engine.now.disk) (faults c.rotate.new.self.disk) (faults c.commit_first.new.engine.disk) _
    (c.in-Ok.ensures.cause.steady (λ failed. failed)) c.commit_first.ensures.cause

pub returns-in-Err-clause-cause : goal.returns-in-Err-clause-cause
returns-in-Err-clause-cause g c =
    let faults = g.D.Watched.faults in
    cause_before (faults c.args.engine.now.disk) (faults c.rotate.new.self.disk) (faults c.forget-in-Err.new.self.disk) _
    (ap faults c.forget-in-Err.ensures.disk) (step_caused _ _ c.in-Err.why c.into.result c.into.ensures c.in-Err.ensures.cause)

pub returns-in-Err-clause-of_batch : goal.returns-in-Err-clause-of_batch
returns-in-Err-clause-of_batch g c = step_of_batch c.in-Err.why c.into.result c.into.ensures

pub returns-then-length-clause-steady : goal.returns-then-length-clause-steady
returns-then-length-clause-steady g c was = subst g.D.Watched.gives_steady (sym c.forget.ensures.disk) was

pub returns-in-Ok-clause-steady : goal.returns-in-Ok-clause-steady
returns-in-Ok-clause-steady g c was = c.commit_first.ensures.steady (c.in-Ok.ensures.steady was)

pub returns-in-Err-clause-steady : goal.returns-in-Err-clause-steady
returns-in-Err-clause-steady g c was =
    subst g.D.Watched.gives_steady (sym c.forget-in-Err.ensures.disk) (c.in-Err.ensures.steady was)
