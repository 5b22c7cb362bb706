-- A commit to an empty log is the batch, or its refusal is.
use Rattle.vl_backup.proofs.Calls.{called}
use Rattle.vl_backup.proofs.Causes.{cause_before, commit_caused, commit_of_batch}
use Rattle.vl_backup.proofs.Committing.{committed_so, refused_so}
use Rattle.std.proofs.Common.{[], ap, subst, sym}
use Rattle.vl_backup.specs.Loading.{parts}
use Rattle.vl_engine_model.specs.Ruling.{ended}
use Rattle.vl_backup.proofs.loading.commit_first.Goals as goal

pub returns-in-Ok-clause-commits : goal.returns-in-Ok-clause-commits
returns-in-Ok-clause-commits g c h l batch works ready empty =
    let bytes = g.D.Held.HeldFile.bytes in
    let old = parts c.args.engine.now.core c.args.engine.now.disk in
    let new = parts c.commit.new.self.core c.commit.new.self.disk in
    committed_so g.D.Watched (record { only_now = g.met.D.Disk.only_now; counts_now = g.met.D.Disk.counts_now }) bytes old h l
    c.args.txn batch works ready new c.in-Ok.field-0 _ tt
    (called g.D.Watched bytes old new h l _ _ _ _
    (c.in-Ok.ensures.carries h l [] works.represents ready.lives ready.unread)
    (c.in-Ok.ensures.fits h l [] works.represents.stands works.fits ready.lives ready.unread))

pub returns-in-Err-clause-commits : goal.returns-in-Err-clause-commits
returns-in-Err-clause-commits g c h l batch works ready empty =
    let bytes = g.D.Held.HeldFile.bytes in
    let old = parts c.args.engine.now.core c.args.engine.now.disk in
    let mid = parts c.commit.new.self.core c.commit.new.self.disk in
    let new = parts c.refused.new.engine.core c.refused.new.engine.disk in
    refused_so g.D.Watched (record { only_now = g.met.D.Disk.only_now; counts_now = g.met.D.Disk.counts_now }) bytes old h l
    c.args.txn batch works ready mid new c.in-Err.why _ c.refused.result c.refused.ensures.says
    (called g.D.Watched bytes old mid h l _ _ _ _
    (c.in-Err.ensures.carries h l [] works.represents ready.lives ready.unread)
    (c.in-Err.ensures.fits h l [] works.represents.stands works.fits ready.lives ready.unread))
    c.in-Err.ensures.untouched c.in-Err.ensures.back (λ k x is. c.refused.ensures.works k x is) c.refused.ensures.disk
    (λ back long frame is. empty) (ended c.args.txn.ticket l)

pub returns-in-Err-clause-cause : goal.returns-in-Err-clause-cause
returns-in-Err-clause-cause g c =
    let faults = g.D.Watched.faults in
    cause_before (faults c.args.engine.now.disk) (faults c.commit.new.self.disk) (faults c.refused.new.engine.disk) _
    (ap faults c.refused.ensures.disk)
    (commit_caused _ _ c.in-Err.why c.refused.result c.refused.ensures.says c.in-Err.ensures.cause)

pub returns-in-Err-clause-of_batch : goal.returns-in-Err-clause-of_batch
returns-in-Err-clause-of_batch g c = commit_of_batch c.in-Err.why c.refused.result c.refused.ensures.says

pub returns-in-Err-clause-steady : goal.returns-in-Err-clause-steady
returns-in-Err-clause-steady g c was =
    subst g.D.Watched.gives_steady (sym c.refused.ensures.disk) (c.in-Err.ensures.steady was)
