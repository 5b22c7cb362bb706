-- A commit is the batch; or the log had no room; or it was refused.
use Rattle.std.proofs.Common.{[], ap, rules, subst, sym, ◌∙◌}
use Rattle.vl_backup.proofs.Calls.{called}
use Rattle.vl_backup.proofs.Causes.{cause_before, cause_behind, commit_caused, commit_of_batch, full_unfailed}
use Rattle.vl_backup.proofs.Committing.{called_full, committed_there, handed_full, left_full, refused_so, went_full}
use Rattle.vl_backup.specs.Loading.{parts, sealed_for}
use Rattle.vl_engine_model.specs.Ruling.{ended}
use Rattle.vl_backup.proofs.loading.commit_written.Goals as goal

pub returns-in-Ok-clause-commits : goal.returns-in-Ok-clause-commits
returns-in-Ok-clause-commits g c h l batch works ready =
    let bytes = g.D.Held.HeldFile.bytes in
    let old = parts c.args.engine.now.core c.args.engine.now.disk in
    let new = parts c.commit.new.self.core c.commit.new.self.disk in
    committed_there g.D.Watched (record { only_now = g.met.D.Disk.only_now; counts_now = g.met.D.Disk.counts_now }) bytes
    old h l
    c.args.txn batch works ready new c.in-Ok.field-0 _ tt
    (called g.D.Watched bytes old new h l _ _ _ _
    (c.in-Ok.ensures.carries h l [] works.represents ready.lives ready.unread)
    (c.in-Ok.ensures.fits h l [] works.represents.stands works.fits ready.lives ready.unread))

pub returns-in-Full-clause-commits : goal.returns-in-Full-clause-commits
returns-in-Full-clause-commits g c h l batch works ready =
    let bytes = g.D.Held.HeldFile.bytes in
    let old = parts c.args.engine.now.core c.args.engine.now.disk in
    let mid = parts c.commit.new.self.core c.commit.new.self.disk in
    let new = parts c.commit_full.new.engine.core c.commit_full.new.engine.disk in
    went_full g.D.Watched (record { only_now = g.met.D.Disk.only_now; counts_now = g.met.D.Disk.counts_now }) bytes old h l
    c.args.txn batch works ready mid new c.in-Full.txn c.in-Full.length c.in-Full.frame _ c.commit_full.result
    (c.in-Err.ensures.back c.in-Full.txn (handed_full _ c.in-Full.txn c.in-Full.length c.in-Full.frame c.in-Full.is))
    (called_full g.D.Watched bytes old mid h l _ _ _ c.in-Full.txn c.in-Full.length c.in-Full.frame c.in-Full.is
    (called g.D.Watched bytes old mid h l _ _ _ _
    (c.in-Err.ensures.carries h l [] works.represents ready.lives ready.unread)
    (c.in-Err.ensures.fits h l [] works.represents.stands works.fits ready.lives ready.unread)))
    (c.in-Err.ensures.untouched (left_full _ c.in-Full.txn c.in-Full.length c.in-Full.frame c.in-Full.is))
    (λ there ready_then full. c.commit_full.ensures.commits h l batch there ready_then full)

pub returns-in-Full-clause-cause : goal.returns-in-Full-clause-cause
returns-in-Full-clause-cause g c =
    let faults = g.D.Watched.faults in
    cause_behind (faults c.args.engine.now.disk) (faults c.commit.new.self.disk) (faults c.commit_full.new.engine.disk) _
    (c.in-Err.ensures.cause.steady
    (full_unfailed _ c.in-Full.txn c.in-Full.length c.in-Full.frame c.in-Full.is)) c.commit_full.ensures.cause

pub returns-in-Full-clause-steady : goal.returns-in-Full-clause-steady
returns-in-Full-clause-steady g c was = c.commit_full.ensures.steady (c.in-Err.ensures.steady was)

pub returns-in_default : goal.returns-in_default
returns-in_default g c =
    let faults = g.D.Watched.faults in
    let bytes = g.D.Held.HeldFile.bytes in
    let old = parts c.args.engine.now.core c.args.engine.now.disk in
    let mid = parts c.commit.new.self.core c.commit.new.self.disk in
    let new = parts c.refused.new.engine.core c.refused.new.engine.disk in
    record {
      commits = λ h l batch works ready.
          refused_so g.D.Watched (record { only_now = g.met.D.Disk.only_now; counts_now = g.met.D.Disk.counts_now }) bytes
          old h l
          c.args.txn batch works ready mid new c.in-Err.why _ c.refused.result c.refused.ensures.says
          (called g.D.Watched bytes old mid h l _ _ _ _
          (c.in-Err.ensures.carries h l [] works.represents ready.lives ready.unread)
          (c.in-Err.ensures.fits h l [] works.represents.stands works.fits ready.lives ready.unread))
          c.in-Err.ensures.untouched c.in-Err.ensures.back (λ k x is. c.refused.ensures.works k x is) c.refused.ensures.disk
          (λ back long frame is. absurd (c.in_default.not-Full back long frame is))
          (sealed_for h batch (ended c.args.txn.ticket l));
      cause = cause_before (faults c.args.engine.now.disk) (faults c.commit.new.self.disk) (faults c.refused.new.engine.disk) _
          (ap faults c.refused.ensures.disk)
          (commit_caused _ _ c.in-Err.why c.refused.result c.refused.ensures.says c.in-Err.ensures.cause);
      of_batch = commit_of_batch c.in-Err.why c.refused.result c.refused.ensures.says;
      merging = c.refused.ensures.merging ∙ c.in-Err.ensures.merging;
      passing = search rules;
      steady = λ was. subst g.D.Watched.gives_steady (sym c.refused.ensures.disk) (c.in-Err.ensures.steady was);
    }
