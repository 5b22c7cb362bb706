-- A transaction begins, writes the records, and commits.
use Rattle.std.specs.Prelude.{Result, ⊤}
use Rattle.std.proofs.Common.{ap, subst, sym, ◌∙◌}
use Rattle.std.proofs.lemmas.Result.{err_from_is_err_and}
use Rattle.vl_backup.proofs.Batching.{is_ready, not_begun_so, not_written, went_on}
use Rattle.vl_backup.proofs.Calls.{begun_so, both_decided}
use Rattle.vl_backup.proofs.Causes.{begin_never, begin_of_batch, cause_behind, no_cause}
use Rattle.vl_backup.specs.Loading.{CommitsBatch, IsOfBatch, LoadFailed, parts, sealed_for}
use Rattle.vl_backup.specs.declared.fails.LoadFail.{LoadFail}
use Rattle.vl_disk.specs.Faults.{HasCause}
use Rattle.vl_engine_model.specs.Rulings.Begin.{begun}
use Rattle.vl_backup.proofs.loading.commit_batch.Goals as goal

pub returns-in_err-txn-clause-commits : goal.returns-in_err-txn-clause-commits
returns-in_err-txn-clause-commits g c h l lawful works =
    let bytes = g.D.Held.HeldFile.bytes in
    let old = parts c.args.engine.now.core c.args.engine.now.disk in
    let new = parts c.begin.new.self.core c.begin.new.self.disk in
    let batch = c.args.records.now in
    let p = err_from_is_err_and c.from_residual.result c.from_residual.ensures.1 in
    subst (λ (r : Result ⊤ LoadFail). CommitsBatch g.D.Watched bytes old new h l (sealed_for h batch l) batch r) (sym p.1)
    (not_begun_so g.D.Watched (record { only_now = g.met.D.Disk.only_now; counts_now = g.met.D.Disk.counts_now }) bytes old h l
    (sealed_for h batch l) batch works new c.begin.result _ c.in_err-txn.was p.0 p.2
    (both_decided g.D.Watched bytes new h l _ _ _ _ (c.begin.ensures.represents h l works.represents)
    (c.begin.ensures.fits h l works.represents.stands works.fits)) c.begin.ensures.disk)

pub returns-in_err-txn-clause-cause : goal.returns-in_err-txn-clause-cause
returns-in_err-txn-clause-cause g c =
    let faults = g.D.Watched.faults in
    let p = err_from_is_err_and c.from_residual.result c.from_residual.ensures.1 in
    subst (λ (r : Result ⊤ LoadFail). HasCause (faults c.args.engine.now.disk) (faults c.begin.new.self.disk)
    (LoadFailed r)) (sym p.1)
    (no_cause (faults c.args.engine.now.disk) (faults c.begin.new.self.disk) _ (ap faults c.begin.ensures.disk)
    (begin_never _ p.0 p.2))

pub returns-in_err-txn-clause-of_batch : goal.returns-in_err-txn-clause-of_batch
returns-in_err-txn-clause-of_batch g c =
    let p = err_from_is_err_and c.from_residual.result c.from_residual.ensures.1 in
    subst (λ (r : Result ⊤ LoadFail). IsOfBatch r) (sym p.1) (begin_of_batch _ p.0 p.2)

pub returns-in_default-clause-commits : goal.returns-in_default-clause-commits
returns-in_default-clause-commits g c h l lawful works =
    let bytes = g.D.Held.HeldFile.bytes in
    let old = parts c.args.engine.now.core c.args.engine.now.disk in
    let mid = parts c.begin.new.self.core c.begin.new.self.disk in
    let new = parts c.forget.new.self.core c.forget.new.self.disk in
    let txn = c.in_ok-txn.txn in
    let batch = c.args.records.now in
    let b = begun_so g.D.Watched bytes mid h l works.represents.stands.fronts.front.lived txn.ticket txn.number
    (both_decided g.D.Watched bytes mid h l _ _ _ _ (c.in_ok-txn.ensures.represents h l works.represents)
    (c.in_ok-txn.ensures.fits h l works.represents.stands works.fits)) in
    not_written g.D.Watched (record { only_now = g.met.D.Disk.only_now; counts_now = g.met.D.Disk.counts_now }) bytes old h l
    (sealed_for h batch l) batch works mid txn c.write_all.new.txn b c.begin.ensures.disk c.write_all.ensures.keeps new
    (record {
      represents = c.forget.ensures.represents h (begun l txn.ticket txn.number) b.works.represents;
      fits = c.forget.ensures.fits h (begun l txn.ticket txn.number) b.works.fits;
    }) c.forget.ensures.disk

pub returns-in_default-clause-cause : goal.returns-in_default-clause-cause
returns-in_default-clause-cause g c =
    let faults = g.D.Watched.faults in
    no_cause (faults c.args.engine.now.disk) (faults c.forget.new.self.disk) _
    (ap faults c.forget.ensures.disk ∙ ap faults c.begin.ensures.disk) (λ failed. failed)

pub returns-clause-commits : goal.returns-clause-commits
returns-clause-commits g c h l lawful works =
    let bytes = g.D.Held.HeldFile.bytes in
    let old = parts c.args.engine.now.core c.args.engine.now.disk in
    let mid = parts c.begin.new.self.core c.begin.new.self.disk in
    let new = parts c.commit_written.new.engine.core c.commit_written.new.engine.disk in
    let txn = c.in_ok-txn.txn in
    let written = c.write_all.new.txn in
    let batch = c.args.records.now in
    let b = begun_so g.D.Watched bytes mid h l works.represents.stands.fronts.front.lived txn.ticket txn.number
    (both_decided g.D.Watched bytes mid h l _ _ _ _ (c.in_ok-txn.ensures.represents h l works.represents)
    (c.in_ok-txn.ensures.fits h l works.represents.stands works.fits)) in
    let ready = is_ready g.D.Watched (record { only_now = g.met.D.Disk.only_now; counts_now = g.met.D.Disk.counts_now })
    bytes old h l
    (sealed_for h batch l) batch works mid txn written b c.begin.ensures.disk c.write_all.ensures.keeps
    c.in_ok-txn.ensures.fresh
    c.in-Ok.ensures.written lawful in
    went_on g.D.Watched (record { only_now = g.met.D.Disk.only_now; counts_now = g.met.D.Disk.counts_now }) bytes old h l
    (sealed_for h batch l) batch works mid txn written b c.begin.ensures.disk c.write_all.ensures.keeps new
    c.commit_written.result
    (c.commit_written.ensures.commits h (begun l txn.ticket txn.number) batch b.works ready)

pub returns-clause-cause : goal.returns-clause-cause
returns-clause-cause g c =
    let faults = g.D.Watched.faults in
    cause_behind (faults c.args.engine.now.disk) (faults c.begin.new.self.disk) (faults c.commit_written.new.engine.disk) _
    (ap faults c.begin.ensures.disk) c.commit_written.ensures.cause

pub returns-in_err-txn-clause-steady : goal.returns-in_err-txn-clause-steady
returns-in_err-txn-clause-steady g c was = subst g.D.Watched.gives_steady (sym c.begin.ensures.disk) was

pub returns-in_default-clause-steady : goal.returns-in_default-clause-steady
returns-in_default-clause-steady g c was =
    subst g.D.Watched.gives_steady (sym (c.forget.ensures.disk ∙ c.begin.ensures.disk)) was

pub returns-clause-steady : goal.returns-clause-steady
returns-clause-steady g c was = c.commit_written.ensures.steady (subst g.D.Watched.gives_steady (sym c.begin.ensures.disk) was)
