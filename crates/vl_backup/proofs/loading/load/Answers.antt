-- Batches are read and become commits, to the end of the stream or to what refuses one.
use Rattle.std.specs.Prelude.{◌≡◌, ℕ, List, [], ◌∷◌, ◌++◌, Option, Some, Result, Err, IfNone, IfSome}
use Rattle.std.proofs.Common.{ap, subst, sym, refl, ◌∙◌}
use Rattle.std.proofs.lemmas.Result.{err_from_is_err_and}
use Rattle.vl_backup.proofs.LoadedLaws.{batch_read, ends_at_header, ends_refused}
use Rattle.vl_backup.proofs.LoadedLaws.{ends_unread, ends_well, header_read, none_loaded}
use Rattle.vl_backup.proofs.LoadedLaws.{one_more_loaded}
use Rattle.vl_backup.specs.Loading.{Loads, parts}
use Rattle.vl_backup.specs.declared.fails.LoadFail.{LoadFail}
use Rattle.vl_stream.specs.Batches.{Write}
use Rattle.vl_stream.specs.Grammar.{stream_grammar}
use Rattle.vl_stream.specs.Pieces.{AreChanges}
use Rattle.vl_stream.specs.Reading.{GaveBatch}
use Rattle.vl_stream.specs.Streams.{Holds, Whole}
use Rattle.vl_stream.specs.declared.batch.Batch.{Batch}
use Rattle.vl_stream.specs.declared.fail.StreamFail.{StreamFail}
use Rattle.vl_backup.proofs.loading.load.Goals as goal

pub loop-reader-init : goal.loop-reader-init
loop-reader-init g c = record {
  done = [];
  loaded = none_loaded g.D.Watched (record { only_now = g.met.D.Disk.only_now; counts_now = g.met.D.Disk.counts_now })
      g.D.Held.HeldFile.bytes
      (parts c.args.engine.now.core c.args.engine.now.disk);
  read = λ input told.
      let first = c.in_ok-reader.ensures.first in
      header_read input (g.S.Source.left c.begin.new.source) c.in_ok-reader.reader.at c.in_ok-reader.reader.last
      c.in_ok-reader.reader.records (c.in_ok-reader.ensures.begun input told) first.0 first.1 first.2;
  unfailed = refl;
  quiet = c.in_ok-reader.ensures.cause.steady (λ e. cc);
  merging = refl;
  passing = refl;
  steady = λ was. was;
}

pub loop-reader-preserved : goal.loop-reader-preserved
loop-reader-preserved g c =
    let left = g.S.Source.left in
    let before = c.loop-reader.reader in
    let after = c.next.new.self in
    let done = c.loop-reader.invariant.done in
    let batch = c.deref.result.now in
    let lawful = subst (λ (ws : List Write). AreChanges ws) (sym c.deref.ensures.value)
    (subst (λ (o : Option Batch). IfSome o (λ (b : Batch). AreChanges b.records.items)) c.in-Some.is
    c.in_ok-batch.ensures.lawful) in
    record {
      done = done ++ batch ∷ [];
      loaded = one_more_loaded g.D.Watched (record { only_now = g.met.D.Disk.only_now; counts_now = g.met.D.Disk.counts_now })
          g.D.Held.HeldFile.bytes (parts c.args.engine.now.core c.args.engine.now.disk)
          (parts c.loop-reader.engine.core c.loop-reader.engine.disk)
          (parts c.commit_batch.new.engine.core c.commit_batch.new.engine.disk) done batch c.loop-reader.invariant.loaded tt
          (λ k x works. c.in_ok-commit_batch.ensures.commits k x lawful works);
      read = λ input told.
          let r = c.loop-reader.invariant.read input told in
          batch_read input (left c.loop-reader.source) (left c.next.new.source) before.at after.at before.last after.last
          before.records after.records done batch r
          (subst (λ (ws : List Write). GaveBatch before.at before.last before.records r.now after.at after.last after.records
          (left c.next.new.source) ws) (sym c.deref.ensures.value)
          (subst (λ (o : Option Batch). IfSome o
          (λ (b : Batch). GaveBatch before.at before.last before.records r.now after.at after.last
          after.records (left c.next.new.source) b.records.items)) c.in-Some.is (c.in_ok-batch.ensures.batch r.now r.left_is)));
      unfailed = c.in_ok-commit_batch.ensures.cause.steady (λ failed. failed) ∙ c.loop-reader.invariant.unfailed;
      quiet = c.in_ok-batch.ensures.cause.steady (λ e. cc) ∙ c.loop-reader.invariant.quiet;
      merging = c.in_ok-commit_batch.ensures.merging ∙ c.loop-reader.invariant.merging;
      passing = c.in_ok-commit_batch.ensures.passing ∙ c.loop-reader.invariant.passing;
      steady = λ was. c.in_ok-commit_batch.ensures.steady (c.loop-reader.invariant.steady was);
    }

pub returns-in_err-reader-clause-loads : goal.returns-in_err-reader-clause-loads
returns-in_err-reader-clause-loads g c =
    let bytes = g.D.Held.HeldFile.bytes in
    let left = g.S.Source.left c.args.source.now in
    let rest = g.S.Source.left c.begin.new.source in
    let e = parts c.args.engine.now.core c.args.engine.now.disk in
    let p = err_from_is_err_and c.from_residual.result c.from_residual.ensures.1 in
    subst (λ (r : Result ℕ LoadFail). Loads g.D.Watched bytes left rest e e r) (sym p.1)
    (ends_at_header g.D.Watched (record { only_now = g.met.D.Disk.only_now; counts_now = g.met.D.Disk.counts_now }) bytes
    left rest e
    c.in_err-reader.field-0.0 p.0 p.2
    (λ input told same. c.in_err-reader.ensures.other input told (ap (λ (w : StreamFail). Err w) same))
    (λ input format told same. c.in_err-reader.ensures.newer input format told (ap (λ (w : StreamFail). Err w) same))
    (λ place same. c.in_err-reader.ensures.sound place (ap (λ (w : StreamFail). Err w) same)))

pub returns-in_err-batch-clause-loads : goal.returns-in_err-batch-clause-loads
returns-in_err-batch-clause-loads g c =
    let bytes = g.D.Held.HeldFile.bytes in
    let left = g.S.Source.left c.args.source.now in
    let rest = g.S.Source.left c.next.new.source in
    let old = parts c.args.engine.now.core c.args.engine.now.disk in
    let new = parts c.loop-reader.engine.core c.loop-reader.engine.disk in
    let reader = c.loop-reader.reader in
    let p = err_from_is_err_and c.from_residual-in_err-batch.result c.from_residual-in_err-batch.ensures.1 in
    subst (λ (r : Result ℕ LoadFail). Loads g.D.Watched bytes left rest old new r) (sym p.1)
    (ends_unread g.D.Watched (record { only_now = g.met.D.Disk.only_now; counts_now = g.met.D.Disk.counts_now }) bytes left
    rest old new
    c.loop-reader.invariant.done reader.at reader.last reader.records (g.S.Source.left c.loop-reader.source)
    c.in_err-batch.field-0.0 p.0 p.2
    c.loop-reader.invariant.loaded c.loop-reader.invariant.read
    (λ now place told same. c.in_err-batch.ensures.damaged now place told (ap (λ (w : StreamFail). Err w) same))
    (λ same. c.in_err-batch.ensures.other (ap (λ (w : StreamFail). Err w) same))
    (λ format same. c.in_err-batch.ensures.newer format (ap (λ (w : StreamFail). Err w) same)))

pub returns-in_err-commit_batch-clause-loads : goal.returns-in_err-commit_batch-clause-loads
returns-in_err-commit_batch-clause-loads g c =
    let bytes = g.D.Held.HeldFile.bytes in
    let left = g.S.Source.left c.args.source.now in
    let rest = g.S.Source.left c.next.new.source in
    let old = parts c.args.engine.now.core c.args.engine.now.disk in
    let mid = parts c.loop-reader.engine.core c.loop-reader.engine.disk in
    let new = parts c.commit_batch.new.engine.core c.commit_batch.new.engine.disk in
    let before = c.loop-reader.reader in
    let after = c.next.new.self in
    let done = c.loop-reader.invariant.done in
    let batch = c.deref.result.now in
    let lawful = subst (λ (ws : List Write). AreChanges ws) (sym c.deref.ensures.value)
    (subst (λ (o : Option Batch). IfSome o (λ (b : Batch). AreChanges b.records.items)) c.in-Some.is
    c.in_ok-batch.ensures.lawful) in
    let p = err_from_is_err_and c.from_residual-in_err-commit_batch.result c.from_residual-in_err-commit_batch.ensures.1 in
    subst (λ (r : Result ℕ LoadFail). Loads g.D.Watched bytes left rest old new r)
    (sym (p.1 ∙ ap (λ (w : LoadFail). Err w) p.2))
    (ends_refused g.D.Watched (record { only_now = g.met.D.Disk.only_now; counts_now = g.met.D.Disk.counts_now }) bytes left
    rest old mid new
    done batch after.at after.last after.records c.in_err-commit_batch.field-0.0 c.in_err-commit_batch.ensures.of_batch
    c.loop-reader.invariant.loaded
    (λ input told.
    let r = c.loop-reader.invariant.read input told in
    batch_read input (g.S.Source.left c.loop-reader.source) rest before.at after.at before.last after.last
    before.records after.records done batch r
    (subst (λ (ws : List Write). GaveBatch before.at before.last before.records r.now after.at after.last after.records rest ws)
    (sym c.deref.ensures.value)
    (subst (λ (o : Option Batch). IfSome o
    (λ (b : Batch). GaveBatch before.at before.last before.records r.now after.at after.last
    after.records rest b.records.items)) c.in-Some.is (c.in_ok-batch.ensures.batch r.now r.left_is))))
    (λ k x works. c.in_err-commit_batch.ensures.commits k x lawful works))

pub returns-clause-loads : goal.returns-clause-loads
returns-clause-loads g c =
    let bytes = g.D.Held.HeldFile.bytes in
    let left = g.S.Source.left c.args.source.now in
    let rest = g.S.Source.left c.next.new.source in
    let old = parts c.args.engine.now.core c.args.engine.now.disk in
    let new = parts c.loop-reader.engine.core c.loop-reader.engine.disk in
    let before = c.loop-reader.reader in
    let after = c.next.new.self in
    ends_well g.D.Watched (record { only_now = g.met.D.Disk.only_now; counts_now = g.met.D.Disk.counts_now }) bytes left
    rest old new
    c.loop-reader.invariant.done before.at before.last before.records c.records.result (g.S.Source.left c.loop-reader.source)
    c.loop-reader.invariant.loaded c.loop-reader.invariant.read
    (λ now told. (
      subst (λ (o : Option Batch). IfNone o (Holds stream_grammar before.at before.last before.records now [] Whole))
          c.in_default.is
          (c.in_ok-batch.ensures.whole now told),
      subst (λ (o : Option Batch). IfNone o (rest ≡ Some [])) c.in_default.is (c.in_ok-batch.ensures.drained now told),
    ))
    (c.records.ensures
    ∙ subst (λ (o : Option Batch). IfNone o (after.records ≡ before.records)) c.in_default.is c.in_ok-batch.ensures.counted)

pub returns-in_err-commit_batch-clause-steady : goal.returns-in_err-commit_batch-clause-steady
returns-in_err-commit_batch-clause-steady g c was = c.in_err-commit_batch.ensures.steady (c.loop-reader.invariant.steady was)
