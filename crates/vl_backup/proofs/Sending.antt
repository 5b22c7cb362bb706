-- The changes of a view are put into a stream, one after the other.
use Rattle.std.specs.Prelude.{◌≡◌, ◌<◌, ◌≤◌, ◌^◌, ℕ, zero, suc, true, false, List, [], ◌∷◌, ◌++◌, length}
use Rattle.std.specs.Prelude.{Option, Some, None, Result, Ok, Err, refl}
use Rattle.std.proofs.Common.{sym, ap, subst, ◌∙◌, inl, inr, append_assoc, append-nil, arith}
use Rattle.vl_engine_model.specs.Changes.{change_to, changes}
use Rattle.vl_stream.specs.laws.LawfulLaws.{changes_hold, changes_lawful}
use Rattle.vl_stream.specs.laws.TakingLaws.{takes_then}
use Rattle.vl_backup.specs.Backing.{FailsBy, IsAnsweredSince, IsRefused, MayTell, PutStream}
use Rattle.vl_stream.specs.Batches.{Write, batches}
use Rattle.vl_stream.specs.Grammar.{stream_grammar}
use Rattle.vl_stream.specs.Packing.{Packs, PacksOn}
use Rattle.vl_stream.specs.Streams.{HoldsStream, Whole, frames, stream, stream_header}
use Rattle.vl_backup.specs.Fails.{put_fail, read_fail}
use Rattle.vl_backup.specs.declared.fails.BackupFail.{BackupFail}
use Rattle.vl_backup.specs.declared.fails.BackupFail.TheVariants as fails
use Rattle.vl_disk.specs.Faults.{HasCause}
use Rattle.vl_disk.specs.declared.errors.DiskFail.{DiskFail}
use Rattle.vl_disk.specs.declared.errors.DiskFail.TheVariants as disk
use Rattle.vl_disk.specs.declared.name.Name.{Name}
use Rattle.vl_disk.specs.declared.read_fault.ReadFault.{ReadFault}
use Rattle.vl_disk.specs.declared.read_fault.ReadFault.TheVariants as read
use Rattle.vl_io.specs.Sink.{Takes}
use Rattle.vl_model.specs.History.{History}
use Rattle.vl_model.specs.Keys.{Stored}
use Rattle.vl_reads.specs.Changes.{MayTellSince, ShowsChanges}
use Rattle.vl_reads.specs.Reading.{OnlyReads}
use Rattle.vl_reads.specs.declared.past.Past.{Past}
use Rattle.vl_reads.specs.declared.view.View.{View}
use Rattle.vl_version.specs.Changes.{GivesNext}
use Rattle.vl_version.specs.declared.version.Version.{Version}

-- Of all these changes some were put into a stream, and the others are left.
pub record Sends (held now : Option (List ℕ)) (since at count : ℕ) (waiting : List Write)
    (Left : List Write → Type 0) (all : List Write) : Type 0 where
  pub done : List Write
  pub rest : List Write
  pub parts : all ≡ done ++ rest
  pub left : Left rest
  pub bytes : List ℕ
  pub put : Takes held now (stream_header since ++ bytes)
  pub packs : Packs at count waiting bytes done

pub sends_begun : (held now : Option (List ℕ)) (since at count : ℕ) (waiting : List Write)
    (Left : List Write → Type 0) (all : List Write) → Takes held now (stream_header since)
    → Packs at count waiting [] [] → Left all → Sends held now since at count waiting Left all
sends_begun held now since at count waiting Left all header packs left = record {
  done = [];
  rest = all;
  parts = refl;
  left = left;
  bytes = [];
  put = subst (λ (l : List ℕ). Takes held now l) (sym (append-nil (stream_header since))) header;
  packs = packs;
}

-- one more
pub sends_next : (held now after : Option (List ℕ)) (since at at' count count' : ℕ) (waiting waiting' : List Write)
    (Left Left' : List Write → Type 0) (all : List Write) (row : List ℕ × Option Stored)
    → (s : Sends held now since at count waiting Left all) → GivesNext Left' s.rest (Ok (Some row))
    → PacksOn now after s.bytes (λ (got : List ℕ). Packs at' count' waiting' got (s.done ++ (row.0, change_to row.1) ∷ []))
    → Sends held after since at' count' waiting' Left' all
sends_next held now after since at at' count count' waiting waiting' Left Left' all row s gave p =
    let w : Write = (row.0, change_to row.1) in
    record {
      done = s.done ++ w ∷ [];
      rest = gave.0;
      parts = s.parts ∙ ap (λ (l : List Write). s.done ++ l) gave.1 ∙ sym (append_assoc s.done (w ∷ []) gave.0);
      left = gave.2;
      bytes = s.bytes ++ p.more;
      put = subst (λ (l : List ℕ). Takes held after l) (append_assoc (stream_header since) s.bytes p.more)
          (takes_then held now after (stream_header since ++ s.bytes) p.more s.put p.takes);
      packs = p.packs;
    }

-- all
pub sends_ended : (held now after : Option (List ℕ)) (since number at count total : ℕ) (waiting : List Write)
    (Left Left' : List Write → Type 0) (all : List Write) → (s : Sends held now since at count waiting Left all)
    → GivesNext Left' s.rest (Ok None) → total ≡ length s.done
    → PacksOn now after s.bytes (λ (got : List ℕ). got ≡ frames stream_grammar number s.done)
    → (total ≡ length all → HoldsStream (stream since number all) (batches all) Whole)
    → PutStream since number all held after total
sends_ended held now after since number at count total waiting Left Left' all s gave counted p holds =
    let whole : all ≡ s.done = s.parts ∙ ap (λ (l : List Write). s.done ++ l) gave.0 ∙ append-nil s.done in
    record {
      put = subst (λ (l : List ℕ). Takes held after l)
          (append_assoc (stream_header since) s.bytes p.more ∙ ap (λ (l : List ℕ). stream_header since ++ l) p.packs
          ∙ ap (λ (ws : List Write). stream since number ws) (sym whole))
          (takes_then held now after (stream_header since ++ s.bytes) p.more s.put p.takes);
      counted = counted ∙ ap length (sym whole);
      holds = holds (counted ∙ ap length (sym whole));
    }

-- what a view tells is within the limits, so its stream holds it
pub told_held : {H : Type 0} (bytes : H → Option (List ℕ)) (version : Version H) (past : Past) (since number total : ℕ)
    (h : History) → ShowsChanges bytes version past number h → MayTellSince past number since
    → since < 2 ^ 64 → number < 2 ^ 64 → total < 2 ^ 64
    → total ≡ length (changes h since number)
    → HoldsStream (stream since number (changes h since number)) (batches (changes h since number)) Whole
told_held bytes version past since number total h is may since_fits number_fits few counted =
    changes_hold h since number since_fits number_fits (subst (λ (n : ℕ). n < 2 ^ 64) counted few)
    (changes_lawful h is.entries_of is.logs since number past.floor past.gone is.shows is.of is.whole is.floor may is.lawful)

-- ---- a view that only reads

pub same_version : {H R : Type 0} (old new : View H R) → OnlyReads old new → new.version ≡ old.version
same_version {H} {R} old new keeps = ap (λ (v : View H R). v.version) keeps

pub same_number : {H R : Type 0} (old new : View H R) → OnlyReads old new → new.number ≡ old.number
same_number {H} {R} old new keeps = ap (λ (v : View H R). v.number) keeps

pub reads_on : {H R : Type 0} (old mid new : View H R) → OnlyReads old mid → OnlyReads mid new → OnlyReads old new
reads_on {H} {R} old mid new first next = next ∙ ap (λ (v : View H R). record v { reader = new.reader }) first

-- ---- faults

-- what was done didn't fail
pub no_fail : false ≡ true → ⊥
no_fail is = cc

pub no_err : {A E : Type 0} (x : A) (e : E) → Ok x ≡ Err e → ⊥
no_err x e is = cc

-- a change wasn't read
failed_by : (P : ReadFault → Type 0) (why : ReadFault) → P why → FailsBy P (Err (read_fail why))
failed_by P read.NoMemory is = tt
failed_by P (read.Disk name) is = is
failed_by P (read.Damaged name place) is = is

pub fails_by : (P : ReadFault → Type 0) (why : ReadFault) (fail : BackupFail) (said : Result ℕ BackupFail) → said ≡ Err fail
    → fail ≡ read_fail why → P why → FailsBy P said
fails_by P why fail said said_is fail_is is =
    subst (FailsBy P) (sym (said_is ∙ ap Err fail_is)) (failed_by P why is)

-- the next change of those that a view tells is never damaged
not_damaged : (Left : List Write → Type 0) (ws : List Write) (why : ReadFault) (name : Name) (place : ℕ)
    → GivesNext Left ws (Err why) → read_fail why ≡ fails.Damaged name place → ⊥
not_damaged Left ws read.NoMemory name place gives is = cc
not_damaged Left ws (read.Disk at) name place gives is = cc
not_damaged Left ws (read.Damaged at spot) name place gives is = gives

one_fail : (said : Result ℕ BackupFail) (one other : BackupFail) → said ≡ Err one → said ≡ Err other → one ≡ other
one_fail said one other is also = cc

pub never_damaged : (Left : List Write → Type 0) (ws : List Write) (why : ReadFault) (fail : BackupFail)
    (said : Result ℕ BackupFail) (name : Name) (place : ℕ) → GivesNext Left ws (Err why) → said ≡ Err fail
    → fail ≡ read_fail why → said ≡ Err (fails.Damaged name place) → ⊥
never_damaged Left ws why fail said name place gives said_is fail_is is =
    not_damaged Left ws why name place gives (sym fail_is ∙ one_fail said fail (fails.Damaged name place) said_is is)

-- the sink failed
abbrev pub SinkFailed : {T : Type 0} → Result T DiskFail → Type 0
SinkFailed said = said ≡ Err disk.Failed

abbrev PutFailed : Result ℕ BackupFail → Type 0
PutFailed said = said ≡ Err fails.Write

put_caused : {T : Type 0} (before now : ℕ) (why : DiskFail) → HasCause before now (SinkFailed {T = T} (Err why))
    → HasCause before now (PutFailed (Err (put_fail why)))
put_caused {T} before now disk.NoMemory cause = record {
  later = cause.later;
  rose = λ same. absurd (apart same);
  steady = λ other. cause.steady (λ same. below same);
}
  where
    apart : PutFailed (Err fails.NoMemory) → ⊥
    apart same = cc

    below : SinkFailed {T = T} (Err disk.NoMemory) → ⊥
    below same = cc
put_caused {T} before now disk.Failed cause = record {
  later = cause.later;
  rose = λ same. cause.rose refl;
  steady = λ other. absurd (other refl);
}

pub put_fails : {T : Type 0} (begun before now : ℕ) (why : DiskFail) (fail : BackupFail) (said : Result ℕ BackupFail)
    → HasCause before now (SinkFailed {T = T} (Err why)) → before ≡ begun → said ≡ Err fail → fail ≡ put_fail why
    → HasCause begun now (said ≡ Err fails.Write)
put_fails {T} begun before now why fail said cause same said_is fail_is =
    subst (λ (n : ℕ). HasCause n now (PutFailed said)) same
    (subst (λ (r : Result ℕ BackupFail). HasCause before now (PutFailed r)) (sym (said_is ∙ ap Err fail_is))
    (put_caused {T = T} before now why cause))

-- ---- the number

-- a view may tell since a number that both tests let pass
pub may_tell : (past : Past) (number own gone since : ℕ) → own ≡ number → gone ≡ past.gone → since ≤ own
    → (0 < since → gone ≤ since) → MayTellSince past number since
may_tell past number own gone zero own_is gone_is up low = inl refl
may_tell past number own gone (suc since) own_is gone_is up low =
    inr (omega (arith, gone_is, low (omega arith)), omega (arith, own_is, up))

pub answered_sent : (number gone since : ℕ) (result : Result ℕ BackupFail) → (IsRefused result → ⊥) → MayTell number gone since
    → IsAnsweredSince number gone since result
answered_sent number gone since (Ok count) sent may = may
answered_sent number gone since (Err (fails.Ahead own)) sent may = absurd (sent tt)
answered_sent number gone since (Err (fails.TooOld least)) sent may = absurd (sent tt)
answered_sent number gone since (Err fails.NoMemory) sent may = may
answered_sent number gone since (Err (fails.Disk name)) sent may = may
answered_sent number gone since (Err (fails.Damaged name place)) sent may = may
answered_sent number gone since (Err fails.Write) sent may = may
