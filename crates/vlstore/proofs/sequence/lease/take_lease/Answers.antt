use Rattle.std.proofs.Common.{◌≡◌, true, List, [], ◌∷◌, ◌+◌, ℕ, refl, sym, ◌∙◌, subst, inl, inr}
use Rattle.std.specs.FinMap.{entries}
use Rattle.std.specs.Prelude.{Option}
use Rattle.vl_drive.specs.Answers.{asked}
use Rattle.vl_engine_model.specs.Rulings.Commit.{CommitAnswer}
use Rattle.vl_model.specs.History.{History, value_at}
use Rattle.vl_model.specs.Keys.{Stored, Writes}
use Rattle.vl_model.specs.Reads.{KeyRead, Read}
use Rattle.vl_reads.specs.Sees.{Sees}
use Rattle.vl_sequence.proofs.Beginnings.{passed_up}
use Rattle.vl_sequence.proofs.Taking.{takes}
use Rattle.vl_sequence.proofs.Writing.{some_written}
use Rattle.vl_sequence.specs.Causes.{IsRuled, WasFull}
use Rattle.vl_sequence.specs.Sequences.{Puts, lease_writes}
use Rattle.vlstore.proofs.Leasing.{asks, finds, no_number}
use Rattle.vlstore.proofs.Shopping.{goes_on, looks_itself}
use Rattle.vlstore.specs.Counting.{WasCounted}
use Rattle.vlstore.specs.Lists.{history_by}
use Rattle.vlstore.specs.Sequences.{IsNoNumber}
use Rattle.vlstore.specs.Shops.{known_by, origin_of}
use Rattle.vlstore.proofs.sequence.lease.take_lease.Goals as goal

pub commit-requires-clause-sees : goal.commit-requires-clause-sees
commit-requires-clause-sees g c told =
    let u = c.begin.new.session in
    let h = history_by u.origin u.seen in
    let key = c.args.key.now in
    let sees = c.in_ok-txn.ensures.sees (sym c.begin.ensures.on.tells ∙ told) in
    (h, KeyRead key (value_at h c.in_ok-txn.txn.number key) ∷ [], c.in-Ok.ensures.sees h [] sees)

pub commit-requires-clause-writes : goal.commit-requires-clause-writes
commit-requires-clause-writes g c none =
    some_written c.args.key.now (c.in-Ok.first + c.args.lease) c.raise.new.txn.writes c.in-Ok.ensures.writes none

pub returns-in_ok-commit-in-Ok-clause-took : goal.returns-in_ok-commit-in-Ok-clause-took
returns-in_ok-commit-in-Ok-clause-took g c told =
    let session = c.begin.new.session in
    let v = known_by c.args.session.now in
    let u = known_by session in
    let w = known_by c.commit.new.session in
    let h = history_by session.origin session.seen in
    let key = c.args.key.now in
    let begun = c.in_ok-txn.txn in
    let last = c.raise.new.txn in
    let end = c.in-Ok.first + c.args.lease in
    let value = value_at h begun.number key in
    let sees = c.in_ok-txn.ensures.sees told in
    let puts = subst (λ (n : ℕ). Puts u w last.ticket n (KeyRead key value ∷ []) (lease_writes key end)) c.in-Ok.ensures.number
    (subst (λ (ws : Writes). Puts u w last.ticket last.number (KeyRead key value ∷ []) ws) c.in-Ok.ensures.writes
    (c.in_ok-commit-in-Ok.ensures.puts (c.begin.ensures.on.tells ∙ told) h (KeyRead key value ∷ []) (c.in-Ok.ensures.sees h [] sees))) in
    takes v u u begun.ticket begun.number key value (c.in_ok-txn.ensures.begun told) (looks_itself session) refl
    c.reads_without_conflict_stay_explained.ensures w last.ticket c.in-Ok.first end puts (c.in-Ok.ensures.told h [] sees)
    c.in-Ok.ensures.fits c.in-Ok.ensures.ticket (c.in_ok-commit-in-Ok.ensures.closes (c.begin.ensures.on.tells ∙ told))

-- no transaction was begun

pub returns-in_err-txn-clause-cause : goal.returns-in_err-txn-clause-cause
returns-in_err-txn-clause-cause g c =
    let v = c.args.session.now in
    let w = c.begin.new.session in
    let why = c.in_err-txn.field-0.0 in
    passed_up c.from_residual.result why (IsNoNumber g.D.Watched.faults (λ r. g.D.Reader.Reader.faults r) v w c.args.key.now c.args.lease) c.from_residual.ensures.1
    (no_number g.D.Watched.faults (λ r. g.D.Reader.Reader.faults r) (v.tells ≡ true → WasFull (known_by w)) (λ value. ⊥) (λ answer. ⊥) ⊥
    v w c.args.key.now c.args.lease why
    (λ full. full) (λ value no. absurd no) (λ answer no. absurd no) (λ no. absurd no) (c.in_err-txn.ensures.cause c.args.lease))

-- the key wasn't raised

pub returns-in-Err-clause-cause : goal.returns-in-Err-clause-cause
returns-in-Err-clause-cause g c =
    let v = c.args.session.now in
    let u = c.begin.new.session in
    let w = c.give_up.new.session in
    let key = c.args.key.now in
    let begun = c.in_ok-txn.txn in
    let had : Option Stored → Type 0 = λ value. (h : History) (reads : List Read) → Sees g.D.Held.HeldFile.bytes begun h reads
    → value ≡ value_at h begun.number key in
    no_number g.D.Watched.faults (λ r. g.D.Reader.Reader.faults r) ⊥ had (λ answer. ⊥) _ v w key c.args.lease c.in-Err.why (λ no. absurd no)
    (λ value read told. finds (known_by v) (known_by u) (known_by w) begun.ticket begun.number key value
    (c.in_ok-txn.ensures.begun told) (goes_on u w c.give_up.ensures.on)
    (read (history_by u.origin u.seen) [] (c.in_ok-txn.ensures.sees told)))
    (λ answer no. absurd no)
    (λ failed. inr (record { before = failed.before.inner; after = failed.after.inner; rose = failed.rose })) c.in-Err.ensures.cause

-- it wasn't committed

pub returns-in_err-commit-in-Ok-clause-cause : goal.returns-in_err-commit-in-Ok-clause-cause
returns-in_err-commit-in-Ok-clause-cause g c =
    let v = c.args.session.now in
    let u = c.begin.new.session in
    let w = c.commit.new.session in
    let key = c.args.key.now in
    let begun = c.in_ok-txn.txn in
    let last = c.raise.new.txn in
    let h = history_by u.origin u.seen in
    let reads = KeyRead key (value_at h begun.number key) ∷ [] in
    let writes = lease_writes key (c.in-Ok.first + c.args.lease) in
    let why = c.in_err-commit-in-Ok.field-0.0 in
    let ruled : CommitAnswer → Type 0 = λ answer. u.tells ≡ true → (h : History) (reads : List Read)
    → Sees g.D.Held.HeldFile.bytes last h reads
    → IsRuled (origin_of u.origin) u.seen w.seen (asked last.ticket last.number reads (entries last.writes)) answer in
    passed_up c.from_residual-in_err-commit-in-Ok.result why (IsNoNumber g.D.Watched.faults (λ r. g.D.Reader.Reader.faults r) v w key c.args.lease)
    c.from_residual-in_err-commit-in-Ok.ensures.1
    (no_number g.D.Watched.faults (λ r. g.D.Reader.Reader.faults r) ⊥ (λ value. ⊥) ruled (WasCounted g.D.Watched.faults) v w key
    c.args.lease why (λ no. absurd no) (λ value no. absurd no)
    (λ answer is told.
    let sees = c.in_ok-txn.ensures.sees told in
    let for_lease = subst (λ (n : ℕ). IsRuled (origin_of u.origin) u.seen w.seen (asked last.ticket n reads (entries writes)) answer)
    c.in-Ok.ensures.number
    (subst (λ (ws : Writes). IsRuled (origin_of u.origin) u.seen w.seen (asked last.ticket last.number reads (entries ws)) answer)
    c.in-Ok.ensures.writes (is (c.begin.ensures.on.tells ∙ told) h reads (c.in-Ok.ensures.sees h [] sees))) in
    asks (known_by v) (known_by u) (known_by w) begun.ticket begun.number key (value_at h begun.number key)
    (c.in_ok-txn.ensures.begun told) (goes_on u w c.commit.ensures.on) refl c.args.lease last.ticket c.in-Ok.first answer
    (c.in-Ok.ensures.told h [] sees) c.in-Ok.ensures.fits for_lease)
    (λ failed. inl failed)
    (c.in_err-commit-in-Ok.ensures.cause c.args.lease))
