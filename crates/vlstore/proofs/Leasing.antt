-- What takes a lease by a session comes to, by the laws of sequences over a shop.
use Rattle.std.proofs.Common.{◌≡◌, ◌⊎◌, ℕ, ◌+◌, ◌≤◌, true, false, List, [], ◌∷◌, refl, ap, sym, ◌∙◌}
use Rattle.std.specs.Prelude.{None, Option, Some}
use Rattle.std.specs.FinMap.{empty, entries, get, get-empty}
use Rattle.vl_drive.specs.Answers.{asked}
use Rattle.vl_drive.specs.Entries as drive_entries
use Rattle.vl_drive.specs.Knowing as drive
use Rattle.vl_drive.specs.Steps.{Origin, history_by, layout_by}
use Rattle.vl_engine_model.specs.Decides.{Answered, Outcome}
use Rattle.vl_engine_model.specs.Rulings.Begin.{BeginAnswer, begin_ruling}
use Rattle.vl_engine_model.specs.Rulings.Commit.{CommitAnswer, Conflict, Exhausted, Full, Transaction, commit_ruling}
use Rattle.vl_engine_model.specs.Rulings.Forget.{forget_ruling}
use Rattle.vl_model.specs.History.{last_number, value_at}
use Rattle.vl_model.specs.Keys.{Stored, Writes, key_cmp}
use Rattle.vl_model.specs.Reads.{KeyRead, Read}
use Rattle.vl_sequence.proofs.Committing.{forget_closes}
use Rattle.vl_sequence.specs.Causes.{Asks, Finds, IsRuled, IsValueCause, WasFull, lease_txn}
use Rattle.vl_sequence.specs.Leases.{number_in}
use Rattle.vl_sequence.specs.Sequences.{Begins, Closes, lease_writes, most_number}
use Rattle.vl_sequence.specs.Takings.{last_value}
use Rattle.vl_sequence.specs.declared.fails.SeqFail.{SeqFail}
use Rattle.vl_sequence.specs.declared.fails.SeqFail.TheVariants as fail
use Rattle.vlstore.proofs.Shopping.{begins_so, commits_so, forgets_so}
use Rattle.vlstore.specs.Counting.{WasCounted}
use Rattle.vlstore.specs.Entries.{begin_entry, commit_entry, end_entry}
use Rattle.vlstore.specs.Knowing.{GoesOn, KeepsOwnMerge, Knows, Stepped}
use Rattle.vlstore.specs.Sequences.{IsNoLease, IsNoNumber}
use Rattle.vlstore.specs.Shops.{known_by}

-- ---- the open merge

pub keeps_itself : (v : Knows) → KeepsOwnMerge v v
keeps_itself v job own = (own, refl)

pub keeps_on : (u v w : Knows) → KeepsOwnMerge u v → KeepsOwnMerge v w → KeepsOwnMerge u w
keeps_on u v w first next job own =
    let before = first job own in
    let behind = next job before.0 in
    (behind.0, behind.1 ∙ before.1)

-- ---- refusals

-- what is so by less is so by more
pub no_lease : (full more_full : Type 0) (had more_had : Option Stored → Type 0) (asks more_asks : CommitAnswer → Type 0)
    (failed more_failed : Type 0) (lease : ℕ)
    (e : SeqFail) → (full → more_full) → ((value : Option Stored) → had value → more_had value)
    → ((answer : CommitAnswer) → asks answer → more_asks answer) → (failed → more_failed) → IsNoLease full had asks failed lease e
    → IsNoLease more_full more_had more_asks more_failed lease e
no_lease full more_full had more_had asks more_asks failed more_failed lease (fail.Raced number) f v a d is =
    (is.0, a (Conflict is.0 number) is.1)
no_lease full more_full had more_had asks more_asks failed more_failed lease fail.Spent f v a d is = (is.0, v is.0 is.1, is.2)
no_lease full more_full had more_had asks more_asks failed more_failed lease (fail.Malformed len) f v a d is = (is.0, v is.0 is.1, is.2)
no_lease full more_full had more_had asks more_asks failed more_failed lease fail.TooMany f v a d is = f is
no_lease full more_full had more_had asks more_asks failed more_failed lease (fail.Full bytes frame) f v a d is = a (Full bytes frame) is
no_lease full more_full had more_had asks more_asks failed more_failed lease (fail.Exhausted counter) f v a d is = a (Exhausted counter) is
no_lease full more_full had more_had asks more_asks failed more_failed lease (fail.Halted name) f v a d is = tt
no_lease full more_full had more_had asks more_asks failed more_failed lease (fail.Disk name) f v a d is = d is
no_lease full more_full had more_had asks more_asks failed more_failed lease (fail.Damaged name place) f v a d is = tt
no_lease full more_full had more_had asks more_asks failed more_failed lease fail.NoMemory f v a d is = tt

-- so of a sequence's call
pub no_number : {D R : Type 0} (faults : D → ℕ) (read_faults : R → ℕ) (full : Type 0) (had : Option Stored → Type 0)
    (asks : CommitAnswer → Type 0) (failed : Type 0) (v w : Knows) (key : List ℕ) (lease : ℕ)
    (e : SeqFail) → (full → v.tells ≡ true → WasFull (known_by w))
    → ((value : Option Stored) → had value → v.tells ≡ true → Finds (known_by v) (known_by w) key value)
    → ((answer : CommitAnswer) → asks answer → v.tells ≡ true → Asks (known_by v) (known_by w) key lease answer)
    → (failed → WasCounted faults ⊎ WasCounted read_faults)
    → IsNoLease full had asks failed lease e → IsNoNumber faults read_faults v w key lease e
no_number faults read_faults full had asks failed v w key lease e f value answer counted is =
    no_lease full (v.tells ≡ true → WasFull (known_by w)) had (λ val. v.tells ≡ true → Finds (known_by v) (known_by w) key val) asks
    (λ a. v.tells ≡ true → Asks (known_by v) (known_by w) key lease a) failed (WasCounted faults ⊎ WasCounted read_faults) lease e
    f value answer counted is

-- by the value that was read
pub by_value : (had : Option Stored → Type 0) (failed : Type 0) (lease : ℕ) (e : SeqFail) (value : Option Stored) → had value
    → IsValueCause value lease e → IsNoLease ⊥ had (λ answer. ⊥) failed lease e
by_value had failed lease (fail.Raced number) value read is = absurd is
by_value had failed lease fail.Spent value read is = (value, read, is)
by_value had failed lease (fail.Malformed len) value read is = (value, read, is)
by_value had failed lease fail.TooMany value read is = absurd is
by_value had failed lease (fail.Full bytes frame) value read is = absurd is
by_value had failed lease (fail.Exhausted counter) value read is = absurd is
by_value had failed lease (fail.Halted name) value read is = tt
by_value had failed lease (fail.Disk name) value read is = absurd is
by_value had failed lease (fail.Damaged name place) value read is = tt
by_value had failed lease fail.NoMemory value read is = tt

-- ---- a new transaction

pub unwritten : (writes : Writes) (key : List ℕ) → writes ≡ empty → get writes key ≡ None
unwritten writes key none = ap (λ (own : Writes). get own key) none ∙ get-empty key_cmp key

-- ---- steps, as a shop's

module _ {sure : Type 0} (v w : Knows) (on : GoesOn v w) where
  pub begins_told : (answer : Outcome BeginAnswer) → Stepped sure v w begin_ruling begin_entry answer
      → drive.Stepped (known_by v) (known_by w) begin_ruling drive_entries.begin_entry answer
  begins_told answer step = begins_so v w on answer answer refl step

  pub forget_told : (ticket number : ℕ) (writes : Writes)
      → Stepped sure v w (λ l h. forget_ruling l h (asked ticket number [] (entries writes))) (end_entry ticket) (Answered tt)
      → Closes false (known_by v) (known_by w) ticket
  forget_told ticket number writes step =
      forget_closes (known_by v) (known_by w) ticket number writes (forgets_so v w on (asked ticket number [] (entries writes)) step)

  pub commits_told : (ticket number : ℕ) (reads : List Read) (writes : Writes) (outcome : Outcome CommitAnswer)
      → Stepped sure v w (λ l h. commit_ruling l h (asked ticket number reads (entries writes)))
      (commit_entry ticket (entries writes)) outcome
      → drive.Stepped (known_by v) (known_by w) (λ l h. commit_ruling l h (asked ticket number reads (entries writes)))
      (drive_entries.commit_entry ticket (entries writes)) outcome
  commits_told ticket number reads writes outcome step =
      commits_so v w on (asked ticket number reads (entries writes)) outcome outcome refl step

-- ---- why no lease was taken

-- the key's value where the transaction was begun
module _ (v u w : drive.Knows) (ticket number : ℕ) (key : List ℕ) (value : Option Stored) (b : Begins v u ticket number)
    (on : drive.GoesOn u w) (read : value ≡ value_at (history_by u.origin u.seen) number key) where
  number_is : number ≡ last_number (history_by v.origin u.seen)
  number_is = b.number_is ∙ ap (λ (o : Origin). last_number (history_by o u.seen)) b.on.origin

  value_is : value ≡ last_value v.origin key u.seen
  value_is = read ∙ ap (λ (o : Origin). value_at (history_by o u.seen) number key) b.on.origin
      ∙ ap (λ (n : ℕ). value_at (history_by v.origin u.seen) n key) number_is

  pub finds : Finds v w key value
  finds = record { earlier = u.seen; later = b.on.seen; seen = on.seen; value_is = value_is }

  pub asks : (lease last first : ℕ) (answer : CommitAnswer) → number_in value ≡ Some first → first + lease ≤ most_number
      → IsRuled u.origin u.seen w.seen (asked last number (KeyRead key value ∷ []) (entries (lease_writes key (first + lease)))) answer
      → Asks v w key lease answer
  asks lease last first answer told fits r = record {
    earlier = u.seen;
    later = b.on.seen;
    first = first;
    told = ap number_in (sym value_is) ∙ told;
    fits = fits;
    ticket = last;
    ruled = record {
      before = r.before;
      later = r.later;
      seen = r.seen;
      answer_is =
          r.answer_is ∙ ap (λ (o : Origin). (commit_ruling (layout_by o r.before) (history_by o r.before) txn).answer) b.on.origin
          ∙ ap (λ (t : Transaction). (commit_ruling (layout_by v.origin r.before) (history_by v.origin r.before) t).answer) txn_is;
    };
  }
    where
      txn : Transaction
      txn = asked last number (KeyRead key value ∷ []) (entries (lease_writes key (first + lease)))

      txn_is : txn ≡ lease_txn v.origin key u.seen last (first + lease)
      txn_is =
          ap (λ (n : ℕ). asked last n (KeyRead key value ∷ []) (entries (lease_writes key (first + lease)))) number_is
          ∙ ap (λ (val : Option Stored). asked last (last_number (history_by v.origin u.seen)) (KeyRead key val ∷ [])
          (entries (lease_writes key (first + lease)))) value_is
