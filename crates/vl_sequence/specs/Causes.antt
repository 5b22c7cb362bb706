-- Why a sequence gave no number.
use Rattle.std.specs.Prelude.{◌≡◌, ◌≢◌, ◌≤◌, ◌<◌, ℕ, ◌+◌, List, [], ◌∷◌, length, true, Option, None, Some}
use Rattle.std.specs.FinMap.{entries}
use Rattle.vl_drive.specs.Answers.{asked}
use Rattle.vl_drive.specs.Knowing.{Knows}
use Rattle.vl_drive.specs.Steps.{Origin, history_by, layout_by}
use Rattle.vl_engine_model.specs.Rulings.Begin.{TooMany, begin_ruling}
use Rattle.vl_engine_model.specs.Rulings.Commit.{CommitAnswer, Conflict, Exhausted, Full, Halted, Transaction, commit_ruling}
use Rattle.vl_engine_model.specs.declared.lock_history.LockEntry.{LockEntry}
use Rattle.vl_model.specs.History.{last_number}
use Rattle.vl_model.specs.Keys.{Stored, is_key_length}
use Rattle.vl_model.specs.Limits.{max_key_bytes}
use Rattle.vl_model.specs.Reads.{KeyRead}
use Rattle.vl_model.specs.declared.counter.Counter.TheVariants.{Commit as CommitNumber}
use Rattle.vl_sequence.specs.Leases.{number_in}
use Rattle.vl_sequence.specs.Sequences.{lease_writes, most_number}
use Rattle.vl_sequence.specs.Takings.{last_value}
use Rattle.vl_sequence.specs.declared.fails.NewFail.{NewFail}
use Rattle.vl_sequence.specs.declared.fails.NewFail.TheVariants as new
use Rattle.vl_sequence.specs.declared.fails.SeqFail.{SeqFail}
use Rattle.vl_sequence.specs.declared.fails.SeqFail.TheVariants as fail
use mathlib.Core.List.{IsPrefix}

-- ---- of a new sequence

-- why there is none; the shop comes back
abbrev pub IsRefusal : {S : Type 0} → S → (key : List ℕ) → NewFail S → Type 0
IsRefusal shop key (new.EmptyKey back) = (back ≡ shop) × (length key ≡ 0)
IsRefusal shop key (new.KeyTooLong back) = (back ≡ shop) × (max_key_bytes < length key)
IsRefusal shop key (new.NoMemory back) = (back ≡ shop) × (is_key_length (length key) ≡ true)

-- ---- at the beginning

-- of steps that were seen, some come to a layout in which as many live as may
pub record WasFull (w : Knows) : Type 0 where
  pub before : List LockEntry
  pub seen : IsPrefix before w.seen
  pub answer : TooMany ≡ (begin_ruling (layout_by w.origin before) (history_by w.origin before)).answer

-- ---- by the key's value

-- The transaction was begun behind these steps, where the key has this value.
pub record Finds (v w : Knows) (key : List ℕ) (value : Option Stored) : Type 0 where
  pub earlier : List LockEntry
  pub later : IsPrefix v.seen earlier
  pub seen : IsPrefix earlier w.seen
  pub value_is : value ≡ last_value v.origin key earlier

-- the value has this length, and not eight bytes
abbrev pub IsMalformed : Option Stored → ℕ → Type 0
IsMalformed None len = ⊥
IsMalformed (Some value) len = (length value.bytes ≡ len) × (len ≢ 8)

-- the number and the lease together pass the greatest
pub record IsSpent (value : Option Stored) (lease : ℕ) : Type 0 where
  pub first : ℕ
  pub told : number_in value ≡ Some first
  pub passes : most_number < first + lease

-- ---- by the commit

-- Behind the earlier steps, and until these were seen, a commit of the transaction is answered like this.
pub record IsRuled (o : Origin) (earlier until : List LockEntry) (txn : Transaction) (answer : CommitAnswer) : Type 0 where
  pub before : List LockEntry
  pub later : IsPrefix earlier before
  pub seen : IsPrefix before until
  pub answer_is : answer ≡ (commit_ruling (layout_by o before) (history_by o before) txn).answer

-- the transaction of a lease, behind these steps
abbrev pub lease_txn : Origin → (key : List ℕ) → (earlier : List LockEntry) → (ticket end : ℕ) → Transaction
lease_txn o key earlier ticket end =
    asked ticket (last_number (history_by o earlier)) (KeyRead key (last_value o key earlier) ∷ []) (entries (lease_writes key end))

-- The transaction of a lease was begun behind these steps, where the lease fits, and its commit is answered like this.
pub record Asks (v w : Knows) (key : List ℕ) (lease : ℕ) (answer : CommitAnswer) : Type 0 where
  pub earlier : List LockEntry
  pub later : IsPrefix v.seen earlier
  pub first : ℕ
  pub told : number_in (last_value v.origin key earlier) ≡ Some first
  pub fits : first + lease ≤ most_number
  pub ticket : ℕ
  pub ruled : IsRuled v.origin earlier w.seen (lease_txn v.origin key earlier ticket (first + lease)) answer

-- ---- all of them

-- what the disk fails at, and damage, raise the shop's count of faults
abbrev pub IsCause : (v w : Knows) → (key : List ℕ) → (lease : ℕ) → SeqFail → Type 0
IsCause v w key lease (fail.Raced number) = (named : List ℕ) × Asks v w key lease (Conflict named number)
IsCause v w key lease fail.Spent = (value : Option Stored) × Finds v w key value × IsSpent value lease
IsCause v w key lease (fail.Malformed len) = (value : Option Stored) × Finds v w key value × IsMalformed value len
IsCause v w key lease fail.TooMany = WasFull w
IsCause v w key lease (fail.Full length frame) = Asks v w key lease (Full length frame)
IsCause v w key lease (fail.Exhausted counter) = (counter ≡ CommitNumber) × Asks v w key lease (Exhausted counter)
IsCause v w key lease (fail.Halted name) = (v.faults < w.faults) × Asks v w key lease (Halted name)
IsCause v w key lease (fail.Disk name) = v.faults < w.faults
IsCause v w key lease (fail.Damaged name place) = v.faults < w.faults
IsCause v w key lease fail.NoMemory = Unit {0}

-- ---- of its parts

-- why no transaction was begun
abbrev pub IsBeginCause : (w : Knows) → SeqFail → Type 0
IsBeginCause w (fail.Raced number) = ⊥
IsBeginCause w fail.Spent = ⊥
IsBeginCause w (fail.Malformed len) = ⊥
IsBeginCause w fail.TooMany = WasFull w
IsBeginCause w (fail.Full length frame) = ⊥
IsBeginCause w (fail.Exhausted counter) = ⊥
IsBeginCause w (fail.Halted name) = ⊥
IsBeginCause w (fail.Disk name) = ⊥
IsBeginCause w (fail.Damaged name place) = ⊥
IsBeginCause w fail.NoMemory = Unit {0}

-- why a lease doesn't fit behind this value
abbrev pub IsValueCause : Option Stored → (lease : ℕ) → SeqFail → Type 0
IsValueCause value lease (fail.Raced number) = ⊥
IsValueCause value lease fail.Spent = IsSpent value lease
IsValueCause value lease (fail.Malformed len) = IsMalformed value len
IsValueCause value lease fail.TooMany = ⊥
IsValueCause value lease (fail.Full length frame) = ⊥
IsValueCause value lease (fail.Exhausted counter) = ⊥
IsValueCause value lease (fail.Halted name) = ⊥
IsValueCause value lease (fail.Disk name) = ⊥
IsValueCause value lease (fail.Damaged name place) = ⊥
IsValueCause value lease fail.NoMemory = ⊥

-- why the key wasn't raised, where it has this value
abbrev pub IsRaiseCause : (v w : Knows) → Option Stored → (lease : ℕ) → SeqFail → Type 0
IsRaiseCause v w value lease (fail.Raced number) = ⊥
IsRaiseCause v w value lease fail.Spent = IsSpent value lease
IsRaiseCause v w value lease (fail.Malformed len) = IsMalformed value len
IsRaiseCause v w value lease fail.TooMany = ⊥
IsRaiseCause v w value lease (fail.Full length frame) = ⊥
IsRaiseCause v w value lease (fail.Exhausted counter) = ⊥
IsRaiseCause v w value lease (fail.Halted name) = ⊥
IsRaiseCause v w value lease (fail.Disk name) = v.faults < w.faults
IsRaiseCause v w value lease (fail.Damaged name place) = v.faults < w.faults
IsRaiseCause v w value lease fail.NoMemory = Unit {0}

-- why a transaction with writes wasn't committed
abbrev pub IsCommitCause : (v w : Knows) → Transaction → SeqFail → Type 0
IsCommitCause v w txn (fail.Raced number) = (named : List ℕ) × IsRuled v.origin v.seen w.seen txn (Conflict named number)
IsCommitCause v w txn fail.Spent = ⊥
IsCommitCause v w txn (fail.Malformed len) = ⊥
IsCommitCause v w txn fail.TooMany = ⊥
IsCommitCause v w txn (fail.Full length frame) = IsRuled v.origin v.seen w.seen txn (Full length frame)
IsCommitCause v w txn (fail.Exhausted counter) =
    (counter ≡ CommitNumber) × IsRuled v.origin v.seen w.seen txn (Exhausted counter)
IsCommitCause v w txn (fail.Halted name) = (v.faults < w.faults) × IsRuled v.origin v.seen w.seen txn (Halted name)
IsCommitCause v w txn (fail.Disk name) = v.faults < w.faults
IsCommitCause v w txn (fail.Damaged name place) = ⊥
IsCommitCause v w txn fail.NoMemory = Unit {0}
