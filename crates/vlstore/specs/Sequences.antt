-- What the calls of a sequence over a session come to. What the key had is told where the disk told its bytes when the store was made.
use Rattle.std.specs.Prelude.{◌≡◌, ◌⊎◌, ◌≤◌, ◌<◌, ℕ, ◌+◌, List, Option, true}
use Rattle.vl_engine_model.specs.Rulings.Commit.{CommitAnswer, Conflict, Exhausted, Full}
use Rattle.vl_model.specs.Keys.{Stored}
use Rattle.vl_sequence.specs.Causes.{Asks, Finds, IsMalformed, IsSpent, WasFull}
use Rattle.vl_sequence.specs.Sequences.{TakesLease}
use Rattle.vl_sequence.specs.declared.fails.SeqFail.{SeqFail}
use Rattle.vl_sequence.specs.declared.fails.SeqFail.TheVariants as fail
use Rattle.vlstore.specs.Counting.{WasCounted}
use Rattle.vlstore.specs.Knowing.{Knows}
use Rattle.vlstore.specs.Shops.{known_by}

-- The number is the next of the lease, and no step was made for it; or it is the first of a lease that was taken for it.
pub record GivesNext (v w : Knows) (key : List ℕ) (lease next end next' end' n : ℕ) : Type 0 where
  pub number : next' ≡ n + 1
  pub held : next < end → (n ≡ next) × (end' ≡ end) × (w ≡ v)
  pub taken : end ≤ next → (end' ≡ n + lease) × (v.tells ≡ true → TakesLease (known_by v) (known_by w) key n end')

-- ---- a refusal

-- Why no lease was taken: as many lived as may, a value of which this is so refused it, this is so of its commit's answer, or this
-- is so since a file failed. Of an earlier failure, of damage and of want of memory nothing is said.
abbrev pub IsNoLease : (full : Type 0) → (had : Option Stored → Type 0) → (asks : CommitAnswer → Type 0) → (failed : Type 0)
    → (lease : ℕ) → SeqFail → Type 0
IsNoLease full had asks failed lease (fail.Raced number) = (named : List ℕ) × asks (Conflict named number)
IsNoLease full had asks failed lease fail.Spent = (value : Option Stored) × had value × IsSpent value lease
IsNoLease full had asks failed lease (fail.Malformed len) = (value : Option Stored) × had value × IsMalformed value len
IsNoLease full had asks failed lease fail.TooMany = full
IsNoLease full had asks failed lease (fail.Full length frame) = asks (Full length frame)
IsNoLease full had asks failed lease (fail.Exhausted counter) = asks (Exhausted counter)
IsNoLease full had asks failed lease (fail.Halted name) = Unit {0}
IsNoLease full had asks failed lease (fail.Disk name) = failed
IsNoLease full had asks failed lease (fail.Damaged name place) = Unit {0}
IsNoLease full had asks failed lease fail.NoMemory = Unit {0}

-- Where the disk told its bytes, by what the steps show; over any disk, a failure was counted by it or by a reader.
abbrev pub IsNoNumber : {D R : Type 0} → (D → ℕ) → (R → ℕ) → (v w : Knows) → (key : List ℕ) → (lease : ℕ) → SeqFail → Type 0
IsNoNumber faults read_faults v w key lease = IsNoLease
    (v.tells ≡ true → WasFull (known_by w))
    (λ value. v.tells ≡ true → Finds (known_by v) (known_by w) key value)
    (λ answer. v.tells ≡ true → Asks (known_by v) (known_by w) key lease answer)
    (WasCounted faults ⊎ WasCounted read_faults)
    lease
