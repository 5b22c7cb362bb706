-- What a pass comes to: the records that it finds, and that none of a segment win exactly from inside any more.
use Rattle.std.specs.Prelude.{◌≡◌, ◌≤◌, ◌⊎◌, ℕ, length, true, false, List, [], ◌∷◌, Some, None}
use Rattle.std.specs.List.{flat_map}
use Rattle.vl_model.specs.Limits.{max_batch_bytes, max_batch_records}
use Rattle.vl_model.specs.Winners.{is_far_to, wins_exactly}
use Rattle.vl_model.specs.declared.entry.Entry.{Entry}
use Rattle.vl_engine_model.specs.Logs.{LogRecord}
use Rattle.vl_engine_model.specs.Relocation.{Candidate, Pass, found_in, next_batch, value_lengths}

-- what wins exactly from inside a log now did before
abbrev pub Shrinks : ℕ → List Entry → List Entry → Type 0
Shrinks segment before now = (key : List ℕ) (version place : ℕ)
    → wins_exactly now segment key version place ≡ true → wins_exactly before segment key version place ≡ true

-- an entry that leads nowhere into a log
abbrev pub IsOutside : ℕ → Entry → Type 0
IsOutside segment e = (place : ℕ) → is_far_to segment place e.body ≡ false

-- no record of the batch wins exactly from inside the log
abbrev pub IsSettled : ℕ → List Entry → Candidate → Type 0
IsSettled segment es c = wins_exactly es segment c.moved.key c.moved.version c.place ≡ false

-- all records of a log that win exactly in a pass's base
abbrev pub found_all : List Entry → ℕ → List LogRecord → List Candidate
found_all base segment rs = flat_map (found_in base segment) rs

-- what a pass gives, batch by batch, until it gives none
abbrev pub AreBatches : List (List Candidate) → Pass → Type 0
AreBatches [] pass = (next_batch pass).0 ≡ None
AreBatches (batch ∷ batches) pass = ((next_batch pass).0 ≡ Some batch) × AreBatches batches (next_batch pass).1

-- all records that a pass hasn't come to and that win exactly in its base
abbrev pub found_by : Pass → List Candidate
found_by pass = found_all pass.base pass.segment pass.left

-- A batch has one record, or as many records and bytes of values as the limits allow at most.
abbrev pub IsWithinLimits : List Candidate → Type 0
IsWithinLimits batch = (length batch ≤ 1)
    ⊎ ((length batch ≤ max_batch_records) × (value_lengths batch ≤ max_batch_bytes))
