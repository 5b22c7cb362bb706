-- What a pass over a segment finds, and what a relocation moves of it.
use Rattle.std.specs.Prelude.{ℕ, ◌+◌, ◌==◌, Bool, true, false, ◌&&◌, ◌||◌, nat_le, nat_lt, if◌then◌else◌, List, []}
use Rattle.std.specs.Prelude.{◌∷◌, map, Option, Some, None}
use Rattle.std.specs.List.{filter, sum_by}
use Rattle.vl_model.specs.Keys.{value_length}
use Rattle.vl_model.specs.Limits.{max_batch_records, max_batch_bytes}
use Rattle.vl_model.specs.Winners.{wins_exactly}
use Rattle.vl_model.specs.declared.change.Change.{Change}
use Rattle.vl_model.specs.declared.change.Change.TheVariants.{Set, Delete}
use Rattle.vl_model.specs.declared.entry.Entry.{Entry}
use Rattle.vl_model.specs.declared.log_frame.Moved.{Moved}
use Rattle.vl_engine_model.specs.Logs.{LogRecord}

-- a record that may be moved, and its place
pub record Candidate : Type 0 where
  pub moved : Moved
  pub place : ℕ

-- A pass: its segment, all entries of the sources that it began with, and the records of the
-- segment that it hasn't come to.
pub record Pass : Type 0 where
  pub segment : ℕ
  pub base : List Entry
  pub left : List LogRecord

abbrev pub valued : LogRecord → Change → List Candidate
valued r (Set value) =
    record { moved = record { key = r.key; version = r.version; value = value }; place = r.place } ∷ []
valued r Delete = []

-- the record as one that may be moved, where it wins exactly from inside the segment
abbrev pub found_in : List Entry → ℕ → LogRecord → List Candidate
found_in base segment r =
    if wins_exactly base segment r.key r.version r.place then valued r r.change else []

-- so many records with so many bytes of values may take one of this length more
abbrev pub has_room : ℕ → ℕ → ℕ → Bool
has_room count bytes more =
    (count == 0) || (nat_lt count max_batch_records && nat_le (bytes + more) max_batch_bytes)

-- what stands before the first record that doesn't fit, and what is left from it on
abbrev pub Batched : Type 0
Batched = List Candidate × List LogRecord

abbrev pub if_any : List Candidate → Option (List Candidate)
if_any [] = None
if_any (c ∷ cs) = Some (c ∷ cs)

abbrev pub with_first : Candidate → Batched → Batched
with_first c taken = (c ∷ taken.0, taken.1)

-- a record that was found, before what is taken behind it, where it fits
abbrev pub batch_with : Bool → List Candidate → Batched → Batched → Batched → Batched
batch_with fits [] passed with_it before = passed
batch_with true (c ∷ cs) passed with_it before = with_first c with_it
batch_with false (c ∷ cs) passed with_it before = before

abbrev pub value_lengths : List Candidate → ℕ
value_lengths cs = sum_by (λ (c : Candidate). value_length c.moved.value) cs

-- the next records that win exactly, as many as fit behind so many with so many bytes of values
abbrev pub taken_from : List Entry → ℕ → ℕ → ℕ → List LogRecord → Batched
taken_from base segment count bytes [] = ([], [])
taken_from base segment count bytes (r ∷ rs) =
    let found = found_in base segment r in
    let more = value_lengths found in
    batch_with (has_room count bytes more) found (taken_from base segment count bytes rs)
    (taken_from base segment (count + 1) (bytes + more) rs) ([], r ∷ rs)

-- the next batch of a pass, which is the longest that the limits allow, and the pass behind it;
-- none where none is left
abbrev pub next_batch : Pass → Option (List Candidate) × Pass
next_batch pass =
    let taken = taken_from pass.base pass.segment 0 0 pass.left in
    (if_any taken.0, record { segment = pass.segment; base = pass.base; left = taken.1 })

-- what still wins exactly from inside the segment, and is of a commit that was made
abbrev pub is_moved : List Entry → ℕ → ℕ → Candidate → Bool
is_moved sources segment last c =
    wins_exactly sources segment c.moved.key c.moved.version c.place && nat_le c.moved.version last

-- the records of a batch that are moved
abbrev pub moved_of : List Entry → ℕ → ℕ → List Candidate → List Moved
moved_of sources segment last batch =
    map (λ (c : Candidate). c.moved) (filter (is_moved sources segment last) batch)
