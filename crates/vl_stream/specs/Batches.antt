-- How the records of a stream are parted into frames.
use Rattle.std.specs.Prelude.{◌≡◌, ◌⊎◌, ◌<◌, ◌≤◌, ℕ, ◌+◌, T, Bool, ◌&&◌, nat_le, nat_lt, if◌then◌else◌}
use Rattle.std.specs.Prelude.{List, [], ◌∷◌, ◌++◌, length}
use Rattle.std.specs.FinMap.{is_sorted}
use Rattle.vl_model.specs.Keys.{key_cmp, value_bytes}
use Rattle.vl_model.specs.declared.change.Change.{Change}

-- what a record does to its key
abbrev pub Write : Type 0
Write = List ℕ × Change

-- in key order, and no key twice
abbrev pub AreRising : List Write → Type 0
AreRising ws = T (is_sorted key_cmp ws)

abbrev pub max_records : ℕ
max_records = 64

abbrev pub max_bytes : ℕ
max_bytes = 1048576

-- how many bytes a record's value has; a deletion has none
abbrev pub value_size : Write → ℕ
value_size w = length (value_bytes w.1)

abbrev pub size_of : List Write → ℕ
size_of [] = 0
size_of (w ∷ ws) = value_size w + size_of ws

abbrev pub joined : List (List Write) → List Write
joined [] = []
joined (b ∷ bs) = b ++ joined bs

-- ---- which batches there may be

-- within the bounds, or one record alone
pub record IsBatch (batch : List Write) : Type 0 where
  pub some : 1 ≤ length batch
  pub bounds : (length batch ≡ 1) ⊎ ((length batch ≤ max_records) × (size_of batch ≤ max_bytes))

-- the bounds don't allow this record too
abbrev pub IsFull : List Write → Write → Type 0
IsFull batch next = (max_records ≤ length batch) ⊎ (max_bytes < size_of batch + value_size next)

abbrev pub IsFullFor : List Write → List (List Write) → Type 0
IsFullFor batch [] = Unit {0}
IsFullFor batch ([] ∷ bs) = ⊥
IsFullFor batch ((w ∷ b) ∷ bs) = IsFull batch w

-- each is one, and has as many records as the bounds allow
abbrev pub AreBatches : List (List Write) → Type 0
AreBatches [] = Unit {0}
AreBatches (b ∷ bs) = IsBatch b × IsFullFor b bs × AreBatches bs

-- and end to end they are these records
pub record AreBatchesOf (ws : List Write) (bs : List (List Write)) : Type 0 where
  pub are : AreBatches bs
  pub whole : joined bs ≡ ws

-- ---- the ones of a list, of which no others are its batches (`a_stream_holds_its_records`)

-- a record joins a batch that has so many records and so many bytes
abbrev pub joins : (count bytes : ℕ) → Write → Bool
joins count bytes w = nat_lt count max_records && nat_le (bytes + value_size w) max_bytes

abbrev pub with_first : Write → List (List Write) → List (List Write)
with_first w [] = (w ∷ []) ∷ []
with_first w (b ∷ bs) = (w ∷ b) ∷ bs

-- what is left of a batch that has so many, and the batches behind it
abbrev pub batches_from : (count bytes : ℕ) → List Write → List (List Write)
batches_from count bytes [] = [] ∷ []
batches_from count bytes (w ∷ ws) =
    if joins count bytes w then with_first w (batches_from (count + 1) (bytes + value_size w) ws)
    else [] ∷ with_first w (batches_from 1 (value_size w) ws)

abbrev pub batches : List Write → List (List Write)
batches [] = []
batches (w ∷ ws) = with_first w (batches_from 1 (value_size w) ws)
