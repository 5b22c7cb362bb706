-- What is so of a batch whatever is told: its records stand in their order in the log, and a log that is written may have them.
use Rattle.std.specs.Prelude.{◌≡◌, ◌⊎◌, ◌≤◌, ℕ, ◌+◌, Bool, true, ◌&&◌, nat_le, List, [], ◌∷◌, length}
use Rattle.std.specs.List.{All, Contains}
use Rattle.vl_collect.specs.Taking.{candidate_of}
use Rattle.vl_collect.specs.declared.batch.Found.{Found}
use Rattle.vl_model.specs.Formats.{log_format}
use Rattle.vl_model.specs.Keys.{Stored}
use Rattle.vl_model.specs.declared.change.Change.TheVariants.{Set}
use Rattle.vl_model.specs.declared.log_frame.Moved.{Moved}
use Rattle.vl_seglog.specs.Moves.{IsMoved}
use Rattle.vl_seglog.specs.Relocation.{IsRelocation}
use Rattle.vl_seglog.specs.declared.frame.ReadRecord.{ReadRecord}

-- Their places rise, from a place on, and are below another.
module _ {X : Type 0} (place : X → ℕ) where
  abbrev pub Rise : ℕ → List X → ℕ → Type 0
  Rise low [] high = low ≤ high
  Rise low (x ∷ xs) high = (low ≤ place x) × Rise (place x + 1) xs high

abbrev pub found_place : Found → ℕ
found_place found = found.place

abbrev pub read_place : ReadRecord → ℕ
read_place r = r.pointer.place

-- their places rise from a place on
abbrev pub rise_from : ℕ → List Found → Bool
rise_from low [] = true
rise_from low (f ∷ fs) = nat_le low f.place && rise_from (f.place + 1) fs

-- it may be written again
abbrev pub IsLawful : Found → Type 0
IsLawful found = IsMoved log_format found.moved

-- where it sets its key, it may be
abbrev pub MayMove : ReadRecord → Type 0
MayMove r = (value : Stored) → r.change ≡ Set value
    → IsMoved log_format (record { key = r.key; version = r.version; value = value })

-- it is this record, which sets its key
pub record IsOf (r : ReadRecord) (found : Found) : Type 0 where
  pub value : Stored
  pub sets : r.change ≡ Set value
  pub is : candidate_of found ≡ record {
    moved = record { key = r.key; version = r.version; value = value };
    place = r.pointer.place;
  }

pub record IsOfOne (records : List ReadRecord) (found : Found) : Type 0 where
  pub r : ReadRecord
  pub among : Contains records r
  pub is : IsOf r found

-- it was found before, or is one of these records
abbrev pub IsOldOrOf : List Found → List ReadRecord → Found → Type 0
IsOldOrOf old records found = Contains old found ⊎ IsOfOne records found

pub record IsBatch (records : List Found) : Type 0 where
  pub lawful : All IsLawful records
  pub rising : rise_from 0 records ≡ true

-- where there are some, they are a relocation that a log may have
abbrev pub MayBeMoved : List Moved → Type 0
MayBeMoved moved = 1 ≤ length moved → IsRelocation log_format moved
