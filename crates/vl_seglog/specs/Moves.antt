-- Moved records, and how one is spelled.
use Rattle.std.specs.Prelude.{◌≡◌, ◌≢◌, ◌<◌, ◌^◌, ℕ, List, [], ◌∷◌, ◌++◌}
use Rattle.std.specs.List.{AllByRecursion}
use Rattle.byteorder.specs.Endian.{big_bytes}
use Rattle.vl_model.specs.declared.change.Change.TheVariants.{Set}
use Rattle.vl_model.specs.declared.log_frame.Moved.{Moved}
use Rattle.vl_seglog.specs.Record.{IsRecord, record_bytes}

-- a record of a log of this format under a version, which any number of eight bytes may be
pub record IsMoved (format : ℕ) (moved : Moved) : Type 0 where
  pub version : moved.version < 2 ^ 64
  pub lawful : IsRecord format moved.key (Set moved.value)

-- none of the others has its key and its version
abbrev pub IsElsewhere : Moved → List Moved → Type 0
IsElsewhere moved others =
    AllByRecursion (λ (other : Moved). other.version ≡ moved.version → other.key ≢ moved.key) others

-- no key and version is there twice
abbrev pub AreOnce : List Moved → Type 0
AreOnce [] = Unit {0}
AreOnce (moved ∷ others) = IsElsewhere moved others × AreOnce others

-- a record behind its version
abbrev pub moved_bytes : ℕ → Moved → List ℕ
moved_bytes format moved = big_bytes 8 moved.version ++ record_bytes format moved.key (Set moved.value)
