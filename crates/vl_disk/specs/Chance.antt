-- Torn bytes that spell a frame by chance.
use Rattle.std.specs.Prelude.{◌≡◌, ℕ, ◌+◌, ◌-◌, ◌≤◌, max, false, List, length, take, drop, Option, None, Some, Any}
use Rattle.std.specs.FinMap.{get}
use Rattle.std.proofs.Common.{subst}
use Rattle.vl_disk.specs.declared.name.Name.{Name}
use Rattle.vl_disk.specs.declared.name.Name.TheVariants.{Log, Table, Manifest}
use Rattle.vl_disk.specs.DiskState.{Piece, File, DiskState}
use Rattle.vl_disk.specs.Crash.{Image, last_file}

-- the bytes stand at this place of a file in this piece of it
pub record StandsIn (place : ℕ) (bytes : List ℕ) (piece : Piece) : Type 0 where
  pub from : piece.place ≤ place
  pub bytes_are : take (length bytes) (drop (place - piece.place) piece.bytes) ≡ bytes

-- a log or a manifest, which grow frame by frame
abbrev pub GrowsByFrames : Name → Type 0
GrowsByFrames (Log number) = Unit {0}
GrowsByFrames (Table number) = ⊥
GrowsByFrames (Manifest number) = Unit {0}

-- the place from which bytes may be torn, behind a file's header of 16 bytes
abbrev pub torn_from : File → ℕ
torn_from file = max 16 file.synced

-- this frame was handed to `append` for this place, in a piece that is unsynced
abbrev pub WasHandedOver : File → ℕ → List ℕ → Type 0
WasHandedOver file place frame = Any (StandsIn place frame) file.unsynced

-- Of the frames that a crash left of this file where it may be torn, the first, and one right behind it, were handed over for
-- their places.
-- `spells place frame` says that they have at this place a frame with these bytes.
pub record HasOnlyHandedOver (file : File) (spells : ℕ → List ℕ → Type 0) : Type 0 where
  -- a frame at the first place that may be torn was handed over for that place,
  pub first : (frame : List ℕ) → spells (torn_from file) frame → WasHandedOver file (torn_from file) frame
  -- and so was a frame right behind it
  pub next : (frame next : List ℕ) → spells (torn_from file) frame → spells (torn_from file + length frame) next
      → WasHandedOver file (torn_from file + length frame) next

-- The same of one name, by the file that a crash may leave there and what the image has there: it is asked of a log or a
-- manifest that isn't wholly synced.
abbrev pub NoChanceOne : (Name → List ℕ → ℕ → List ℕ → Type 0) → Name → Option File → Option (List ℕ) → Type 0
NoChanceOne spells name None left = Unit {0}
NoChanceOne spells name (Some file) None = Unit {0}
NoChanceOne spells name (Some file) (Some bytes) =
    GrowsByFrames name → file.wholly_synced ≡ false → HasOnlyHandedOver file (spells name bytes)

-- No torn bytes of the image spell a frame by chance.
-- `spells name bytes place frame` says that the bytes of a file of this name have at this place a frame with these bytes.
abbrev pub NoChanceMatch : (Name → List ℕ → ℕ → List ℕ → Type 0) → DiskState → Image → Type 0
NoChanceMatch spells disk image =
    (name : Name) → NoChanceOne spells name (last_file (get disk.standing name) (get disk.removed name)) (get image name)

-- so of the file that it leaves under a name
pub none_by_chance : (spells : Name → List ℕ → ℕ → List ℕ → Type 0) (name : Name) (disk : DiskState) (image : Image)
    → NoChanceMatch spells disk image → (file : File) (bytes : List ℕ)
    → last_file (get disk.standing name) (get disk.removed name) ≡ Some file → get image name ≡ Some bytes
    → NoChanceOne spells name (Some file) (Some bytes)
none_by_chance spells name disk image chance file bytes last left =
    subst (λ (o : Option (List ℕ)). NoChanceOne spells name (Some file) o) left
    (subst (λ (o : Option File). NoChanceOne spells name o (get image name)) last (chance name))
