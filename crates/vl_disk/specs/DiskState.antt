-- What a disk holds, and what each call does to it.
use Rattle.std.specs.Prelude.{◌≡◌, ℕ, ◌≤◌, min, Bool, true, false, List, [], ◌∷◌, ◌++◌, length, take, drop, Option}
use Rattle.std.specs.Prelude.{None, Some, unwrap_or, IsTrue, All}
use Rattle.std.specs.Option.{option_map}
use Rattle.std.specs.FinMap.{FinMap, get, empty, insert, remove}
use Rattle.vl_disk.specs.declared.name.Name.{Name}
use Rattle.vl_disk.specs.Name.{name_cmp, IsNumbered}

-- a piece that was handed to `append`, whole, and the place in the file at which it was to stand
pub record Piece : Type 0 where
  pub place : ℕ
  pub bytes : List ℕ

pub record File : Type 0 where
  -- what a read gives
  pub bytes : List ℕ
  -- how many of them are durable, whatever was asked for since
  pub synced : ℕ
  -- no create, append or cut was asked for since the last sync that answered Ok, or since the disk was started
  pub wholly_synced : Bool
  -- it was synced once, or stood when the disk was started
  pub lasting : Bool
  -- the pieces handed to `append` since the last sync that answered Ok
  pub unsynced : List Piece

abbrev pub Files : Type 0
Files = FinMap name_cmp File

pub record DiskState : Type 0 where
  pub standing : Files
  -- the files removed since the disk was started that were not created again, as they last were
  pub removed : Files

-- a disk on which nothing ever stood
abbrev pub empty_disk : DiskState
empty_disk = record { standing = empty; removed = empty }

-- a file as `create` makes it
abbrev pub new_file : File
new_file = record { bytes = []; synced = 0; wholly_synced = false; lasting = false; unsynced = [] }

-- a file of these bytes as a sync leaves it, or as it stands when the disk is started
abbrev pub settled : List ℕ → File
settled bytes = record { bytes = bytes; synced = length bytes; wholly_synced = true; lasting = true; unsynced = [] }

-- a file as a sync leaves it
abbrev pub synced_file : File → File
synced_file file = settled file.bytes

-- the file that stands under this name
abbrev pub file_at : DiskState → Name → File
file_at disk name = unwrap_or (get disk.standing name) new_file

-- so many bytes of a file from a place on
abbrev pub bytes_at : ℕ → ℕ → List ℕ → List ℕ
bytes_at place count bytes = take count (drop place bytes)

-- the files with this one under this name, if there is one
abbrev pub placed : Name → Option File → Files → Files
placed name None files = files
placed name (Some file) files = insert files name file

-- the file that stands under this name is changed; where none stands, nothing is
abbrev pub with_file : Name → (File → File) → DiskState → DiskState
with_file name change disk = record disk { standing = placed name (option_map change (get disk.standing name)) disk.standing }

pub record IsLawfulFile (file : File) : Type 0 where
  -- what is durable stands in the file
  pub within : file.synced ≤ length file.bytes
  -- a wholly synced file is as a sync leaves it
  pub as_synced : IsTrue file.wholly_synced → file ≡ synced_file file
  -- a piece that is unsynced begins at the synced length or past it
  pub unsynced : All (λ piece. file.synced ≤ piece.place) file.unsynced

-- what is so of each disk
pub record IsLawful (disk : DiskState) : Type 0 where
  pub standing : (name : Name) (file : File) → get disk.standing name ≡ Some file → IsLawfulFile file
  pub removed : (name : Name) (file : File) → get disk.removed name ≡ Some file → IsLawfulFile file
  pub apart : (name : Name) (file : File) → get disk.standing name ≡ Some file → get disk.removed name ≡ None
  -- the number of each file is one that a file's name may have
  pub numbered : (name : Name) (file : File) → get disk.standing name ≡ Some file → IsNumbered name
  pub removed_numbered : (name : Name) (file : File) → get disk.removed name ≡ Some file → IsNumbered name

-- a file to which a piece was handed, and which took so many bytes of it
abbrev pub lengthened : List ℕ → ℕ → File → File
lengthened piece taken file = record file {
  bytes = file.bytes ++ take taken piece;
  wholly_synced = false;
  unsynced = file.unsynced ++ record { place = length file.bytes; bytes = piece } ∷ [];
}

-- a file that was to be cut to a length, and of which so many bytes are left; no more is durable than was to stay
abbrev pub shortened : ℕ → ℕ → File → File
shortened len left file = record file { bytes = take left file.bytes; synced = min len file.synced; wholly_synced = false }

abbrev pub created : Name → DiskState → DiskState
created name disk = record disk { standing = insert disk.standing name new_file; removed = remove disk.removed name }

abbrev pub appended : Name → List ℕ → ℕ → DiskState → DiskState
appended name piece taken disk = with_file name (lengthened piece taken) disk

abbrev pub synced : Name → DiskState → DiskState
synced name disk = with_file name synced_file disk

abbrev pub cut_to : Name → ℕ → ℕ → DiskState → DiskState
cut_to name len left disk = with_file name (shortened len left) disk

abbrev pub without : Name → DiskState → DiskState
without name disk = record disk { standing = remove disk.standing name; removed = placed name (get disk.standing name) disk.removed }
