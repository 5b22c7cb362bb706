-- What a crash may leave of a disk.
use Rattle.std.specs.Prelude.{◌≡◌, ◌⊎◌, ℕ, ◌≤◌, false, List, length, take, Option, None, Some, IsTrue}
use Rattle.std.specs.FinMap.{FinMap, get}
use Rattle.vl_disk.specs.declared.name.Name.{Name}
use Rattle.vl_disk.specs.Name.{name_cmp}
use Rattle.vl_disk.specs.DiskState.{File, DiskState, created, appended, synced, cut_to, without}
use Rattle.vl_disk.specs.Disk.{IsInside}

-- what stands on the disk after a crash
abbrev pub Image : Type 0
Image = FinMap name_cmp (List ℕ)

-- Between two syncs a crash may leave any bytes past the synced length, of any length. After a sync it leaves what a read gives.
pub record Agrees (file : File) (bytes : List ℕ) : Type 0 where
  pub durable : take file.synced bytes ≡ take file.synced file.bytes
  pub whole : IsTrue file.wholly_synced → bytes ≡ file.bytes

-- the file that a crash may leave under one name: the one that stands there, or else the one that was removed there
abbrev pub last_file : Option File → Option File → Option File
last_file None removed = removed
last_file (Some file) removed = Some file

-- what may be left under one name, by the file that stands there, the one that was removed there, and what the image has there
abbrev pub MayLeaveOne : Option File → Option File → Option (List ℕ) → Type 0
-- a file that stands agrees with a read, or is missing if it was never synced
MayLeaveOne (Some file) removed (Some bytes) = Agrees file bytes
MayLeaveOne (Some file) removed None = file.lasting ≡ false
-- a removed file may stand again, and agrees with its last read
MayLeaveOne None (Some file) (Some bytes) = Agrees file bytes
MayLeaveOne None (Some file) None = Unit {0}
-- nothing else stands
MayLeaveOne None None (Some bytes) = ⊥
MayLeaveOne None None None = Unit {0}

-- a crash at this moment may leave this image
abbrev pub MayLeave : DiskState → Image → Type 0
MayLeave disk image = (name : Name) → MayLeaveOne (get disk.standing name) (get disk.removed name) (get image name)

-- What a disk may be while a call is under way: the call has done nothing yet, or its work in whole or in part.

abbrev pub WhileCreating : Name → DiskState → DiskState → Type 0
WhileCreating name disk now = (now ≡ disk) ⊎ (now ≡ created name disk)

abbrev pub WhileAppending : Name → List ℕ → DiskState → DiskState → Type 0
WhileAppending name piece disk now =
    (now ≡ disk) ⊎ ((taken : ℕ) × (taken ≤ length piece) × (now ≡ appended name piece taken disk))

abbrev pub WhileSyncing : Name → DiskState → DiskState → Type 0
WhileSyncing name disk now = (now ≡ disk) ⊎ (now ≡ synced name disk)

abbrev pub WhileCutting : Name → ℕ → DiskState → DiskState → Type 0
WhileCutting name len disk now =
    (now ≡ disk) ⊎ ((left : ℕ) × (len ≤ left) × IsInside name left disk × (now ≡ cut_to name len left disk))

abbrev pub WhileRemoving : Name → DiskState → DiskState → Type 0
WhileRemoving name disk now = (now ≡ disk) ⊎ (now ≡ without name disk)

-- what a call leaves alone
abbrev pub Unchanged : DiskState → DiskState → Type 0
Unchanged disk now = now ≡ disk
