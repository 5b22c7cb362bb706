-- What a disk in memory keeps.
use Rattle.std.specs.Prelude.{◌≡◌, ℕ, ◌+◌, ◌≤◌, List, [], ◌∷◌, length, sum_by, Some, All, Vec, if◌then◌else◌}
use Rattle.std.specs.FinMap.{empty, insert}
use Rattle.std.specs.Global.{Global}
use Rattle.std.specs.Map.{values_of}
use Rattle.vl_disk.specs.declared.name.Name.{Name}
use Rattle.vl_disk.specs.Crash.{Image}
use Rattle.vl_disk.specs.DiskState.{DiskState, empty_disk}
use Rattle.vl_disk.specs.MadeFile.{made}
use Rattle.vl_disk.specs.Started.{Started, started_empty, started_made}
use Rattle.vl_mem.specs.declared.event.Event.{Event}
use Rattle.vl_mem.specs.declared.entry.Entry.{Entry}
use Rattle.vl_mem.specs.Entry.{Entries, Fits, HasFiles, entry_of, is_standing, slots}
use Rattle.vl_mem.specs.Event.{IsSound, state_after}

-- how many events may yet come without a call of `ready`
abbrev pub slots_of : Entries → ℕ
slots_of entries = sum_by slots (values_of entries.entries)

-- The entries have what the events made of the disk, and there is room for what may yet come.
pub record IsKept (entries : Entries) (events : List Event) (capacity : ℕ) : Type 0 where
  pub files : HasFiles entries (state_after events)
  pub sound : All IsSound events
  pub fits : (name : Name) (entry : Entry) → entry_of entries name ≡ Some entry → Fits entry
  pub room : length events + slots_of entries ≤ capacity

-- the names of the files that stand
abbrev pub standing_names : List (Name × Entry) → List Name
standing_names [] = []
standing_names (e ∷ es) = if is_standing e.1.presence then e.0 ∷ standing_names es else standing_names es

-- the image of some files, of which the last of a name counts
abbrev pub with_files : List (Name × Vec ℕ Global) → Image → Image
with_files [] image = image
with_files (file ∷ files) image = with_files files (insert image file.0 file.1.items)

abbrev pub image_of : List (Name × Vec ℕ Global) → Image
image_of files = with_files files empty

-- the disk on which they were found one after the other
abbrev pub with_found : List (Name × Vec ℕ Global) → DiskState → DiskState
with_found [] disk = disk
with_found (file ∷ files) disk = with_found files (made file.0 file.1.items disk)

started_by : (files : List (Name × Vec ℕ Global)) (image : Image) (disk : DiskState) → Started image disk
    → Started (with_files files image) (with_found files disk)
started_by [] image disk started = started
started_by (file ∷ files) image disk started = started_by files (insert image file.0 file.1.items)
    (made file.0 file.1.items disk) (started_made image disk file.0 file.1.items started)

pub starts : (files : List (Name × Vec ℕ Global)) → Started (image_of files) (with_found files empty_disk)
starts files = started_by files empty empty_disk started_empty
