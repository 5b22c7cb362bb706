-- A table that is made, and a switch that names it: what they make of a disk, and what it may be meanwhile.
use Rattle.std.specs.Prelude.{◌≡◌, ◌≢◌, ◌⊎◌, ◌↔◌, ℕ, List, ◌++◌, Option, Some, None}
use Rattle.std.specs.FinMap.{get}
use Rattle.vl_disk.specs.DiskState.{DiskState}
use Rattle.vl_disk.specs.MadeFile.{WhileMaking, made}
use Rattle.vl_disk.specs.Performs.{calls_on}
use Rattle.vl_disk.specs.declared.name.Name.{Name}
use Rattle.vl_disk.specs.declared.name.Name.TheVariants.{Manifest, Table}
use Rattle.vl_manifest.specs.Switching.{WhileSwitching, switched}

-- the disk with a table of these bytes, and then with this frame at the manifest's end
abbrev pub written : ℕ → List ℕ → ℕ → List ℕ → DiskState → DiskState
written table bytes manifest frame disk = switched manifest frame (made (Table table) bytes disk)

-- what it may be meanwhile: the frame is handed over only once the table is durable
abbrev pub WhileWriting : ℕ → List ℕ → ℕ → List ℕ → DiskState → DiskState → Type 0
WhileWriting table bytes manifest frame disk now =
    WhileMaking (Table table) bytes disk now ⊎ WhileSwitching manifest frame (made (Table table) bytes disk) now

-- the files of the changing calls
abbrev pub flush_files : ℕ → ℕ → List Name
flush_files table manifest = calls_on 3 (Table table) ++ calls_on 2 (Manifest manifest)

-- ---- the other files

-- of a name: a file stands there or not, and was removed there or not, as before
abbrev pub IsKept : Name → (old new : DiskState) → Type 0
IsKept name old new = (get new.standing name ≡ None ↔ (get old.standing name ≡ None))
    × (get new.removed name ≡ None ↔ (get old.removed name ≡ None))

-- so it is of each name but this one, where bytes are told
abbrev pub KeepsOthers : Name → (old new : Option DiskState) → Type 0
KeepsOthers name old new =
    (before now : DiskState) → old ≡ Some before → new ≡ Some now → (other : Name) → other ≢ name → IsKept other before now
