-- Files that a disk lends to a writer, and takes back. A lent file counts as one that was removed before its first sync: a
-- crash may leave it, with any bytes, or not.
use Rattle.std.specs.Prelude.{◌≡◌, ◌⊎◌, ℕ, ◌≤◌, List, length, Option, None, Some}
use Rattle.std.specs.Option.{ForSome, option_map}
use Rattle.std.specs.FinMap.{get, insert, remove}
use Rattle.vl_disk.specs.declared.name.Name.{Name}
use Rattle.vl_disk.specs.declared.watched.Watched.{Ghosts}
use Rattle.vl_disk.specs.DiskState.{DiskState, File, new_file, lengthened, synced_file, without}
use Rattle.vl_disk.specs.Crash.{WhileRemoving}
use Rattle.vl_disk.specs.Disk.{IsChangedBy}
use Rattle.vl_disk.specs.Faults.{HasCause}
use Rattle.vl_disk.specs.Moments.{Elapses}
use Rattle.vl_disk.specs.Spare.{SameSpare, UsesLend, UsesAdopt}

-- ---- the calls of a writer, by its file before and after

-- it has taken so many bytes of a piece that was handed over
abbrev pub Takes : List ℕ → ℕ → Option File → Option File → Type 0
Takes piece taken old new = new ≡ option_map (lengthened piece taken) old

abbrev pub TakesAll : List ℕ → Option File → Option File → Type 0
TakesAll piece old new = Takes piece (length piece) old new

abbrev pub TakesPart : List ℕ → Option File → Option File → Type 0
TakesPart piece old new = (taken : ℕ) × (taken ≤ length piece) × Takes piece taken old new

-- each byte of it is durable
abbrev pub Settles : Option File → Option File → Type 0
Settles old new = new ≡ option_map synced_file old

-- ---- the calls of a disk

-- the file was made, and nothing was done with it since
abbrev pub IsJustMade : Name → DiskState → Type 0
IsJustMade name disk = get disk.standing name ≡ Some new_file

-- the disk with a file that was written beside it
abbrev pub adopted : Name → File → DiskState → DiskState
adopted name file disk = record { standing = insert disk.standing name file; removed = remove disk.removed name }

-- what a disk may be while it takes a file back
abbrev pub WhileAdopting : Name → Option File → DiskState → DiskState → Type 0
WhileAdopting name file disk now = (now ≡ disk) ⊎ ForSome file (λ f. now ≡ adopted name f disk)

-- a file is lent, which is no changing call
pub record Lends {D : Type 0} (g : Ghosts D) (name : Name) (old new : D) (failed : Type 0) : Type 0 where
  pub lent : (failed → ⊥) → IsChangedBy (without name) (g.told old) (g.told new)
  -- where it failed the file stands as before
  pub kept : failed → g.told new ≡ g.told old
  pub calls : g.calls new ≡ g.calls old
  pub time : Elapses g old new (WhileRemoving name)
  pub cause : HasCause (g.faults old) (g.faults new) failed
  pub spare : (failed → ⊥) → UsesLend name (g.spare old) (g.spare new)
  pub spare_kept : failed → SameSpare (g.spare old) (g.spare new)

-- a file is taken back, which is no changing call and can't fail
pub record Adopts {D : Type 0} (g : Ghosts D) (name : Name) (file : Option File) (old new : D) : Type 0 where
  -- a disk that tells its files lends writers that tell theirs
  pub adopted : ForSome (g.told old) (λ disk. ForSome file (λ f. g.told new ≡ Some (adopted name f disk)))
  pub untold : g.told old ≡ None → g.told new ≡ None
  pub calls : g.calls new ≡ g.calls old
  pub time : Elapses g old new (WhileAdopting name file)
  pub faults : g.faults new ≡ g.faults old
  pub spare : UsesAdopt name (g.spare old) (g.spare new)
