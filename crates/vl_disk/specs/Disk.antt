-- The words for what stands on a disk.
use Rattle.std.specs.Prelude.{◌≡◌, ◌≢◌, ◌↔◌, ℕ, ◌≤◌, List, length, Option, None, IsSome, Contains, AllPairs}
use Rattle.std.specs.Option.{option_map}
use Rattle.std.specs.FinMap.{get}
use Rattle.vl_disk.specs.declared.name.Name.{Name}
use Rattle.vl_disk.specs.DiskState.{DiskState, file_at}

-- a file stands under this name
abbrev pub Stands : Name → DiskState → Type 0
Stands name disk = IsSome (get disk.standing name)

-- no file stands under this name
abbrev pub IsFree : Name → DiskState → Type 0
IsFree name disk = get disk.standing name ≡ None

-- a place that lies inside the file of this name, or at its end
abbrev pub IsInside : Name → ℕ → DiskState → Type 0
IsInside name place disk = place ≤ length (file_at disk name).bytes

-- the names of the standing files, each once
pub record Lists (names : List Name) (disk : DiskState) : Type 0 where
  pub all : (name : Name) → Contains names name ↔ Stands name disk
  pub once : AllPairs (λ a b. a ≢ b) names

-- What is told was changed so. A disk that told nothing still doesn't.
abbrev pub IsChangedBy : (DiskState → DiskState) → Option DiskState → Option DiskState → Type 0
IsChangedBy change old new = new ≡ option_map change old
