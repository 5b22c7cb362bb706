-- Two files, of which one was written beside the disk.
use Rattle.std.specs.Prelude.{◌≡◌, List, ℕ, Some}
use Rattle.std.specs.FinMap.{get}
use Rattle.vl_disk.specs.declared.name.Name.{Name}
use Rattle.vl_disk.specs.DiskState.{DiskState, settled}

-- both stand, whole and durable
pub record HasBoth (name : Name) (bytes : List ℕ) (other : Name) (others : List ℕ) (disk : DiskState) : Type 0 where
  pub one : get disk.standing name ≡ Some (settled bytes)
  pub two : get disk.standing other ≡ Some (settled others)
