-- A file that is made of some bytes at once: created, handed all of them, and synced.
use Rattle.std.specs.Prelude.{◌≡◌, ℕ, ◌≤◌, List, length, Option, None, Some, Result, OnOk, OnErr, IsErr}
use Rattle.std.specs.Option.{ForSome}
use Rattle.std.specs.FinMap.{insert, remove}
use Rattle.vl_disk.specs.declared.name.Name.{Name}
use Rattle.vl_disk.specs.declared.watched.Watched.{Ghosts}
use Rattle.vl_disk.specs.DiskState.{DiskState, settled, created, appended}
use Rattle.vl_disk.specs.Disk.{Stands, IsChangedBy}
use Rattle.vl_disk.specs.Faults.{HasCause, after_calls}
use Rattle.vl_disk.specs.Moments.{Elapses}
use Rattle.vl_disk.specs.Spare.{SameSpareElsewhere}

-- the disk with the file
abbrev pub made : Name → List ℕ → DiskState → DiskState
made name bytes disk = record {
  standing = insert disk.standing name (settled bytes);
  removed = remove disk.removed name;
}

-- what a disk may be while a file is made: the file isn't there yet, is empty, has taken some first bytes, or is durable
pub data WhileMaking (name : Name) (bytes : List ℕ) (disk now : DiskState) : Type 0 where
  not_there : now ≡ disk → WhileMaking name bytes disk now
  empty : now ≡ created name disk → WhileMaking name bytes disk now
  in_part : (taken : ℕ) → taken ≤ length bytes → now ≡ appended name bytes taken (created name disk) → WhileMaking name bytes disk now
  durable : now ≡ made name bytes disk → WhileMaking name bytes disk now

-- what stands after making failed: a disk that tells its bytes is at one of those points
abbrev pub TellsPart : Name → List ℕ → Option DiskState → Option DiskState → Type 0
TellsPart name bytes None new = new ≡ None
TellsPart name bytes (Some old) new = (now : DiskState) × (new ≡ Some now) × WhileMaking name bytes old now

-- the making of a file
pub record Makes {D T E : Type 0} (g : Ghosts D) (name : Name) (bytes : List ℕ) (old new : D)
    (result : Result T E) : Type 0 where
  pub made : OnOk result (IsChangedBy (made name bytes) (g.told old) (g.told new))
  pub stands : OnOk result (ForSome (g.told new) (Stands name))
  pub failed : OnErr result (TellsPart name bytes (g.told old) (g.told new))
  -- it takes three changing calls, or ends at the first that fails
  pub calls : OnOk result (g.calls new ≡ after_calls 3 (g.calls old))
  pub stops : OnErr result ((n : ℕ) × (1 ≤ n) × (n ≤ 3) × (g.calls new ≡ after_calls n (g.calls old)))
  pub time : Elapses g old new (WhileMaking name bytes)
  pub cause : HasCause (g.faults old) (g.faults new) (IsErr result)
  -- room for a hold stays
  pub hold : (g.spare new name).hold ≡ (g.spare old name).hold
  pub spare : SameSpareElsewhere name (g.spare old) (g.spare new)
