-- A file that is written beside a disk in memory.
use Rattle.std.specs.Prelude.{◌≡◌, ℕ, ◌+◌, ◌≤◌, [], length, map, vec_capacity, Vec}
use Rattle.std.specs.Global.{Global}
use Rattle.std.proofs.Props.{props}
use Rattle.vl_disk.specs.declared.name.Name.{Name}
use Rattle.vl_disk.specs.DiskState.{File, IsLawfulFile, Piece}
use Rattle.vl_disk.specs.Name.{IsNumbered}
use Rattle.vl_mem.specs.declared.written.Unsynced.{Unsynced}
use Rattle.vl_mem.specs.declared.written.Written.{Written}

abbrev pub piece_of : Unsynced → Piece
piece_of unsynced = record { place = unsynced.place; bytes = unsynced.bytes.items }

abbrev pub file_written : Written → File
file_written written = record {
  bytes = written.bytes.items;
  synced = written.synced;
  wholly_synced = written.wholly_synced;
  lasting = written.lasting;
  unsynced = map piece_of written.unsynced.items;
}

pub written_prop : (written : Written) → IsProp (IsLawfulFile (file_written written))
written_prop written = hlevel props

-- What a writer has for the disk's entry: the same bytes once more, and room for a copy of them.
pub record IsDoubled (written : Written) (bytes copy : Vec ℕ Global) : Type 0 where
  pub same : bytes.items ≡ written.bytes.items
  pub empty : copy.items ≡ []
  pub room : length bytes.items ≤ vec_capacity copy

-- so it is, and it may be adopted
pub record IsReady (name : Name) (written : Written) (bytes copy : Vec ℕ Global) : Type 0 where
  pub doubled : IsDoubled written bytes copy
  pub lawful : IsLawfulFile (file_written written)
  pub numbered : IsNumbered name

-- there is room for a piece of so many bytes
pub record HasRoom (count : ℕ) (written : Written) (bytes copy : Vec ℕ Global) : Type 0 where
  pub behind : length bytes.items + count ≤ vec_capacity bytes
  pub copied : length bytes.items + count ≤ vec_capacity copy
  pub kept : length written.bytes.items + count ≤ vec_capacity written.bytes
  pub piece : length written.unsynced.items + 1 ≤ vec_capacity written.unsynced
