-- A disk in memory that never fails, as its callers see it.
use Rattle.std.specs.Prelude.{◌≡◌, ℕ, None}
use Rattle.vl_disk.specs.DiskState.{DiskState}
use Rattle.vl_mem.specs.FailsPast.{counted_past}
use Rattle.vl_mem.specs.MemDisk.{changes_of, faults_of, state_of}
use Rattle.vl_mem.specs.declared.sure_disk.SureDisk.{SureDisk}

-- what it holds
abbrev pub state_on : SureDisk → DiskState
state_on disk = state_of disk.disk

-- how many changing calls it was asked for, and how many of its calls failed
abbrev pub calls_on : SureDisk → ℕ
calls_on disk = (changes_of disk.disk).listed.calls

abbrev pub faults_on : SureDisk → ℕ
faults_on disk = faults_of disk.disk

-- none did
pub never_fails : (disk : SureDisk) → faults_on disk ≡ 0
never_fails disk = counted_past disk.disk None disk.sure
