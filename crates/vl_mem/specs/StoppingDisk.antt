-- A disk in memory that stops, as its callers see it.
use Rattle.std.specs.Prelude.{ℕ, Option}
use Rattle.vl_disk.specs.DiskState.{DiskState}
use Rattle.vl_mem.specs.FailsPast.{FailsPast}
use Rattle.vl_mem.specs.MemDisk.{changes_of, faults_of, state_of}
use Rattle.vl_mem.specs.declared.stopping_disk.StoppingDisk.{StoppingDisk}

-- what it holds
abbrev pub state_on : StoppingDisk → DiskState
state_on disk = state_of disk.disk

-- how many changing calls it was asked for, and how many of its calls failed
abbrev pub calls_on : StoppingDisk → ℕ
calls_on disk = (changes_of disk.disk).listed.calls

abbrev pub faults_on : StoppingDisk → ℕ
faults_on disk = faults_of disk.disk

-- so many changing calls pass, and each later one fails, or none does; nothing else fails
abbrev pub StopsPast : StoppingDisk → Option ℕ → Type 0
StopsPast disk = FailsPast disk.disk
