-- A disk in memory as its callers see it.
use Rattle.std.specs.Prelude.{◌≡◌, ◌≢◌, ◌↔◌, ℕ, ◌+◌, ◌-◌, ◌^◌, min, List, [], ◌∷◌, ◌++◌, length, Option, Some}
use Rattle.vl_disk.specs.declared.name.Name.{Name}
use Rattle.vl_disk.specs.DiskState.{DiskState, File}
use Rattle.vl_disk.specs.FaultPlan.{Follows, Plan}
use Rattle.vl_disk.specs.Spare.{SameSpare, Spare}
use Rattle.vl_mem.specs.ChangePlan.{ChangePlan, FollowsPlan}
use Rattle.vl_mem.specs.declared.event.Event.{Event}
use Rattle.vl_mem.specs.declared.mem_disk.MemDisk.{MemDisk}
use Rattle.vl_mem.specs.declared.mem_reader.MemReader.{MemReader}
use Rattle.vl_mem.specs.declared.mem_writer.MemWriter.{MemWriter}
use Rattle.vl_mem.specs.Entry.{entry_of, failing_of, spare_of}
use Rattle.vl_mem.specs.Event.{WasSince, after_event, state_after}
use Rattle.vl_mem.specs.Written.{file_written}

abbrev pub state_of : MemDisk → DiskState
state_of disk = state_after disk.events.items

abbrev pub told_by : MemDisk → Option DiskState
told_by disk = Some (state_of disk)

abbrev pub moment_of : MemDisk → ℕ
moment_of disk = length disk.events.items

abbrev pub was_since : MemDisk → ℕ → DiskState → Type 0
was_since disk = WasSince disk.events.items

-- how many calls failed, changing ones and others; the count stands still at its last value
abbrev pub in_all : ℕ → ℕ → ℕ
in_all changes reads = min (changes + reads) (2 ^ 64 - 1)

abbrev pub faults_of : MemDisk → ℕ
faults_of disk = in_all disk.changes.listed.faults disk.reads.faults

abbrev pub room_of : MemDisk → Name → Spare
room_of disk name = spare_of (entry_of disk.entries name)

-- which of its changing calls are to fail, and how many came
abbrev pub changes_of : MemDisk → ChangePlan
changes_of disk = disk.changes

-- the same of its other calls that can fail
abbrev pub reads_of : MemDisk → Plan
reads_of disk = disk.reads

-- the same of the reads of a reader
abbrev pub reads_by : MemReader → Plan
reads_by reader = reader.plan

-- the calls at which each writer is to fail whose name is made ready
abbrev pub writers_of : MemDisk → List ℕ
writers_of disk = disk.writers.items

-- the same, as it was when a name was made ready
abbrev pub failing_at : MemDisk → Name → List ℕ
failing_at disk name = failing_of (entry_of disk.entries name)

-- the same of a writer, and how many calls came
abbrev pub writes_of : MemWriter → Plan
writes_of writer = writer.plan

-- the file of a writer
abbrev pub file_by : MemWriter → Option File
file_by writer = Some (file_written writer.written)

-- a changing call was asked for, and failed exactly if it was unsynced
pub record CountsChange (old new : MemDisk) (failed : Type 0) : Type 0 where
  pub changes : FollowsPlan (changes_of old) (changes_of new) failed
  pub reads : reads_of new ≡ reads_of old

-- another call that can fail was
pub record CountsRead (old new : MemDisk) (failed : Type 0) : Type 0 where
  pub changes : changes_of new ≡ changes_of old
  pub reads : Follows (reads_of old) (reads_of new) failed

-- the calls at which writers are to fail are as they were: those that are listed, and those of each name
abbrev pub KeepsWriters : MemDisk → MemDisk → Type 0
KeepsWriters old new = (writers_of new ≡ writers_of old) × ((name : Name) → failing_at new name ≡ failing_at old name)

-- the same, but for this name
abbrev pub KeepsOtherWriters : Name → MemDisk → MemDisk → Type 0
KeepsOtherWriters name old new =
    (writers_of new ≡ writers_of old) × ((other : Name) → other ≢ name → failing_at new other ≡ failing_at old other)

-- its files, its past and its room are as they were, and which of the other calls fail
pub record KeepsFiles (old new : MemDisk) : Type 0 where
  pub told : told_by new ≡ told_by old
  pub moment : moment_of new ≡ moment_of old
  pub since : (t : ℕ) (state : DiskState) → was_since new t state ↔ was_since old t state
  pub spare : SameSpare (room_of old) (room_of new)
  pub reads : reads_of new ≡ reads_of old

-- a call left one event, which did this to the disk
pub record Goes (old new : MemDisk) (change : DiskState → DiskState) : Type 0 where
  pub event : Event
  pub does : (disk : DiskState) → after_event event disk ≡ change disk
  pub events : new.events.items ≡ old.events.items ++ event ∷ []
  pub changes : new.changes ≡ old.changes
  pub reads : new.reads ≡ old.reads

-- it left none
pub record Stays (old new : MemDisk) : Type 0 where
  pub events : new.events.items ≡ old.events.items
  pub changes : new.changes ≡ old.changes
  pub reads : new.reads ≡ old.reads
