-- A frame that is written to a log: handed to the disk by one call, and made durable by another.
use Rattle.std.specs.Prelude.{◌≡◌, ◌⊎◌, List, Option, length, ℕ}
use Rattle.vl_disk.specs.Crash.{WhileAppending, WhileSyncing}
use Rattle.vl_disk.specs.Disk.{IsChangedBy}
use Rattle.vl_disk.specs.DiskState.{DiskState, appended, synced}
use Rattle.vl_disk.specs.Faults.{after_calls}
use Rattle.vl_disk.specs.declared.name.Name.{Name}
use Rattle.vl_disk.specs.declared.watched.Watched.{Ghosts}

-- the disk then
abbrev pub written : Name → List ℕ → DiskState → DiskState
written name frame disk = synced name (appended name frame (length frame) disk)

-- what it may be meanwhile
abbrev pub WhileWriting : Name → List ℕ → DiskState → DiskState → Type 0
WhileWriting name frame disk now =
    WhileAppending name frame disk now ⊎ WhileSyncing name (appended name frame (length frame) disk) now

-- The first of two calls passed: between them the disk had counted so many changing calls and no fault, and fails when it was to.
pub record PassedOne {D : Type 0} (g : Ghosts D) (old : D) (calls : ℕ) : Type 0 where
  pub mid : D
  pub counted : g.calls mid ≡ calls
  pub steady : g.faults mid ≡ g.faults old
  pub as_planned : (stop : Option ℕ) → g.fails_past old stop → g.fails_past mid stop

-- Writing a frame was stopped by a disk that failed cleanly.
pub data StopsWriting {D : Type 0} (g : Ghosts D) (name : Name) (frame : List ℕ) (old new : D) : Type 0 where
  -- the append failed, and the file took nothing of the frame
  at_append : IsChangedBy (appended name frame 0) (g.told old) (g.told new)
      → g.calls new ≡ after_calls 1 (g.calls old) → StopsWriting g name frame old new
  -- the sync failed behind an append that passed, and the file took all of it
  at_sync : IsChangedBy (appended name frame (length frame)) (g.told old) (g.told new)
      → g.calls new ≡ after_calls 2 (g.calls old) → PassedOne g old (after_calls 1 (g.calls old))
      → StopsWriting g name frame old new
