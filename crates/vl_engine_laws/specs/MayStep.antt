-- What steps on files count, and what they ask.
use Rattle.std.specs.Prelude.{◌≡◌, ◌≤◌, ℕ, List, [], ◌∷◌, Option, None, Some, Ok}
use Rattle.std.specs.List.{AllByRecursion}
use Rattle.vl_back.specs.declared.back.Back.{Back}
use Rattle.vl_disk.specs.Crash.{Image}
use Rattle.vl_disk.specs.DiskState.{DiskState}
use Rattle.vl_engine_laws.specs.Files.{IsLogFile}
use Rattle.vl_engine_laws.specs.RotateFacts.{HasActive}
use Rattle.vl_engine_laws.specs.declared.kept.Core.{Core}
use Rattle.vl_engine_model.specs.Rulings.Flush.{covered_by}
use Rattle.vl_engine_model.specs.Start.{newest_first}
use Rattle.vl_engine_model.specs.declared.layout.Layout.{Layout}
use Rattle.vl_engine_model.specs.declared.segment.Segment.{Segment}
use Rattle.vl_model.specs.History.{History, last_number}
use Rattle.vl_recover.specs.crash.Alike.{IsLeft}
use Rattle.vl_recover.specs.opening.HeldFiles.{AreWaiting}
use Rattle.vl_recover.specs.opening.Opening.{Opening, Opens}

-- ---- what they count

-- the next numbers and the logs that wait are those of the layout
pub record HasNumbers (back : Back) (l : Layout) : Type 0 where
  pub next_log : back.next_log ≡ l.next_log
  pub next_table : back.state.next_table ≡ l.next_table
  -- a layout has its frozen logs the newest first
  pub waiting : AreWaiting l.covered back.waiting.items (newest_first l.frozen)

-- the logs whose memtables are kept can be spelled, so that tables can be made of them
abbrev pub AreLogFiles : Layout → Type 0
AreLogFiles l = AllByRecursion IsLogFile (l.active ∷ l.frozen)

-- ---- what they ask

-- the last commit of these logs, or the number that was covered before
abbrev pub covered_all : List Segment → ℕ → ℕ
covered_all [] covered = covered
covered_all (s ∷ ss) covered = covered_all ss (covered_by s.frames covered)

-- Steps find what they ask: what is counted is the layout's, its logs can be spelled and end with the history's last commit,
-- and a disk that tells its bytes has the active one with the layout's frames.
pub record MayStep (told : Option DiskState) (back : Back) (h : History) (l : Layout) : Type 0 where
  pub numbers : HasNumbers back l
  pub files : AreLogFiles l
  pub covers : covered_by l.active.frames (covered_all (newest_first l.frozen) l.covered) ≡ last_number h
  pub state : DiskState
  pub told_is : told ≡ Some state
  pub active : HasActive l state

-- So it is unless the engine is halted. Each call gives it back.
pub record Fits {H : Type 0} (told : Option DiskState) (core : Core H) (h : History) (l : Layout) : Type 0 where
  pub running : l.halted ≡ None → MayStep told core.back h l

-- ---- what numbers a manifest gives

-- Whatever a crash leaves of the disk, where it opens, gives no number above these to the next log and to the next table, and its
-- logs begin no later than that log.
abbrev pub LeavesNumbers : (log table : ℕ) → DiskState → Type 0
LeavesNumbers log table disk = (image : Image) (o : Opening) → IsLeft disk image → Opens image (Ok o)
    → (o.state.next_log ≤ log) × (o.state.next_table ≤ table) × (o.state.head ≤ log)
