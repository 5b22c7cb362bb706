-- How far a commit, a move or a step on files came on a disk that then failed, and failed cleanly. And the numbers that a disk's
-- files have.
use Rattle.std.specs.Prelude.{◌≡◌, ◌≢◌, ◌⊎◌, ◌≤◌, ℕ, ◌+◌, List, length, None}
use Rattle.std.specs.FinMap.{get}
use Rattle.vl_disk.specs.Crash.{Image}
use Rattle.vl_disk.specs.DiskState.{DiskState, appended}
use Rattle.vl_disk.specs.Name.{file_number}
use Rattle.vl_disk.specs.declared.name.Name.{Name}
use Rattle.vl_disk.specs.declared.name.Name.TheVariants.{Log}
use Rattle.vl_engine_laws.specs.Writing.{written}
use Rattle.vl_frame.specs.Runs.{HasFrame}
use Rattle.vl_engine_model.specs.Store.Commits.{Changes, with_changes}
use Rattle.vl_manifest.specs.declared.state.ManifestState.{ManifestState}
use Rattle.vl_mem.specs.laws.CrashChance.{IsTornByPieces}
use Rattle.vl_model.specs.History.{last_number}
use Rattle.vl_model.specs.declared.log_frame.LogFrame.{LogFrame}
use Rattle.vl_recover.specs.crash.Alike.{IsLeft}
use Rattle.vl_recover.specs.opening.Answers.{Finds}
use Rattle.vl_seglog.specs.Frames.{frame_at, frames_grammar}
use Rattle.vl_script_model.specs.Between.{Holding, Showing}
use Rattle.vl_script_model.specs.Sequential.{State, history_of}

-- ---- a frame that is being written

-- the log that takes the state's commits
abbrev pub log_of : State → Name
log_of s = Log s.store.layout.active.number

-- the bytes of a frame at its end
abbrev pub frame_behind : State → LogFrame → List ℕ
frame_behind s item = frame_at s.store.layout.active.format s.store.layout.active.number s.store.layout.active.length item

-- a frame that makes one state the next, that of a commit or of a move, and the disk before it was written
pub record ByFrame (holds : Holding) (before after : State) : Type 0 where
  -- the disk held the state before,
  pub old : DiskState
  pub held : holds before old
  -- the frame is that of one item, at the end of the log that takes commits,
  pub item : LogFrame
  pub has : HasFrame (frames_grammar before.store.layout.active.format) item
  pub frame : List ℕ
  pub frame_is : frame ≡ frame_behind before item
  -- and once it is written the disk holds the state after
  pub done : holds after (written (log_of before) frame old)
  -- that state has some writes more, or the same commits, of which records were moved
  pub commits : ((writes : Changes) × (after.store.commits ≡ with_changes before.store.commits writes))
      ⊎ (after.store.commits ≡ before.store.commits)
  -- and no file more
  pub files : after.files ≡ before.files

-- the disk whose log took so many bytes of the frame
abbrev pub with_taken : {holds : Holding} {before after : State} → ByFrame holds before after → ℕ → DiskState
with_taken {before} by taken = appended (log_of before) by.frame taken by.old

-- ---- numbers of files

-- no file of the disk, standing or removed, has a greater number
pub record AreNumberedUpTo (greatest : ℕ) (disk : DiskState) : Type 0 where
  pub standing : (name : Name) → get disk.standing name ≢ None → file_number name ≤ greatest
  pub removed : (name : Name) → get disk.removed name ≢ None → file_number name ≤ greatest

-- and the manifest gives no greater one than the next above it, to a log or to a table
pub record GivesUpTo (greatest : ℕ) (state : ManifestState) : Type 0 where
  pub log : state.next_log ≤ greatest + 1
  pub table : state.next_table ≤ greatest + 1

-- ---- a step on files that was stopped

-- A rotation, a flush, a change of how many versions are kept, a plan, a drain, an install and a sweep leave the commits as they
-- were, also where they were stopped.
pub record StopsStep (shows : Showing) (before after : State) (passed : ℕ) (now : DiskState) : Type 0 where
  pub same : after.store.commits ≡ before.store.commits
  -- what a crash then leaves shows them,
  pub left : (image : Image) → IsLeft now image → shows image (history_of before) (last_number (history_of before))
  -- no file passes this number, which allows one file for each call that passed, and one for that which failed,
  pub files : ℕ
  pub few : files ≤ before.files + passed + 1
  pub numbered : AreNumberedUpTo files now
  -- the manifest that is found on what a crash leaves gives at most the next ones, and has no head above them,
  pub next : (image : Image) (found : Finds image) → IsLeft now image → GivesUpTo files found.opening.state
  pub head : (image : Image) (found : Finds image) → IsLeft now image → found.opening.state.head ≤ files + 1
  -- and what isn't durable is torn by whole pieces
  pub torn : IsTornByPieces now

-- ---- a line that was stopped

-- What a line left of a disk that failed, and failed cleanly, where so many of its calls passed at least, and so many were made.
pub data IsStoppedIn (holds : Holding) (shows : Showing) (before after : State) (passed made : ℕ) (now : DiskState) : Type 0 where
  -- a frame's append failed, and the log took nothing of it
  append_failed : (by : ByFrame holds before after) → passed ≡ 0 → made ≡ 1 → now ≡ with_taken by 0
      → IsStoppedIn holds shows before after passed made now
  -- a frame's sync failed behind its append, and the log took all of it
  sync_failed : (by : ByFrame holds before after) → passed ≡ 1 → made ≡ 2 → now ≡ with_taken by (length by.frame)
      → IsStoppedIn holds shows before after passed made now
  -- a call of a rotation, a flush, a change of how many versions are kept, a plan, a drain, an install or a sweep failed
  -- and no file passes the number that none passes behind the line
  step_failed : (stops : StopsStep shows before after passed now) → stops.files ≤ after.files
      → IsStoppedIn holds shows before after passed made now
