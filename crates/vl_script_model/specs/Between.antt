-- What a disk holds of a state, also where a line was stopped, and what an image shows of a history.
use Rattle.std.specs.Prelude.{◌≡◌, ◌≤◌, ℕ, Option}
use Rattle.vl_model.specs.History.{History, last_number}
use Rattle.vl_disk.specs.Crash.{Image}
use Rattle.vl_disk.specs.DiskState.{DiskState}
use Rattle.vl_disk.specs.declared.watched.Watched.{Ghosts}
use Rattle.vl_script_model.specs.Sequential.{State}

-- what a disk holds of a state
abbrev pub Holding : Type 1
Holding = State → DiskState → Type 0

-- what an image shows of a history at a number
abbrev pub Showing : Type 1
Showing = Image → History → ℕ → Type 0

-- what a line leaves of a disk that fails it cleanly, where so many of its changing calls passed at least, and so many were made;
-- the line makes one state the next
abbrev pub Stopping : Type 1
Stopping = (before after : State) → (passed made : ℕ) → DiskState → Type 0

-- Some calls passed: behind them the disk had counted so many changing calls and no fault, and fails when it was to.
pub record HasPassed {D : Type 0} (g : Ghosts D) (old : D) (calls : ℕ) : Type 0 where
  pub mid : D
  pub counted : g.calls mid ≡ calls
  pub steady : g.faults mid ≡ g.faults old
  pub as_planned : (stop : Option ℕ) → g.fails_past old stop → g.fails_past mid stop

-- The image shows a history at one of its numbers, not below the last one of an earlier history: it has all commits of the
-- earlier one, and maybe some of those behind them.
abbrev pub ShowsBetween : Showing → History → History → Image → Type 0
ShowsBetween shows least most image =
    (m : ℕ) × (last_number least ≤ m) × (m ≤ last_number most) × shows image most m
