-- What a disk holds while a script is answered, and what a crash leaves of it. `holds` says what a disk holds of a state,
-- `shows` what an image shows of a history at a number, and `stops` what a line leaves that was stopped: all three are
-- parameters throughout.
use Rattle.std.specs.Prelude.{◌≡◌, ◌⊎◌, ℕ, ◌+◌, ◌-◌, ◌<◌, ◌≤◌, nat_lt, Bool, List, [], ◌∷◌, None, Some, Result, OnOk, IsTrue}
use Rattle.std.specs.List.{filter}
use Rattle.vl_engine_model.specs.declared.file_name.Retired.{Retired}
use Rattle.vl_engine_model.specs.declared.layout.Layout.{Layout}
use Rattle.vl_model.specs.History.{Extends, History, last_number}
use Rattle.vl_disk.specs.declared.watched.Watched.{Ghosts}
use Rattle.vl_disk.specs.Faults.{Rose, after_calls}
use Rattle.vl_disk.specs.DiskState.{DiskState}
use Rattle.vl_disk.specs.Crash.{Image}
use Rattle.vl_disk.specs.Moments.{HoldsThroughout}
use Rattle.vl_recover.specs.crash.Alike.{IsLeft}
use Rattle.vl_recover.specs.crash.Starts.{MayOpen}
use Rattle.vl_script_model.specs.Sequential.{State, history_of}
use Rattle.vl_script_model.specs.Exchanges.{Exchange, last_state}
pub use Rattle.vl_script_model.specs.Between.{Holding}
use Rattle.vl_script_model.specs.Between.{HasPassed, Showing, ShowsBetween, Stopping}
use Rattle.vl_script_model.specs.Endings.{CutsAnswer, IsBetweenLines, TheDisk, TheReader, culprit_of}
use Rattle.vl_script_model.specs.Runs.{Course}
use Rattle.vl_script_model.specs.Halts.{HaltsBeside, HaltsByDisk}
use Rattle.vl_script_model.specs.declared.fails.Halt.{Halt}
use Rattle.vl_script_model.specs.declared.ending.Ending.TheVariants.{NoMemory}

-- P holds of whatever a crash leaves of this disk, if no torn bytes spell a frame by chance
abbrev pub Leaves : (Image → Type 0) → DiskState → Type 0
Leaves P disk = (image : Image) → IsLeft disk image → P image

-- the disk is as it was, and was asked for no changing call
abbrev pub IsAsBefore : {D : Type 0} → Ghosts D → (old new : D) → Type 0
IsAsBefore g old new = (g.told new ≡ g.told old) × (g.calls new ≡ g.calls old)

-- ---- what the loop needs of the first two parameters

-- Of a disk that holds a state:
pub record LeavesItsHistory (holds : Holding) (shows : Showing) : Type 0 where
  -- the images that a crash leaves show exactly its history,
  pub leaves : (s : State) (disk : DiskState) → holds s disk
      → Leaves (λ image. shows image (history_of s) (last_number (history_of s))) disk
  -- and a store may be opened on it
  pub may_open : (s : State) (disk : DiskState) → holds s disk → MayOpen disk

-- what an image shows of a history at one of its numbers it shows of each later history
abbrev pub StaysShown : Showing → Type 0
StaysShown shows =
    (h k : History) → Extends h k → (image : Image) (m : ℕ) → m ≤ last_number h → shows image h m
    → shows image k m

-- ---- what is said of a disk

-- the disk tells its bytes, and this holds of them
abbrev pub Tells : {D : Type 0} → Ghosts D → D → (DiskState → Type 0) → Type 0
Tells g disk P = (state : DiskState) × (g.told disk ≡ Some state) × P state

-- it tells its bytes
abbrev pub StillTells : {D : Type 0} → Ghosts D → D → Type 0
StillTells g disk = Tells g disk (λ _. Unit {0})

-- the disk holds the state, and was asked for the changing calls that the state counts
pub record HoldsState {D : Type 0} (g : Ghosts D) (holds : Holding)
    (s : State) (disk : D) : Type 0 where
  pub calls : g.calls disk ≡ s.calls
  pub there : Tells g disk (holds s)

-- a layout but for what lives, which no disk holds
abbrev pub without_live : Layout → Layout
without_live l = record l { live = [] }

-- a file that a version needed once, unlike one of a merge that was given up
abbrev pub was_needed : Retired → Bool
was_needed r = nat_lt 0 r.epoch

-- A layout but for what lives, and for what merges leave beside it that were given up: numbers that were given to their files, and
-- these files, which no version ever needed.
abbrev pub without_merges : Layout → Layout
without_merges l = record l { live = []; job = None; next_table = 0; retired = filter was_needed l.retired }

-- It holds a state but for what lives, and was asked for the changing calls that the state counts; the numbers of its files are
-- bounded as there.
abbrev pub HoldsCounted : {D : Type 0} → Ghosts D → Holding → State → D → Type 0
HoldsCounted g holds t disk =
    (s : State) × ((history_of s) ≡ (history_of t)) × (without_live s.store.layout ≡ without_live t.store.layout)
    × (s.calls ≡ t.calls) × (s.files ≡ t.files) × HoldsState g holds s disk

-- It holds the commits and the layout of a state, and nothing else but files of merges that were given up, which a line made that
-- leads to another state.
pub record HoldsCommits {D : Type 0} (g : Ghosts D) (holds : Holding) (t most : State) (disk : D) : Type 0 where
  pub now : State
  pub held : HoldsState g holds now disk
  pub history : history_of now ≡ history_of t
  pub layout : without_merges now.store.layout ≡ without_merges t.store.layout
  -- So many are these, no more than the line makes: each took the next number, and a changing call.
  pub given : ℕ
  pub few : given ≤ most.files - t.files
  pub numbers : now.store.layout.next_table ≡ t.store.layout.next_table + given
  pub files : now.files ≡ t.files + given
  pub calls : now.calls ≡ after_calls given t.calls
  -- Where there are none, as of a line that makes no file, the disk holds the state as it was.
  pub unchanged : given ≡ 0 → HoldsCounted g holds t disk

-- Whatever a crash leaves at any moment from the old disk to the new one shows at least the one history and at most the
-- other.
abbrev pub CrashesShow : {D : Type 0} → Ghosts D → Showing → (old new : D) → (least most : History)
    → Type 0
CrashesShow g shows old new least most =
    HoldsThroughout g old new (Leaves (ShowsBetween shows least most))

-- A disk that failed, and failed cleanly, was stopped within a line, which makes one state the next. So it is since an old
-- disk on which nothing failed before.
pub record StopsWithin {D : Type 0} (g : Ghosts D) (stops : Stopping) (before after : State) (old new : D)
    : Type 0 where
  -- so many of the line's calls passed at least, of more that it makes,
  pub passed : ℕ
  pub has_passed : HasPassed g old (after_calls passed before.calls)
  pub all : ℕ
  pub more : passed < all
  pub all_counted : after.calls ≡ after_calls all before.calls
  -- so many were made, of which the last failed,
  pub made : ℕ
  pub least : passed ≤ made
  pub most : made ≤ all
  pub calls : g.calls new ≡ after_calls made before.calls
  -- and so much of the line is on the disk
  pub now : DiskState
  pub told : g.told new ≡ Some now
  pub stopped : stops before after passed made now

-- A call took a disk from one state to the next, or failed on the way.
pub record LeadsTo {D T : Type 0} (g : Ghosts D) (holds : Holding) (shows : Showing) (stops : Stopping)
    (old new : D) (before after : State) (result : Result T Halt) : Type 0 where
  -- where it was answered the disk holds the state after it;
  pub answered : OnOk result (HoldsState g holds after new)
  -- where memory ran out, or a read failed, or a write beside the disk, it holds the commits before and no more, and is as it was
  -- where the line makes no file;
  pub short : HaltsBeside result → HoldsCommits g holds before after new
  -- it tells its bytes, and a store may be opened on them, also where it failed;
  pub tells : Tells g new MayOpen
  -- what a crash meanwhile leaves shows the commits before, or those after it;
  pub through : CrashesShow g shows old new (history_of before) (history_of after)
  -- and where the disk failed, and fails cleanly, it was stopped within the line that leads from one state to the next
  pub stopped : HaltsByDisk result → IsTrue g.fails_cleanly → StopsWithin g stops before after old new

-- A line, or a text, was carried out: so it is where the disk held the state before.
abbrev pub CarriesOut : {D T : Type 0} → Ghosts D → Holding → Showing → Stopping → (old new : D)
    → (before after : State) → Result T Halt → Type 0
CarriesOut g holds shows stops old new before after result =
    HoldsState g holds before old → LeadsTo g holds shows stops old new before after result

-- A disk that held the commits of a state went through this one for the next line. When the line was answered isn't said.
pub record PassesLine {D : Type 0} (g : Ghosts D) (holds : Holding) (shows : Showing) (new : D) (most : State)
    (disk : D) (s : State) (e : Exchange) (passed : D) : Type 0 where
  -- what a crash leaves up to it shows the commits before the line, or those after it;
  pub before : CrashesShow g shows disk passed (history_of s) (history_of e.after)
  -- it held the commits up to the line and nothing else, after just the changing calls of these lines;
  pub held : HoldsCounted g holds e.after passed
  -- no fault was counted meanwhile;
  pub steady : g.faults passed ≡ g.faults disk
  -- and what a crash leaves from it on, until the run's end, shows at least the latter
  pub behind : CrashesShow g shows passed new (history_of e.after) (history_of most)

-- The disk went, from one that held the commits of a state, through one for each of these lines, in order.
abbrev pub GoesAlong : {D : Type 0} → Ghosts D → Holding → Showing → (new : D) (most : State) → D
    → State → List Exchange → Type 0
GoesAlong g holds shows new most disk s [] = Unit {0}
GoesAlong {D} g holds shows new most disk s (e ∷ later) =
    (passed : D) × PassesLine g holds shows new most disk s e passed
    × GoesAlong g holds shows new most passed e.after later

-- What a run that came so far did to its disk. The commits of the answered lines are the acknowledged ones. Where the store
-- wasn't opened, `unopened` says what the disk is, and `failed_to_open` what is said of a fault.
pub record DiskEnds {D : Type 0} (g : Ghosts D) (holds : Holding) (shows : Showing) (stops : Stopping)
    (unopened failed_to_open : Type 0) (old new : D) (run : Course) : Type 0 where
  -- what a crash at any moment since the begin leaves shows a first part of the commits
  pub crash_during : CrashesShow g shows old new (history_of run.first) (history_of run.most)
  -- and the disk went through one for each answered line, from which on a crash leaves its commit too
  pub line_by_line : GoesAlong g holds shows new run.most old run.first run.answered
  -- what a crash leaves after the run's end shows each acknowledged one. This covers a stop inside the run too: by the run
  -- over a disk of which each call fails from that moment on, as docs/PROMISES.md argues
  pub crash_after : Tells g new (Leaves (ShowsBetween shows (history_of (last_state run.first run.answered)) (history_of run.most)))
  -- where the disk didn't fail nothing is torn: it wasn't opened, or holds the acknowledged commits, or these and that of
  -- one line more
  pub without_fault : (Rose (g.faults old) (g.faults new) → ⊥)
      → unopened
      ⊎ (HoldsCommits g holds (last_state run.first run.answered) run.most new ⊎ HoldsCommits g holds run.most run.most new)
  -- where the run ended by want of memory, it wasn't opened, or holds just the acknowledged ones; and is as the lines before left it
  -- where the next line makes no file
  pub no_memory : run.ending ≡ NoMemory
      → unopened ⊎ HoldsCommits g holds (last_state run.first run.answered) run.most new
  -- so it is where a line's read failed, or a write beside the disk
  pub unread : culprit_of run.ending ≡ TheReader → HoldsCommits g holds (last_state run.first run.answered) run.most new
  -- where the run ended between two lines, the disk holds just the acknowledged ones, after just the calls of their lines
  pub between_lines : IsBetweenLines (culprit_of run.ending)
      → HoldsCounted g holds (last_state run.first run.answered) new
  -- and where it ended while an answer was put, the commit of that answer's line too
  pub answer_cut : CutsAnswer run.ending → HoldsCounted g holds run.most new
  -- however it ended, a store may be opened on the disk again
  pub again : Tells g new MayOpen
  -- where it ended by a disk that fails cleanly, the store wasn't opened, or the disk was stopped within one line more
  pub stopped : culprit_of run.ending ≡ TheDisk → IsTrue g.fails_cleanly
      → failed_to_open ⊎ StopsWithin g stops (last_state run.first run.answered) run.most old new

-- so it is of a run over an open store, where the disk held the state in which it began
abbrev pub DiskEndsFrom : {D : Type 0} → Ghosts D → Holding → Showing → Stopping → (old new : D) → State
    → Course → Type 0
DiskEndsFrom g holds shows stops old new s run =
    HoldsState g holds s old → DiskEnds g holds shows stops ⊥ ⊥ old new run
