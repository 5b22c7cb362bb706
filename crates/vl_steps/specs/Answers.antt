-- What a call came to, as the ruling on it has it, and how many changing calls it made.
use Rattle.std.specs.Prelude.{◌≡◌, ℕ, List, Option, None, Some, Result, Ok, Err}
use Rattle.vl_engine_laws.specs.Represents.{file_of}
use Rattle.vl_steps.specs.declared.done.Done.{Done}
use Rattle.vl_steps.specs.declared.done.Done.TheVariants as done
use Rattle.vl_steps.specs.declared.fails.CommitFail.{CommitFail}
use Rattle.vl_steps.specs.declared.fails.CommitFail.TheVariants as fails
use Rattle.vl_reads.specs.declared.txn.Txn.{Txn}
use Rattle.vl_reads.specs.declared.view.View.{View}
use Rattle.vl_frame.specs.Runs.{HasFrame}
use Rattle.vl_engine_model.specs.Decides.{Answered, Effects, Failed, NoMemory, Outcome, no_effects}
use Rattle.vl_engine_model.specs.Rulings.Begin.{BeginAnswer, Begun, TooMany}
use Rattle.vl_engine_model.specs.Rulings.Commit.{At, CommitAnswer, Conflict, Exhausted, Full, Halted, Nothing, Transaction}
use Rattle.vl_engine_model.specs.Rulings.Commit.{commit_frame, commit_ruling, committed}
use Rattle.vl_engine_model.specs.declared.layout.Layout.{Layout}
use Rattle.vl_memtable.specs.Lengths.{lengths_with}
use Rattle.vl_model.specs.Formats.{log_format}
use Rattle.vl_model.specs.History.{History}
use Rattle.vl_model.specs.declared.counter.Counter.TheVariants as counters
use Rattle.vl_oracle.specs.declared.begin_fail.BeginFail.{BeginFail}
use Rattle.vl_oracle.specs.declared.begin_fail.BeginFail.TheVariants as begin
use Rattle.vl_seglog.specs.Frames.{frames_grammar}

-- ---- begins

abbrev pub begin_outcome : {H R : Type 0} → Result (Txn H R) BeginFail → Outcome BeginAnswer
begin_outcome (Ok txn) = Answered (Begun txn.ticket txn.number)
begin_outcome (Err begin.TooMany) = Answered TooMany
begin_outcome (Err begin.NoMemory) = NoMemory

abbrev pub view_outcome : {H R : Type 0} → Result (View H R) BeginFail → Outcome BeginAnswer
view_outcome (Ok view) = Answered (Begun view.ticket view.number)
view_outcome (Err begin.TooMany) = Answered TooMany
view_outcome (Err begin.NoMemory) = NoMemory

-- ---- commits

abbrev pub commit_outcome : {H R : Type 0} → Result Done (CommitFail H R) → Outcome CommitAnswer
commit_outcome (Ok (done.At number)) = Answered (At number)
commit_outcome (Ok done.Nothing) = Answered Nothing
commit_outcome (Err (fails.Halted name)) = Answered (Halted (file_of name))
commit_outcome (Err (fails.Exhausted txn)) = Answered (Exhausted counters.Commit)
commit_outcome (Err (fails.Conflict key number)) = Answered (Conflict key number)
commit_outcome (Err (fails.Full txn length frame)) = Answered (Full length frame)
commit_outcome (Err (fails.NoMemory txn)) = NoMemory
commit_outcome (Err (fails.Disk name)) = Failed (file_of name)

-- the calls that change a file, where the commit was answered: an append and a sync
abbrev pub commit_effects : {H R : Type 0} → Result Done (CommitFail H R) → Effects
commit_effects (Ok (done.At number)) = record no_effects { calls = 2 }
commit_effects (Ok done.Nothing) = no_effects
commit_effects (Err why) = no_effects

-- the transaction that is handed back
abbrev pub handed_back : {H R : Type 0} → Result Done (CommitFail H R) → Option (Txn H R)
handed_back (Ok done) = None
handed_back (Err (fails.Halted name)) = None
handed_back (Err (fails.Exhausted txn)) = Some txn
handed_back (Err (fails.Conflict key number)) = None
handed_back (Err (fails.Full txn length frame)) = Some txn
handed_back (Err (fails.NoMemory txn)) = Some txn
handed_back (Err (fails.Disk name)) = None

-- the disk failed
abbrev pub CommitFailed : {H R : Type 0} → Result Done (CommitFail H R) → Type 0
CommitFailed (Ok done) = ⊥
CommitFailed (Err (fails.Halted name)) = ⊥
CommitFailed (Err (fails.Exhausted txn)) = ⊥
CommitFailed (Err (fails.Conflict key number)) = ⊥
CommitFailed (Err (fails.Full txn length frame)) = ⊥
CommitFailed (Err (fails.NoMemory txn)) = ⊥
CommitFailed (Err (fails.Disk name)) = Unit {0}

-- The writes of an accepted commit are one run more in memory, which joins as many older ones as it must, and no more. Each other
-- answer leaves the runs as they were.
abbrev pub CommitsRun : {H R : Type 0} → (writes : ℕ) → (old new : List ℕ) → Result Done (CommitFail H R) → Type 0
CommitsRun writes old new (Ok (done.At number)) = new ≡ lengths_with writes old
CommitsRun writes old new (Ok done.Nothing) = new ≡ old
CommitsRun writes old new (Err why) = new ≡ old

-- nothing was written: all answers but an accepted commit's and a fault's
abbrev pub LeavesDisk : {H R : Type 0} → Result Done (CommitFail H R) → Type 0
LeavesDisk (Ok (done.At number)) = ⊥
LeavesDisk (Ok done.Nothing) = Unit {0}
LeavesDisk (Err (fails.Halted name)) = Unit {0}
LeavesDisk (Err (fails.Exhausted txn)) = Unit {0}
LeavesDisk (Err (fails.Conflict key number)) = Unit {0}
LeavesDisk (Err (fails.Full txn length frame)) = Unit {0}
LeavesDisk (Err (fails.NoMemory txn)) = Unit {0}
LeavesDisk (Err (fails.Disk name)) = ⊥

-- The commit is one that the ruling accepts, and its frame fits the log's format.
pub record IsWritable (l : Layout) (h : History) (t : Transaction) : Type 0 where
  pub accepted : commit_ruling l h t ≡ committed l h t
  pub fits : HasFrame (frames_grammar log_format) (commit_frame h t.writes)
