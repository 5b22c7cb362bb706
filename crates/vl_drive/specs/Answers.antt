-- What the calls of a shop came to, by their results.
use Rattle.std.specs.Prelude.{ℕ, Bool, true, false, List, Option, None, Some, Result, Ok, Err}
use Rattle.vl_drive.specs.declared.fails.BeginFail.{BeginFail}
use Rattle.vl_drive.specs.declared.fails.BeginFail.TheVariants as begin_fail
use Rattle.vl_drive.specs.declared.fails.CommitFail.{CommitFail}
use Rattle.vl_drive.specs.declared.fails.CommitFail.TheVariants as commit_fail
use Rattle.vl_drive.specs.declared.fails.Done.{Done}
use Rattle.vl_drive.specs.declared.fails.Done.TheVariants as done
use Rattle.vl_drive.specs.declared.fails.ReadFail.{ReadFail}
use Rattle.vl_drive.specs.declared.fails.ReadFail.TheVariants as read_fail
use Rattle.vl_drive.specs.declared.fails.StepFail.{StepFail}
use Rattle.vl_drive.specs.declared.fails.StepFail.TheVariants as step_fail
use Rattle.vl_engine_model.specs.Decides.{Answered, Failed, NoMemory, Outcome}
use Rattle.vl_engine_model.specs.Rulings.Begin as begin
use Rattle.vl_engine_model.specs.Rulings.Begin.{BeginAnswer}
use Rattle.vl_engine_model.specs.Rulings.Commit as commit
use Rattle.vl_engine_model.specs.Rulings.Commit.{CommitAnswer, Transaction}
use Rattle.vl_model.specs.Reads.{Read}
use Rattle.vl_model.specs.declared.change.Change.{Change}
use Rattle.vl_model.specs.declared.counter.Counter.TheVariants.{Commit as CommitNumber}

-- a transaction with these parts, as a ruling is asked of it
abbrev pub asked : (ticket number : ℕ) → List Read → List (List ℕ × Change) → Transaction
asked ticket number reads writes = record { ticket = ticket; number = number; reads = reads; writes = writes }

-- where transactions have tickets and numbers
abbrev pub begin_outcome : {T : Type 0} → (ticket number : T → ℕ) → Result T BeginFail → Outcome BeginAnswer
begin_outcome ticket number (Ok txn) = Answered (begin.Begun (ticket txn) (number txn))
begin_outcome ticket number (Err begin_fail.TooMany) = Answered begin.TooMany
begin_outcome ticket number (Err begin_fail.NoMemory) = NoMemory

abbrev pub done_outcome : Done → Outcome CommitAnswer
done_outcome (done.At number) = Answered (commit.At number)
done_outcome done.Nothing = Answered commit.Nothing

abbrev pub commit_outcome : {T : Type 0} → Result Done (CommitFail T) → Outcome CommitAnswer
commit_outcome (Ok d) = done_outcome d
commit_outcome (Err (commit_fail.Halted name)) = Answered (commit.Halted name)
commit_outcome (Err (commit_fail.Exhausted txn)) = Answered (commit.Exhausted CommitNumber)
commit_outcome (Err (commit_fail.Conflict key number)) = Answered (commit.Conflict key number)
commit_outcome (Err (commit_fail.Full txn length frame)) = Answered (commit.Full length frame)
commit_outcome (Err (commit_fail.NoMemory txn)) = NoMemory
commit_outcome (Err (commit_fail.Disk name)) = Failed name

abbrev pub handed_back : {T : Type 0} → Result Done (CommitFail T) → Option T
handed_back (Ok d) = None
handed_back (Err (commit_fail.Halted name)) = None
handed_back (Err (commit_fail.Exhausted txn)) = Some txn
handed_back (Err (commit_fail.Conflict key number)) = None
handed_back (Err (commit_fail.Full txn length frame)) = Some txn
handed_back (Err (commit_fail.NoMemory txn)) = Some txn
handed_back (Err (commit_fail.Disk name)) = None

-- ---- faults

abbrev pub is_commit_fault : {T : Type 0} → Result Done (CommitFail T) → Bool
is_commit_fault (Ok d) = false
is_commit_fault (Err (commit_fail.Halted name)) = true
is_commit_fault (Err (commit_fail.Exhausted txn)) = false
is_commit_fault (Err (commit_fail.Conflict key number)) = false
is_commit_fault (Err (commit_fail.Full txn length frame)) = false
is_commit_fault (Err (commit_fail.NoMemory txn)) = false
is_commit_fault (Err (commit_fail.Disk name)) = true

abbrev pub is_read_fault : {A : Type 0} → Result A ReadFail → Bool
is_read_fault (Ok a) = false
is_read_fault (Err read_fail.NoMemory) = false
is_read_fault (Err (read_fail.Disk name)) = true
is_read_fault (Err (read_fail.Damaged name place)) = true

abbrev pub is_step_fault : {A : Type 0} → Result A StepFail → Bool
is_step_fault (Ok a) = false
is_step_fault (Err step_fail.NoMemory) = false
is_step_fault (Err (step_fail.Disk name)) = true
is_step_fault (Err (step_fail.Damaged name place)) = true
is_step_fault (Err step_fail.Refused) = false
