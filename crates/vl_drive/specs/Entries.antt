-- Which step a call adds to those under the lock, by what it came to.
use Rattle.std.specs.Prelude.{ℕ, List, Option, None, Some}
use Rattle.vl_drive.specs.Steps.{entry_of}
use Rattle.vl_engine_model.specs.Decides.{Answered, Damaged, Failed, NoMemory, Outcome}
use Rattle.vl_engine_model.specs.Ruling.{ended, halted_at, logged}
use Rattle.vl_engine_model.specs.Rulings.Begin as begin
use Rattle.vl_engine_model.specs.Rulings.Begin.{BeginAnswer, begun}
use Rattle.vl_engine_model.specs.Rulings.Commit as commit
use Rattle.vl_engine_model.specs.Rulings.Commit.{CommitAnswer, commit_frame}
use Rattle.vl_engine_model.specs.declared.layout.Layout.{Layout}
use Rattle.vl_engine_model.specs.declared.lock_history.LockEntry.{LockEntry}
use Rattle.vl_engine_model.specs.declared.lock_history.LockStep.TheVariants.{Begun, Changed, Ended, Put}
use Rattle.vl_model.specs.History.{History}
use Rattle.vl_model.specs.declared.change.Change.{Change}

abbrev pub begin_answered : ℕ → Layout → BeginAnswer → Option LockEntry
begin_answered session l (begin.Begun ticket number) = Some (entry_of session (Begun ticket number) (begun l ticket number))
begin_answered session l begin.TooMany = None

abbrev pub begin_entry : ℕ → Layout → History → Outcome BeginAnswer → Option LockEntry
begin_entry session l h (Answered answer) = begin_answered session l answer
begin_entry session l h NoMemory = None
begin_entry session l h (Failed name) = Some (entry_of session Changed (halted_at name l))
begin_entry session l h (Damaged name place) = None

-- of a transaction with this ticket and these writes
abbrev pub commit_answered : (ticket : ℕ) → List (List ℕ × Change) → ℕ → Layout → History → CommitAnswer → Option LockEntry
commit_answered ticket writes session l h (commit.At number) =
    Some (entry_of session (Put ticket number writes) (logged (commit_frame h writes) (ended ticket l)))
commit_answered ticket writes session l h commit.Nothing = Some (entry_of session (Ended ticket) (ended ticket l))
commit_answered ticket writes session l h (commit.Halted name) = Some (entry_of session (Ended ticket) (ended ticket l))
commit_answered ticket writes session l h (commit.Exhausted counter) = None
commit_answered ticket writes session l h (commit.Conflict key number) =
    Some (entry_of session (Ended ticket) (ended ticket l))
commit_answered ticket writes session l h (commit.Full length frame) = None

abbrev pub commit_entry : (ticket : ℕ) → List (List ℕ × Change) → ℕ → Layout → History → Outcome CommitAnswer
    → Option LockEntry
commit_entry ticket writes session l h (Answered answer) = commit_answered ticket writes session l h answer
commit_entry ticket writes session l h NoMemory = None
commit_entry ticket writes session l h (Failed name) =
    Some (entry_of session (Ended ticket) (halted_at name (ended ticket l)))
commit_entry ticket writes session l h (Damaged name place) = None

-- of what is forgotten
abbrev pub forget_entry : (ticket : ℕ) → ℕ → Layout → History → Outcome (Unit {0}) → Option LockEntry
forget_entry ticket session l h outcome = Some (entry_of session (Ended ticket) (ended ticket l))
