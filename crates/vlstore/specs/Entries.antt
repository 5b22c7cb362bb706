-- Which entry a call makes, by the session that makes it, what was before, and what it came to. A call that changes
-- nothing makes none.
use Rattle.std.specs.Prelude.{ℕ, zero, suc, ◌+◌, List, Option, None, Some, Result, Ok, Err}
use Rattle.vl_engine_model.specs.Decides.{Answered, Damaged, Failed, NoMemory, Outcome}
use Rattle.vl_engine_model.specs.Jobs.{Made, job_ended}
use Rattle.vl_engine_model.specs.Relocation.{Candidate, Pass}
use Rattle.vl_engine_model.specs.Ruling.{Exhausted, Halted, Idle, StepAnswer, Stepped, ended, halted_at, logged}
use Rattle.vl_engine_model.specs.Rulings.Begin as begin
use Rattle.vl_engine_model.specs.Rulings.Begin.{BeginAnswer, Begun, begun}
use Rattle.vl_engine_model.specs.Rulings.Commit as commit
use Rattle.vl_engine_model.specs.Rulings.Commit.{CommitAnswer, commit_frame}
use Rattle.vl_engine_model.specs.Rulings.EndPass.{without_pass}
use Rattle.vl_engine_model.specs.Rulings.Flush.{flush_ruling}
use Rattle.vl_engine_model.specs.Rulings.Fresh as fresh
use Rattle.vl_engine_model.specs.Rulings.Fresh.{FreshAnswer, lent_to}
use Rattle.vl_engine_model.specs.Rulings.Install.{InstallAnswer, install_ruling}
use Rattle.vl_engine_model.specs.Rulings.Pick as pick
use Rattle.vl_engine_model.specs.Rulings.Pick.{PickAnswer, pick_ruling}
use Rattle.vl_engine_model.specs.Rulings.Plan.{with_job}
use Rattle.vl_engine_model.specs.Rulings.Relocate as relocate
use Rattle.vl_engine_model.specs.Rulings.Relocate.{MoveAnswer, relocate_ruling}
use Rattle.vl_engine_model.specs.Rulings.Rotate.{rotated}
use Rattle.vl_engine_model.specs.Rulings.Sweep as sweep
use Rattle.vl_engine_model.specs.Rulings.Sweep.{SweepAnswer, sweep_lost, sweep_ruling}
use Rattle.vl_engine_model.specs.declared.job.Job.{Job}
use Rattle.vl_engine_model.specs.declared.layout.Layout.{Layout}
use Rattle.vl_engine_model.specs.declared.lock_history.LockEntry.{LockEntry}
use Rattle.vl_engine_model.specs.declared.lock_history.LockStep.{LockStep}
use Rattle.vl_engine_model.specs.declared.lock_history.LockStep.TheVariants as steps
use Rattle.vl_model.specs.History.{History}
use Rattle.vl_model.specs.declared.change.Change.{Change}

-- what a call did, and the layout behind it
abbrev pub Done : Type 0
Done = Option (LockStep × Layout)

abbrev pub entry_of : ℕ → Done → Option LockEntry
entry_of session None = None
entry_of session (Some done) = Some (record { session = session; step = done.0; layout = done.1 })

-- By an answer, and by what is left where the disk failed, which halts it. Where there is neither, nothing was changed.
abbrev pub done_by : {A : Type 0} → (A → Done) → (LockStep × Layout) → Outcome A → Done
done_by answered failed (Answered answer) = answered answer
done_by answered failed NoMemory = None
done_by answered failed (Failed name) = Some (failed.0, halted_at name failed.1)
done_by answered failed (Damaged name place) = None

abbrev pub entry_by : {A : Type 0} → (A → Done) → (LockStep × Layout) → ℕ → Outcome A → Option LockEntry
entry_by answered failed session outcome = entry_of session (done_by answered failed outcome)

-- ---- begins and ends

abbrev pub begin_done : Layout → BeginAnswer → Done
begin_done l (Begun ticket number) = Some (steps.Begun ticket number, begun l ticket number)
begin_done l begin.TooMany = None

abbrev pub begin_entry : ℕ → Layout → History → Outcome BeginAnswer → Option LockEntry
begin_entry session l h outcome = entry_by (begin_done l) (steps.Changed, l) session outcome

-- A call that is always answered, and leaves this.
abbrev pub always : (Layout → LockStep × Layout) → ℕ → Layout → History → Outcome (Unit {0}) → Option LockEntry
always done session l h outcome = entry_by (λ answer. Some (done l)) (done l) session outcome

-- what has this ticket ended
abbrev pub end_entry : ℕ → ℕ → Layout → History → Outcome (Unit {0}) → Option LockEntry
end_entry ticket = always (λ l. (steps.Ended ticket, ended ticket l))

-- ---- commits

-- a transaction with this ticket and these writes
abbrev pub commit_done : (ticket : ℕ) → (writes : List (List ℕ × Change)) → Layout → History → CommitAnswer → Done
commit_done ticket writes l h (commit.At number) =
    Some (steps.Put ticket number writes, logged (commit_frame h writes) (ended ticket l))
commit_done ticket writes l h commit.Nothing = Some (steps.Ended ticket, ended ticket l)
commit_done ticket writes l h (commit.Halted name) = Some (steps.Ended ticket, ended ticket l)
commit_done ticket writes l h (commit.Exhausted counter) = None
commit_done ticket writes l h (commit.Conflict key number) = Some (steps.Ended ticket, ended ticket l)
commit_done ticket writes l h (commit.Full length frame) = None

abbrev pub commit_entry : (ticket : ℕ) → (writes : List (List ℕ × Change)) → ℕ → Layout → History → Outcome CommitAnswer
    → Option LockEntry
commit_entry ticket writes session l h outcome =
    entry_by (commit_done ticket writes l h) (steps.Ended ticket, ended ticket l) session outcome

-- ---- steps on files

-- a step that was done leaves this layout
abbrev pub step_done : Layout → StepAnswer → Done
step_done next (Stepped number) = Some (steps.Changed, next)
step_done next Idle = None
step_done next (Halted name) = None
step_done next (Exhausted counter) = None

abbrev pub rotate_entry : ℕ → Layout → History → Outcome StepAnswer → Option LockEntry
rotate_entry session l h outcome = entry_by (step_done (rotated l)) (steps.Changed, l) session outcome

abbrev pub flush_entry : ℕ → Layout → History → Outcome StepAnswer → Option LockEntry
flush_entry session l h outcome = entry_by (step_done (flush_ruling l h).layout) (steps.Changed, l) session outcome

-- ---- merges

abbrev pub plan_done : Layout → Option Job → Done
plan_done l None = None
plan_done l (Some job) = Some (steps.Planned, with_job job l)

-- the merge that was planned, if one was
abbrev pub planned_in : {J E : Type 0} → Result (Option J) E → Option J
planned_in (Ok job) = job
planned_in (Err why) = None

abbrev pub plan_entry : ℕ → Layout → History → Outcome (Option Job) → Option LockEntry
plan_entry session l h outcome = entry_by (plan_done l) (steps.Changed, l) session outcome

-- the file of the table with this number is lent to the open merge
abbrev pub drawn_at : ℕ → Layout → Layout
drawn_at number l = record l { next_table = number + 1; job = lent_to number l.job }

abbrev pub fresh_done : Layout → FreshAnswer → Done
fresh_done l (fresh.Drawn number) = Some (steps.Changed, drawn_at number l)
fresh_done l (fresh.Halted name) = None
fresh_done l (fresh.Exhausted counter) = None

abbrev pub fresh_entry : ℕ → Layout → History → Outcome FreshAnswer → Option LockEntry
fresh_entry session l h outcome = entry_by (fresh_done l) (steps.Changed, l) session outcome

-- whatever is answered, the merge has ended
abbrev pub install_entry : Job → Made → ℕ → Layout → History → Outcome InstallAnswer → Option LockEntry
install_entry job made session l h outcome =
    entry_by (λ answer. Some (steps.JobEnded, (install_ruling l h job made).layout))
    (steps.JobEnded, job_ended made l) session outcome

abbrev pub abandon_entry : Made → ℕ → Layout → History → Outcome (Unit {0}) → Option LockEntry
abandon_entry made = always (λ l. (steps.JobEnded, job_ended made l))

-- ---- passes

abbrev pub pick_done : Layout → PickAnswer → Done
pick_done next (pick.Picked pass) = Some (steps.Picked, next)
pick_done next pick.InvalidRequest = None
pick_done next (pick.Rejected segment) = None
pick_done next pick.NoRewrite = None

abbrev pub pick_entry : ℕ → ℕ → Layout → History → Outcome PickAnswer → Option LockEntry
pick_entry percent session l h outcome =
    entry_by (pick_done (pick_ruling l h percent).layout) (steps.Changed, l) session outcome

abbrev pub end_pass_entry : ℕ → Layout → History → Outcome (Unit {0}) → Option LockEntry
end_pass_entry = always (λ l. (steps.PassEnded, without_pass l))

-- where nothing was left to be moved, nothing was changed
abbrev pub move_done : Layout → MoveAnswer → Done
move_done next (relocate.Moves zero) = None
move_done next (relocate.Moves (suc n)) = Some (steps.Changed, next)
move_done next (relocate.Halted name) = None
move_done next (relocate.Exhausted counter) = None
move_done next (relocate.Full length frame) = None

abbrev pub relocate_entry : Pass → List Candidate → ℕ → Layout → History → Outcome MoveAnswer → Option LockEntry
relocate_entry pass batch session l h outcome =
    entry_by (move_done (relocate_ruling l h pass batch).layout) (steps.Changed, l) session outcome

-- ---- sweeps

-- where nothing went, nothing was changed
abbrev pub sweep_done : Layout → SweepAnswer → Done
sweep_done next (sweep.Removed zero) = None
sweep_done next (sweep.Removed (suc n)) = Some (steps.Changed, next)
sweep_done next (sweep.Halted name) = None

-- where the disk fails, so many of the files have gone
abbrev pub sweep_entry : (gone : ℕ) → ℕ → Layout → History → Outcome SweepAnswer → Option LockEntry
sweep_entry gone session l h outcome =
    entry_by (sweep_done (sweep_ruling l h).layout) (steps.Changed, sweep_lost None l gone) session outcome
