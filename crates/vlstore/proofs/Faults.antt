-- A call fails only where a fault was counted, which none is over disks that never fail.
use Rattle.std.proofs.Common.{◌≡◌, ℕ, subst, arith}
use Rattle.std.specs.Prelude.{Option, None, Some, Result, Ok, Err, ◌≤◌}
use Rattle.vl_model.specs.Cursors.{HasRisen}
use Rattle.vl_disk.specs.laws.Counting.{none_rose}
use Rattle.vl_compact.specs.declared.files.Lent.{Lent}
use Rattle.vl_disk.specs.Faults.{HasCause, Rose}
use Rattle.vl_steps.specs.Answers.{CommitFailed, begin_outcome, commit_outcome, view_outcome}
use Rattle.vl_space.specs.Collecting.{pick_outcome}
use Rattle.vl_steps.specs.Installing.{InstallFailed}
use Rattle.vl_steps.specs.Merging.{fresh_outcome, install_outcome, plan_outcome}
use Rattle.vl_steps.specs.Relocating.{MoveCounts, move_outcome}
use Rattle.vl_steps.specs.Stepping.{StepFailed, step_outcome}
use Rattle.vl_space.specs.Sweeping.{SweepFailed, sweep_outcome}
use Rattle.vl_steps.specs.declared.done.Done.{Done}
use Rattle.vl_steps.specs.declared.done.Done.TheVariants as done
use Rattle.vl_steps.specs.declared.fails.CommitFail.{CommitFail}
use Rattle.vl_steps.specs.declared.fails.CommitFail.TheVariants as commit
use Rattle.vl_steps.specs.declared.fails.InstallFail.{InstallFail}
use Rattle.vl_steps.specs.declared.fails.InstallFail.TheVariants as install
use Rattle.vl_steps.specs.declared.fails.MoveFail.{MoveFail}
use Rattle.vl_steps.specs.declared.fails.MoveFail.TheVariants as move
use Rattle.vl_space.specs.declared.fails.PickFail.{PickFail}
use Rattle.vl_space.specs.declared.fails.PickFail.TheVariants as pick
use Rattle.vl_steps.specs.declared.fails.StepFail.{StepFail}
use Rattle.vl_steps.specs.declared.fails.StepFail.TheVariants as step
use Rattle.vl_space.specs.declared.fails.SweepFail.{SweepFail}
use Rattle.vl_space.specs.declared.fails.SweepFail.TheVariants as sweep
use Rattle.vl_reads.specs.declared.txn.Txn.{Txn}
use Rattle.vl_reads.specs.declared.view.View.{View}
use Rattle.vl_engine_model.specs.Decides.{Answered, Damaged, Failed, NoMemory, Outcome}
use Rattle.vl_engine_model.specs.Rulings.Pick.{PickAnswer}
use Rattle.vl_engine_model.specs.declared.file_name.FileName.{FileName}
use Rattle.vl_engine_model.specs.declared.job.Job.{Job}
use Rattle.vl_oracle.specs.declared.begin_fail.BeginFail.{BeginFail}
use Rattle.vl_oracle.specs.declared.begin_fail.BeginFail.TheVariants as begin
use Rattle.vlstore.specs.Counting.{IsMoveCounted}
use Rattle.vlstore.specs.Standing.{NeverFails}

-- no call failed
abbrev pub Unfailing : {A : Type 0} → Outcome A → Type 0
Unfailing outcome = (name : FileName) → outcome ≡ Failed name → ⊥

abbrev pub IsNoFault : {A : Type 0} → Outcome A → Type 0
IsNoFault (Answered a) = Unit {0}
IsNoFault NoMemory = Unit {0}
IsNoFault (Failed name) = ⊥
IsNoFault (Damaged name place) = Unit {0}

pub no_fault : {A P : Type 0} {outcome : Outcome A} {name : FileName} → outcome ≡ Failed name → IsNoFault outcome → P
no_fault at is = absurd (subst IsNoFault at is)

-- ---- counts of what never fails

-- what cursors and sources have it is the same
risen : {before now : ℕ} → HasRisen before now → Rose before now
risen rose = record { later = rose.later; more = rose.rose; counts = rose.counts }

module _ {D R W : Type 0} (faults : D → ℕ) (read_faults : R → ℕ) (write_faults : W → ℕ) where
  pub unfailing : {A : Type 0} {fails : Type 0} (old new : D) (outcome : Outcome A) → HasCause (faults old) (faults new) fails
      → ((name : FileName) → outcome ≡ Failed name → fails) → NeverFails faults read_faults write_faults → Unfailing outcome
  unfailing old new outcome cause is_failure surely name at =
      none_rose (faults old) (faults new) (surely.disks new) (cause.rose (is_failure name at))

  pub move_unfailing : (old new : D) (looks looks_now : R) (log : ℕ) (r : Result ℕ MoveFail)
      → MoveCounts log (faults old) (faults new) (read_faults looks) (read_faults looks_now) r → NeverFails faults read_faults write_faults
      → Unfailing (move_outcome r)
  move_unfailing old new looks looks_now log (Ok count) counts surely name at = no_fault at tt
  move_unfailing old new looks looks_now log (Err (move.Halted file)) counts surely name at = no_fault at tt
  move_unfailing old new looks looks_now log (Err (move.Exhausted batch counter)) counts surely name at = no_fault at tt
  move_unfailing old new looks looks_now log (Err (move.Full batch length frame)) counts surely name at = no_fault at tt
  move_unfailing old new looks looks_now log (Err (move.NoMemory batch)) counts surely name at = no_fault at tt
  move_unfailing old new looks looks_now log (Err (move.Read file)) counts surely name at =
      none_rose (read_faults looks) (read_faults looks_now) (surely.readers looks_now) (risen counts.looks_rose)
  move_unfailing old new looks looks_now log (Err (move.Disk file)) counts surely name at =
      none_rose (faults old) (faults new) (surely.disks new) counts.disk_rose
  move_unfailing old new looks looks_now log (Err (move.Damaged batch file place)) counts surely name at = no_fault at tt

-- ---- what was counted

module _ {D R : Type 0} (faults : D → ℕ) (read_faults : R → ℕ) where
  pub move_counted : (old new : D) (looks looks_now : R) (log : ℕ) (r : Result ℕ MoveFail)
      → MoveCounts log (faults old) (faults new) (read_faults looks) (read_faults looks_now) r → IsMoveCounted faults read_faults r
  move_counted old new looks looks_now log (Ok count) counts = tt
  move_counted old new looks looks_now log (Err (move.Halted file)) counts = tt
  move_counted old new looks looks_now log (Err (move.Exhausted batch counter)) counts = tt
  move_counted old new looks looks_now log (Err (move.Full batch length frame)) counts = tt
  move_counted old new looks looks_now log (Err (move.NoMemory batch)) counts = tt
  move_counted old new looks looks_now log (Err (move.Read file)) counts =
      record { before = looks; after = looks_now; rose = risen counts.looks_rose }
  move_counted old new looks looks_now log (Err (move.Disk file)) counts =
      record { before = old; after = new; rose = counts.disk_rose }
  move_counted old new looks looks_now log (Err (move.Damaged batch file place)) counts = tt

-- ---- what a failure is

pub commit_fails : {H R : Type 0} (r : Result Done (CommitFail H R)) (name : FileName) → commit_outcome r ≡ Failed name → CommitFailed r
commit_fails (Ok (done.At number)) name at = no_fault at tt
commit_fails (Ok done.Nothing) name at = no_fault at tt
commit_fails (Err (commit.Halted file)) name at = no_fault at tt
commit_fails (Err (commit.Exhausted txn)) name at = no_fault at tt
commit_fails (Err (commit.Conflict key number)) name at = no_fault at tt
commit_fails (Err (commit.Full txn length frame)) name at = no_fault at tt
commit_fails (Err (commit.NoMemory txn)) name at = no_fault at tt
commit_fails (Err (commit.Disk file)) name at = tt

pub step_fails : (r : Result (Option ℕ) StepFail) (name : FileName) → step_outcome r ≡ Failed name → StepFailed r
step_fails (Ok (Some number)) name at = no_fault at tt
step_fails (Ok None) name at = no_fault at tt
step_fails (Err (step.Halted file)) name at = no_fault at tt
step_fails (Err (step.Exhausted counter)) name at = no_fault at tt
step_fails (Err step.NoMemory) name at = no_fault at tt
step_fails (Err (step.Disk file)) name at = tt

pub fresh_fails : {W : Type 0} {k : _} (r : Result (Lent W k) StepFail) (name : FileName) → fresh_outcome r ≡ Failed name → StepFailed r
fresh_fails (Ok file) name at = no_fault at tt
fresh_fails (Err (step.Halted file)) name at = no_fault at tt
fresh_fails (Err (step.Exhausted counter)) name at = no_fault at tt
fresh_fails (Err step.NoMemory) name at = no_fault at tt
fresh_fails (Err (step.Disk file)) name at = tt

pub install_fails : {V H W : Type 0} {k : _} (r : Result (Unit {0}) (InstallFail V H W k)) (name : FileName)
    → install_outcome r ≡ Failed name → InstallFailed r
install_fails (Ok done) name at = no_fault at tt
install_fails (Err (install.Halted file)) name at = no_fault at tt
install_fails (Err (install.Raced key number)) name at = no_fault at tt
install_fails (Err (install.Exhausted counter)) name at = no_fault at tt
install_fails (Err (install.NoMemory job)) name at = no_fault at tt
install_fails (Err (install.Disk file)) name at = tt

pub sweep_fails : (r : Result ℕ SweepFail) (name : FileName) → sweep_outcome r ≡ Failed name → SweepFailed r
sweep_fails (Ok count) name at = no_fault at tt
sweep_fails (Err (sweep.Halted file)) name at = no_fault at tt
sweep_fails (Err (sweep.Disk file)) name at = tt

-- ---- calls that ask no file

pub always_answers : Unfailing {A = Unit {0}} (Answered tt)
always_answers name at = no_fault at tt

pub begin_answers : {H R : Type 0} (r : Result (Txn H R) BeginFail) → Unfailing (begin_outcome r)
begin_answers (Ok txn) name at = no_fault at tt
begin_answers (Err begin.TooMany) name at = no_fault at tt
begin_answers (Err begin.NoMemory) name at = no_fault at tt

pub view_answers : {H R : Type 0} (r : Result (View H R) BeginFail) → Unfailing (view_outcome r)
view_answers (Ok view) name at = no_fault at tt
view_answers (Err begin.TooMany) name at = no_fault at tt
view_answers (Err begin.NoMemory) name at = no_fault at tt

pub plan_answers : {J E : Type 0} (planned : Option Job) (r : Result (Option J) E) → Unfailing (plan_outcome planned r)
plan_answers planned (Ok (Some job)) name at = no_fault at tt
plan_answers planned (Ok None) name at = no_fault at tt
plan_answers planned (Err why) name at = no_fault at tt

pub pick_answers : {P : Type 0} (picked : PickAnswer) (r : Result P PickFail) → Unfailing (pick_outcome picked r)
pick_answers picked (Ok pass) name at = no_fault at tt
pick_answers picked (Err pick.InvalidRequest) name at = no_fault at tt
pick_answers picked (Err (pick.Rejected segment)) name at = no_fault at tt
pick_answers picked (Err pick.NoRewrite) name at = no_fault at tt
pick_answers picked (Err pick.NoMemory) name at = no_fault at tt
