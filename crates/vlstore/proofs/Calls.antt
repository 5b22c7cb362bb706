-- An engine that stood for the steps under the lock stands for them and a call's own.
use Rattle.std.proofs.Common.{◌≡◌, ℕ, List, refl}
use Rattle.std.specs.Prelude.{Bool, true, Option, None, Some}
use Rattle.vl_engine_model.specs.Decides.{Answered, Damaged, Decides, Effects, Failed, NoMemory, Otherwise, Outcome}
use Rattle.vl_engine_model.specs.Ruling.{Exhausted, Halted, Idle, Ruling, StepAnswer, Stepped}
use Rattle.vl_engine_model.specs.Rulings.Begin as begin
use Rattle.vl_engine_model.specs.Rulings.Begin.{BeginAnswer, Begun}
use Rattle.vl_engine_model.specs.Rulings.Commit as commit
use Rattle.vl_engine_model.specs.Rulings.Commit.{CommitAnswer}
use Rattle.vl_model.specs.History.{History}
use Rattle.vl_model.specs.declared.change.Change.{Change}
use Rattle.vl_engine_model.specs.declared.file_name.FileName.{FileName}
use Rattle.vl_engine_model.specs.declared.layout.Layout.{Layout}
use Rattle.vl_engine_model.specs.declared.lock_history.LockEntry.{LockEntry}
use Rattle.vl_engine_model.specs.declared.lock_history.LockStep.{LockStep}
use Rattle.vlstore.specs.Entries.{Done, begin_done, commit_done, done_by, entry_of, step_done}
use Rattle.vlstore.specs.Lists.{history_by, layout_by}
use Rattle.vlstore.specs.Merges.{MergesBy, lent_in}
use Rattle.vlstore.specs.Standing.{IsBehind, IsWhole, Parts, Stands}
use Rattle.vlstore.specs.declared.locked.Origin.{Origin}
use Rattle.vlstore.proofs.Leading.{LeadsBy, goes_by}
use Rattle.vlstore.proofs.Lending.{IsOther, LeaveMerge}
use Rattle.vl_turn.specs.Entries.{with_entry}

module _ {H L A : Type 0} (bytes : H → Option (List ℕ)) (sure : Type 0) (o : Origin) (tells : Bool) (list : List LockEntry)
    (x y : Parts H L)
    (entry : Outcome A → Option LockEntry) (outcome : Outcome A) (ruling : Ruling A) (otherwise : Otherwise) (effects : Effects) where
  pub stands_on : Stands bytes sure o tells list x → MergesBy o (with_entry list (entry outcome)) y.merging
      → (tells ≡ true → (is : IsBehind bytes sure o list x) → LeadsBy bytes o list ruling otherwise entry)
      → (sure → (name : FileName) → outcome ≡ Failed name → ⊥)
      → (tells ≡ true → IsBehind bytes sure o list x → Decides (IsWhole bytes y) (history_by o list) (layout_by o list) ruling
      otherwise outcome effects)
      → Stands bytes sure o tells (with_entry list (entry outcome)) y
  stands_on is merges leads cause decides = record {
    merges = merges;
    behind = λ told.
        let behind = is.behind told in
        goes_by bytes o list ruling otherwise entry x y outcome effects behind (leads told behind) cause (decides told behind);
  }

-- ---- what leaves the open merge

abbrev pub LeavesDone : Layout → Done → Type 0
LeavesDone l None = Unit {0}
LeavesDone l (Some done) = IsOther done.0 × (lent_in done.1 ≡ lent_in l)

pub leaves_merge : (l : Layout) (session : ℕ) (done : Done) → LeavesDone l done → LeaveMerge l (entry_of session done)
leaves_merge l session None leaves = tt
leaves_merge l session (Some done) leaves = record { other = leaves.0; lent = leaves.1 }

pub leaves_by : {A : Type 0} (l : Layout) (answered : A → Done) (failed : LockStep × Layout) (outcome : Outcome A)
    → ((a : A) → LeavesDone l (answered a)) → LeavesDone l (Some failed) → LeavesDone l (done_by answered failed outcome)
leaves_by l answered failed (Answered a) leaves lost = leaves a
leaves_by l answered failed NoMemory leaves lost = tt
leaves_by l answered failed (Failed name) leaves lost = lost
leaves_by l answered failed (Damaged name place) leaves lost = tt

pub step_leaves : (l next : Layout) → lent_in next ≡ lent_in l → (a : StepAnswer) → LeavesDone l (step_done next a)
step_leaves l next lent (Stepped number) = (tt, lent)
step_leaves l next lent Idle = tt
step_leaves l next lent (Halted name) = tt
step_leaves l next lent (Exhausted counter) = tt

pub begin_leaves : (l : Layout) (a : BeginAnswer) → LeavesDone l (begin_done l a)
begin_leaves l (Begun ticket number) = (tt, refl)
begin_leaves l begin.TooMany = tt

pub commit_leaves : (ticket : ℕ) (writes : List (List ℕ × Change)) (l : Layout) (h : History) (a : CommitAnswer)
    → LeavesDone l (commit_done ticket writes l h a)
commit_leaves ticket writes l h (commit.At number) = (tt, refl)
commit_leaves ticket writes l h commit.Nothing = (tt, refl)
commit_leaves ticket writes l h (commit.Halted name) = (tt, refl)
commit_leaves ticket writes l h (commit.Exhausted counter) = tt
commit_leaves ticket writes l h (commit.Conflict key number) = (tt, refl)
commit_leaves ticket writes l h (commit.Full length frame) = tt
