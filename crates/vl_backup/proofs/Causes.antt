-- Why a count of faults rose or stayed through calls, one after the other, and what of a refusal is known by what it was.
use Rattle.std.specs.Prelude.{◌≡◌, ℕ, Option, Err, ⊤}
use Rattle.std.proofs.Common.{sym, subst, arith}
use Rattle.vl_backup.specs.Fails.{begin_fail, step_fail}
use Rattle.vl_backup.specs.Loading.{IsOfBatch, LoadFailed, commit_fail}
use Rattle.vl_backup.specs.declared.fails.LoadFail.{LoadFail}
use Rattle.vl_disk.specs.Faults.{HasCause}
use Rattle.vl_oracle.specs.declared.begin_fail.BeginFail.{BeginFail}
use Rattle.vl_oracle.specs.declared.begin_fail.BeginFail.TheVariants as begins
use Rattle.vl_reads.specs.declared.txn.Txn.{Txn}
use Rattle.vl_steps.specs.Answers.{CommitFailed}
use Rattle.vl_steps.specs.Stepping.{StepFailed}
use Rattle.vl_steps.specs.declared.fails.CommitFail.{CommitFail}
use Rattle.vl_steps.specs.declared.fails.CommitFail.TheVariants as commits
use Rattle.vl_steps.specs.declared.fails.StepFail.{StepFail}
use Rattle.vl_steps.specs.declared.fails.StepFail.TheVariants as steps

-- ---- counts

-- behind calls that raised none
pub cause_behind : (a b c : ℕ) (P : Type 0) → b ≡ a → HasCause b c P → HasCause a c P
cause_behind a b c P same cause = subst (λ (n : ℕ). HasCause n c P) same cause

-- before calls that raised none
pub cause_before : (a b c : ℕ) (P : Type 0) → c ≡ b → HasCause a b P → HasCause a c P
cause_before a b c P same cause = subst (λ (n : ℕ). HasCause a n P) (sym same) cause

pub no_cause : (a b : ℕ) (P : Type 0) → b ≡ a → (P → ⊥) → HasCause a b P
no_cause a b P same never = record { later = omega arith; rose = λ p. absurd (never p); steady = λ _. same }

-- the same failure, said otherwise
pub cause_as : (a b : ℕ) (P Q : Type 0) → (P → Q) → (Q → P) → HasCause a b P → HasCause a b Q
cause_as a b P Q to from cause = record {
  later = cause.later;
  rose = λ q. cause.rose (from q);
  steady = λ none. cause.steady (λ p. none (to p));
}

-- ---- refusals of a batch

module _ (a b : ℕ) where
  abbrev Caused : LoadFail → Type 0
  Caused why = HasCause a b (LoadFailed {T = ⊤} (Err why))

  commit_cause : {H R : Type 0} (why : CommitFail H R) → HasCause a b (CommitFailed {H = H} {R = R} (Err why))
      → Caused (commit_fail why)
  commit_cause (commits.Halted name) cause = cause
  commit_cause (commits.Exhausted txn) cause = cause
  commit_cause (commits.Conflict key number) cause = cause
  commit_cause (commits.Full txn long frame) cause = cause
  commit_cause (commits.NoMemory txn) cause = cause
  commit_cause (commits.Disk name) cause = cause

  pub commit_caused : {H R : Type 0} (why : CommitFail H R) (said : LoadFail) → said ≡ commit_fail why
      → HasCause a b (CommitFailed {H = H} {R = R} (Err why)) → Caused said
  commit_caused why said is cause = subst Caused (sym is) (commit_cause why cause)

  step_cause : (why : StepFail) → HasCause a b (StepFailed {T = Option ℕ} (Err why)) → Caused (step_fail why)
  step_cause (steps.Halted name) cause = cause
  step_cause (steps.Exhausted counter) cause = cause
  step_cause steps.NoMemory cause = cause
  step_cause (steps.Disk name) cause = cause

  pub step_caused : (why : StepFail) (said : LoadFail) → said ≡ step_fail why
      → HasCause a b (StepFailed {T = Option ℕ} (Err why))
      → Caused said
  step_caused why said is cause = subst Caused (sym is) (step_cause why cause)

commit_of : {H R : Type 0} (why : CommitFail H R) → IsOfBatch (Err (commit_fail why))
commit_of (commits.Halted name) = tt
commit_of (commits.Exhausted txn) = tt
commit_of (commits.Conflict key number) = tt
commit_of (commits.Full txn long frame) = tt
commit_of (commits.NoMemory txn) = tt
commit_of (commits.Disk name) = tt

-- a refused commit is of the batch
pub commit_of_batch : {H R : Type 0} (why : CommitFail H R) (said : LoadFail) → said ≡ commit_fail why → IsOfBatch (Err said)
commit_of_batch why said is = subst (λ (w : LoadFail). IsOfBatch (Err w)) (sym is) (commit_of why)

step_of : (why : StepFail) → IsOfBatch (Err (step_fail why))
step_of (steps.Halted name) = tt
step_of (steps.Exhausted counter) = tt
step_of steps.NoMemory = tt
step_of (steps.Disk name) = tt

pub step_of_batch : (why : StepFail) (said : LoadFail) → said ≡ step_fail why → IsOfBatch (Err said)
step_of_batch why said is = subst (λ (w : LoadFail). IsOfBatch (Err w)) (sym is) (step_of why)

begin_of : (why : BeginFail) → IsOfBatch (Err (begin_fail why))
begin_of begins.TooMany = tt
begin_of begins.NoMemory = tt

pub begin_of_batch : (why : BeginFail) (said : LoadFail) → said ≡ begin_fail why → IsOfBatch (Err said)
begin_of_batch why said is = subst (λ (w : LoadFail). IsOfBatch (Err w)) (sym is) (begin_of why)

begin_free : (why : BeginFail) → LoadFailed {T = ⊤} (Err (begin_fail why)) → ⊥
begin_free begins.TooMany failed = failed
begin_free begins.NoMemory failed = failed

pub begin_never : (why : BeginFail) (said : LoadFail) → said ≡ begin_fail why → LoadFailed {T = ⊤} (Err said) → ⊥
begin_never why said is = subst (λ (w : LoadFail). LoadFailed {T = ⊤} (Err w) → ⊥) (sym is) (begin_free why)

-- a log without room is no fault
pub full_unfailed : {H R : Type 0} (why : CommitFail H R) (txn : Txn H R) (long frame : ℕ) → why ≡ commits.Full txn long frame
    → CommitFailed {H = H} {R = R} (Err why) → ⊥
full_unfailed {H} {R} why txn long frame is =
    subst (λ (w : CommitFail H R). CommitFailed {H = H} {R = R} (Err w) → ⊥) (sym is) (λ failed. failed)
