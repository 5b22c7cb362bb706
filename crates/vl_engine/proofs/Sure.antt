-- What a merge answers where no reader and no writer of it fails: a fault is the disk's, which counted it.
use Rattle.std.specs.Prelude.{◌≡◌, ℕ, Result, Ok, Err, IsErrAnd}
use Rattle.std.proofs.Common.{subst}
use Rattle.vl_disk.specs.Faults.{HasCause, Rose}
use Rattle.vl_disk.specs.declared.name.Name.{Name}
use Rattle.vl_disk.specs.declared.read_fault.ReadFault.TheVariants as read
use Rattle.vl_disk.specs.declared.read_fault.ReadFault.{ReadFault}
use Rattle.vl_engine.specs.Refusals.{of_install, of_read, of_step}
use Rattle.vl_engine.specs.declared.fails.MergeFail.TheVariants as merge
use Rattle.vl_engine.specs.declared.fails.MergeFail.{MergeFail}
use Rattle.vl_steps.specs.Installing.{InstallFailed}
use Rattle.vl_steps.specs.Stepping.{StepFailed}
use Rattle.vl_steps.specs.declared.fails.InstallFail.TheVariants as install
use Rattle.vl_steps.specs.declared.fails.InstallFail.{InstallFail}
use Rattle.vl_steps.specs.declared.fails.StepFail.TheVariants as step
use Rattle.vl_steps.specs.declared.fails.StepFail.{StepFail}

pub not_memory : {T : Type 0} (result : Result T MergeFail) (name : Name) → IsErrAnd result (λ e. e ≡ merge.NoMemory)
    → result ≡ Err (merge.Disk name) → ⊥
not_memory (Ok done) name is at = absurd is
not_memory (Err e) name is at = cc

pub at_read : {T : Type 0} (fault : ReadFault) (result : Result T MergeFail) (name : Name) → IsErrAnd result (λ e. e ≡ of_read fault)
    → result ≡ Err (merge.Disk name) → fault ≡ read.Disk name
at_read fault (Ok done) name is at = absurd is
at_read read.NoMemory (Err e) name is at = absurd cc
at_read (read.Disk other) (Err e) name is at = cc
at_read (read.Damaged other place) (Err e) name is at = absurd cc

-- the next table's file wasn't made
pub at_step : {T : Type 0} (A : Type 0) (before mid now : ℕ) (why : StepFail) (result : Result T MergeFail) (name : Name)
    → mid ≡ before → HasCause mid now (StepFailed {T = A} (Err why)) → IsErrAnd result (λ e. e ≡ of_step why) → result ≡ Err (merge.Disk name)
    → Rose before now
at_step A before mid now why (Ok done) name same cause is at = absurd is
at_step A before mid now (step.Halted other) (Err e) name same cause is at = absurd cc
at_step A before mid now (step.Exhausted counter) (Err e) name same cause is at = absurd cc
at_step A before mid now step.NoMemory (Err e) name same cause is at = absurd cc
at_step A before mid now (step.Disk other) (Err e) name same cause is at = subst (λ (n : ℕ). Rose n now) same (cause.rose tt)

-- the tables weren't put in
pub at_install : {V H W : Type 0} {s : _} (before mid now : ℕ) (why : InstallFail V H W s) (fail : MergeFail) (name : Name)
    → mid ≡ before → HasCause mid now (InstallFailed (Err why)) → fail ≡ of_install why → fail ≡ merge.Disk name → Rose before now
at_install before mid now (install.Halted other) fail name same cause is at = absurd cc
at_install before mid now (install.Raced key number) fail name same cause is at = absurd cc
at_install before mid now (install.Exhausted counter) fail name same cause is at = absurd cc
at_install before mid now (install.NoMemory job) fail name same cause is at = absurd cc
at_install before mid now (install.Disk other) fail name same cause is at = subst (λ (n : ℕ). Rose n now) same (cause.rose tt)

pub err_same : {T : Type 0} (result : Result T MergeFail) (a b : MergeFail) → result ≡ Err a → result ≡ Err b → a ≡ b
err_same result a b is at = cc
