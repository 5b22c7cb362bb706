-- Calls that change nothing, of which the last one failed, and what it answered is handed on.
use Rattle.std.proofs.Common.{◌≡◌, ℕ, subst, sym}
use Rattle.std.specs.Prelude.{false, true, Result, Ok, Err, IsErr, IsErrAnd}
use Rattle.vl_disk.specs.Calls.{ChangesNothing}
use Rattle.vl_disk.specs.declared.watched.Watched.{Ghosts}
use Rattle.vl_recover.specs.declared.fails.OpenError.{OpenError}
use Rattle.vl_recover.specs.opening.Finding.{FailsAtDisk, IsFault}
use Rattle.vl_recover.specs.opening.Results.{HasFailed, IsDiskFault, recovery_by}
use Rattle.vl_recover.proofs.opening.Unmoved.{call_as, then_call}

false_true : false ≡ true → ⊥
false_true e = cc

-- a fault is handed on
pub fault_answered : {B : Type 0} (e : OpenError) (result : Result B OpenError) → IsErr result → IsErrAnd result (λ f. f ≡ e)
    → HasFailed (recovery_by e) → IsFault result
fault_answered e (Ok x) failed same fault = absurd (false_true failed)
fault_answered e (Err f) failed same fault = subst (λ (x : OpenError). HasFailed (recovery_by x)) (sym same) fault

module _ {D : Type 0} (g : Ghosts D) (a b c : D) (before : ChangesNothing g a b ⊥) where
  -- a fault of the disk alone,
  pub fault_handed : {B : Type 0} (e : OpenError) (result : Result B OpenError) → IsErr result → IsErrAnd result (λ f. f ≡ e)
      → ChangesNothing g b c (HasFailed (recovery_by e)) → ChangesNothing g a c (IsFault result)
  fault_handed e (Ok x) failed same call = absurd (false_true failed)
  fault_handed e (Err f) failed same call =
      then_call g a b c (HasFailed (recovery_by f)) before
      (subst (λ (x : OpenError). ChangesNothing g b c (HasFailed (recovery_by x))) (sym same) call)

  -- or beside a reader that has counted so many,
  pub disk_fault_handed : {B : Type 0} (n : ℕ) (e : OpenError) (result : Result B OpenError) → IsErr result → IsErrAnd result (λ f. f ≡ e)
      → ChangesNothing g b c (IsDiskFault n (recovery_by e)) → ChangesNothing g a c (FailsAtDisk n result)
  disk_fault_handed n e (Ok x) failed same call = absurd (false_true failed)
  disk_fault_handed n e (Err f) failed same call =
      then_call g a b c (IsDiskFault n (recovery_by f)) before
      (subst (λ (x : OpenError). ChangesNothing g b c (IsDiskFault n (recovery_by x))) (sym same) call)

  -- and an answer that is no fault of the disk
  pub no_fault_handed : (failed : Type 0) → (failed → ⊥) → ChangesNothing g b c ⊥ → ChangesNothing g a c failed
  no_fault_handed failed none call = then_call g a b c failed before (call_as g b c ⊥ failed (λ e. e) none call)
