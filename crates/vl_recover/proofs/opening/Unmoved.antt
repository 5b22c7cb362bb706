-- Calls that change nothing, one behind the other.
use Rattle.std.proofs.Common.{◌≡◌, ℕ, refl, sym, ◌∙◌, subst, arith}
use Rattle.std.specs.Prelude.{false, true, Result, Ok, Err, IsErr, IsErrAnd}
use Rattle.std.specs.Option.{ForSome}
use Rattle.vl_disk.specs.declared.watched.Watched.{Ghosts}
use Rattle.vl_disk.specs.Calls.{ChangesNothing}
use Rattle.vl_disk.specs.Crash.{Unchanged}
use Rattle.vl_disk.specs.DiskState.{DiskState}
use Rattle.vl_disk.specs.Faults.{HasCounted, NoneCounted, Rose}
use Rattle.vl_disk.specs.Moments.{While, passes_none, passes_then, past_of}
use Rattle.vl_recover.specs.declared.fails.OpenError.{OpenError}
use Rattle.vl_recover.specs.opening.Answers.{Faulted, NoMemory, Recovered, Recovery, Refused, UsedUp}
use Rattle.vl_recover.specs.opening.Finding.{FailsAtDisk}
use Rattle.vl_recover.specs.opening.Results.{HasFailed, IsDiskFault, recovery_by}

false_true : false ≡ true → ⊥
false_true e = cc

-- where the reader has counted none, a fault is the disk's
at_disk : (faults : ℕ) → NoneCounted faults → (r : Recovery) → HasFailed r → IsDiskFault faults r
at_disk faults none (Recovered opened) failed = failed
at_disk faults none (Refused why) failed = failed
at_disk faults none (UsedUp counter) failed = failed
at_disk faults none NoMemory failed = failed
at_disk faults none (Faulted name) failed = none

of_disk : (faults : ℕ) (r : Recovery) → IsDiskFault faults r → HasFailed r
of_disk faults (Recovered opened) failed = failed
of_disk faults (Refused why) failed = failed
of_disk faults (UsedUp counter) failed = failed
of_disk faults NoMemory failed = failed
of_disk faults (Faulted name) failed = tt

-- where the reader has counted some, a fault isn't the disk's
pub reader_failed : (faults : ℕ) (r : Recovery) → HasCounted faults → IsDiskFault faults r → ⊥
reader_failed faults (Recovered opened) some failed = failed
reader_failed faults (Refused why) some failed = failed
reader_failed faults (UsedUp counter) some failed = failed
reader_failed faults NoMemory some failed = failed
reader_failed faults (Faulted name) some failed = failed.none some

module _ {D : Type 0} (g : Ghosts D) where
  pub no_call : (disk : D) → ChangesNothing g disk disk ⊥
  no_call disk = record {
    told = refl;
    calls = refl;
    time = passes_none (past_of g disk) (While (g.told disk) Unchanged);
    cause = record { later = omega arith; rose = λ none. absurd none; steady = λ _. refl };
  }

  pub then_call : (a b c : D) (failed : Type 0) → ChangesNothing g a b ⊥ → ChangesNothing g b c failed → ChangesNothing g a c failed
  then_call a b c failed first second = record {
    told = second.told ∙ first.told;
    calls = second.calls ∙ first.calls;
    time = passes_then (past_of g a) (past_of g b) (past_of g c)
        (While (g.told a) Unchanged) (While (g.told b) Unchanged) (While (g.told a) Unchanged) first.time second.time
        (λ state now. now)
        (λ state now disk is. now disk (first.told ∙ is));
    cause = let steady : g.faults b ≡ g.faults a = first.cause.steady (λ e. e) in record {
      later = let later = second.cause.later in omega (arith, later, steady);
      rose = λ e. subst (λ (n : ℕ). Rose n (g.faults c)) steady (second.cause.rose e);
      steady = λ none. second.cause.steady none ∙ steady;
    };
  }

  -- the same, said of another failure that wasn't either
  pub call_as : (a b : D) (failed other : Type 0) → (failed → ⊥) → (other → ⊥) → ChangesNothing g a b failed → ChangesNothing g a b other
  call_as a b failed other fine none call = record {
    told = call.told;
    calls = call.calls;
    time = call.time;
    cause = record { later = call.cause.later; rose = λ e. absurd (none e); steady = λ _. call.cause.steady fine };
  }

  -- the same, said of a failure that was the other
  pub call_with : (a b : D) (failed other : Type 0) → (failed → other) → (other → failed) → ChangesNothing g a b failed
      → ChangesNothing g a b other
  call_with a b failed other to back call = record {
    told = call.told;
    calls = call.calls;
    time = call.time;
    cause = record {
      later = call.cause.later;
      rose = λ e. call.cause.rose (back e);
      steady = λ none. call.cause.steady (λ e. none (to e));
    };
  }

  -- a fault is the disk's own, where the reader has counted none
  pub as_disk_fault : (a b : D) (faults : ℕ) (e : OpenError) → NoneCounted faults → ChangesNothing g a b (HasFailed (recovery_by e))
      → ChangesNothing g a b (IsDiskFault faults (recovery_by e))
  as_disk_fault a b faults e none call = call_with a b (HasFailed (recovery_by e)) (IsDiskFault faults (recovery_by e))
      (at_disk faults none (recovery_by e)) (of_disk faults (recovery_by e)) call

  -- an answer that is no fault is handed on
  pub calm_handed : {B : Type 0} (a b : D) (faults : ℕ) (e : OpenError) (result : Result B OpenError) → IsErr result
      → IsErrAnd result (λ f. f ≡ e)
      → (HasFailed (recovery_by e) → ⊥) → ChangesNothing g a b ⊥ → ChangesNothing g a b (FailsAtDisk faults result)
  calm_handed a b faults e (Ok x) failed same calm call = absurd (false_true failed)
  calm_handed a b faults e (Err f) failed same calm call =
      subst (λ (x : OpenError). ChangesNothing g a b (IsDiskFault faults (recovery_by x))) (sym same)
      (call_as a b ⊥ (IsDiskFault faults (recovery_by e)) (λ x. x) (λ fault. calm (of_disk faults (recovery_by e) fault)) call)

  -- what holds of a disk that is told holds behind calls that change nothing
  pub still : (a b : D) (failed : Type 0) (P : DiskState → Type 0) → ChangesNothing g a b failed → ForSome (g.told a) P
      → ForSome (g.told b) P
  still a b failed P none holds disk is = holds disk (sym none.told ∙ is)
