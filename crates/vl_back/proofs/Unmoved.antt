-- Calls that change nothing, one behind the other.
use Rattle.std.proofs.Common.{◌≡◌, ℕ, refl, ◌∙◌, subst, arith}
use Rattle.vl_disk.specs.Calls.{ChangesNothing}
use Rattle.vl_disk.specs.Crash.{Unchanged}
use Rattle.vl_disk.specs.Faults.{Rose}
use Rattle.vl_disk.specs.Moments.{While, passes_none, passes_then, past_of}
use Rattle.vl_disk.specs.declared.watched.Watched.{Ghosts}

module _ {D : Type 0} (g : Ghosts D) where
  pub no_call : (disk : D) → ChangesNothing g disk disk ⊥
  no_call disk = record {
    told = refl;
    calls = refl;
    time = passes_none (past_of g disk) (While (g.told disk) Unchanged);
    cause = record { later = omega arith; rose = λ none. absurd none; steady = λ _. refl };
  }

  pub then_call : (a b c : D) (failed : Type 0) → ChangesNothing g a b ⊥ → ChangesNothing g b c failed → ChangesNothing g a c failed
  then_call a b c failed first second = record {
    told = second.told ∙ first.told;
    calls = second.calls ∙ first.calls;
    time = passes_then (past_of g a) (past_of g b) (past_of g c)
        (While (g.told a) Unchanged) (While (g.told b) Unchanged) (While (g.told a) Unchanged) first.time second.time
        (λ state now. now)
        (λ state now disk is. now disk (first.told ∙ is));
    cause = let steady : g.faults b ≡ g.faults a = first.cause.steady (λ e. e) in record {
      later = let later = second.cause.later in omega (arith, later, steady);
      rose = λ e. subst (λ (n : ℕ). Rose n (g.faults c)) steady (second.cause.rose e);
      steady = λ none. second.cause.steady none ∙ steady;
    };
  }
