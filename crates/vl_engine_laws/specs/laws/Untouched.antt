-- A disk that no call was made of.
use Rattle.std.specs.Prelude.{◌≡◌, refl}
use Rattle.std.proofs.Common.{arith, subst, sym}
use Rattle.vl_disk.specs.Calls.{ChangesNothing}
use Rattle.vl_disk.specs.Crash.{Unchanged}
use Rattle.vl_disk.specs.Moments.{While, passes_none, past_of}
use Rattle.vl_disk.specs.declared.watched.Watched.{Ghosts}

pub alone : {D : Type 0} (g : Ghosts D) (old new : D) → new ≡ old → ChangesNothing g old new ⊥
alone {D} g old new same = subst (λ (d : D). ChangesNothing g old d ⊥) (sym same) (record {
  told = refl;
  calls = refl;
  time = passes_none (past_of g old) (While (g.told old) Unchanged);
  cause = record { later = omega arith; rose = λ failed. absurd failed; steady = λ fine. refl };
})
