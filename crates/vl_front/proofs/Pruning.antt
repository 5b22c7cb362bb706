-- Of commits at or below the floor nothing is kept.
use Rattle.std.proofs.Common.{◌≡◌, ℕ, ◌<◌, Bool, true, false, cond, List, [], ◌∷◌, refl, arith}
use Rattle.std.proofs.lemmas.Bool.Decides.{nat_tests}
use Rattle.std.specs.Prelude.{nat_lt}
use Rattle.std.specs.List.{AllByRecursion, filter}
use Rattle.vl_model.specs.Conflicts.{Named}
use Rattle.vl_conflict.specs.Notes.{is_above_floor}

-- each number is above this one
abbrev pub AreAbove : ℕ → List Named → Type 0
AreAbove floor = AllByRecursion (λ (note : Named). floor < note.1)

pub above_only : (floor : ℕ) (named : List Named) → AreAbove floor (filter (is_above_floor floor) named)
above_only floor [] = tt
above_only floor (note ∷ notes) = by_test (nat_lt floor note.1) refl (above_only floor notes)
  where
    above : nat_lt floor note.1 ≡ true → floor < note.1
    above is = grind (arith, nat_tests)

    by_test : (b : Bool) → nat_lt floor note.1 ≡ b → AreAbove floor (filter (is_above_floor floor) notes)
        → AreAbove floor (cond b (note ∷ filter (is_above_floor floor) notes) (filter (is_above_floor floor) notes))
    by_test true is later = (above is, later)
    by_test false is later = later
