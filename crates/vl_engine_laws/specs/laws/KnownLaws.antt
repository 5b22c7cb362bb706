-- Whether no version is above a number, as a test and as a fact.
use Rattle.std.specs.Prelude.{◌≡◌, ℕ, Bool, true, false, ◌&&◌, nat_le, List, [], ◌∷◌, refl}
use Rattle.std.proofs.Common.{arith}
use Rattle.std.proofs.lemmas.Bool.Decides.{nat_tests}
use Rattle.vl_engine_laws.specs.Known.{are_known}
use Rattle.vl_engine_model.specs.Shows.{AreUpTo}
use Rattle.vl_model.specs.declared.entry.Entry.{Entry}

false_true : false ≡ true → ⊥
false_true e = cc

both : (a b : Bool) → (a && b) ≡ true → (a ≡ true) × (b ≡ true)
both true b all = (refl, all)
both false b all = absurd (false_true all)

pub known_up_to : (last : ℕ) (es : List Entry) → are_known last es ≡ true → AreUpTo last es
known_up_to last [] known = tt
known_up_to last (e ∷ es) known =
    let (here, later) = both (nat_le e.version last) (are_known last es) known in
    (grind (arith, nat_tests, here), known_up_to last es later)

pub up_to_known : (last : ℕ) (es : List Entry) → AreUpTo last es → are_known last es ≡ true
up_to_known last [] up = refl
up_to_known last (e ∷ es) up = by (nat_le e.version last) refl (up_to_known last es up.1)
  where
    by : (b : Bool) → nat_le e.version last ≡ b → are_known last es ≡ true → (b && are_known last es) ≡ true
    by true is later = later
    by false is later = let low = up.0 in absurd (grind (arith, nat_tests, is, low))
