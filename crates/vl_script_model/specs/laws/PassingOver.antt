-- A source that is read to its end, and of which nothing is kept.
use Rattle.std.proofs.Common.{◌≡◌, ℕ, List, [], ◌∷◌, ◌++◌, refl, length, Option, Some, None, sym, ◌∙◌, ap, subst, arith, length-append}
use Rattle.std.specs.Prelude.{IfSome}
use Rattle.vl_io.specs.Source.{HandsOver}

-- what is told stays told
pub hands_on : (old new : Option (List ℕ)) (given rest : List ℕ) → HandsOver old new given → old ≡ Some rest
    → (after : List ℕ) × (new ≡ Some after) × (rest ≡ given ++ after)
hands_on None new given rest hands is = absurd cc
hands_on (Some had) None given rest hands is = absurd hands
hands_on (Some had) (Some after) given rest hands is = (after, refl, some_same rest had (sym is) ∙ hands)
  where
    some_same : (a b : List ℕ) → Some a ≡ Some b → a ≡ b
    some_same a b e = cc

-- at the end nothing is left
pub hands_all : (old new : Option (List ℕ)) (given rest : List ℕ) → HandsOver old new given
    → IfSome old (λ left. left ≡ []) → old ≡ Some rest → new ≡ Some []
hands_all old new given rest hands none is =
    let (after, new_is, parts) = hands_on old new given rest hands is in
    let empty : rest ≡ [] = subst (λ (o : Option (List ℕ)). IfSome o (λ left. left ≡ [])) is none in
    new_is ∙ ap Some (no_length after (omega (arith, length-append given after, ap length parts, ap length empty)))
  where
    no_length : (bytes : List ℕ) → length bytes ≡ 0 → bytes ≡ []
    no_length [] e = refl
    no_length (b ∷ bytes) e = absurd (omega (arith, e))
