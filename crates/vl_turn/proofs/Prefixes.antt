-- Beginnings of one list.
use Rattle.std.proofs.Common.{◌≡◌, ◌≤◌, List, [], ◌∷◌, ◌++◌, length, Bool, true, false, if◌then◌else◌, nat_le, refl}
use Rattle.std.proofs.Common.{ap, sym, ◌∙◌, arith, append_assoc, append-nil}
use Rattle.std.proofs.lemmas.Bool.Decides.{nat_tests}
use mathlib.Core.List.{IsPrefix}
use Rattle.vl_turn.specs.Entries.{longer, shorter}

module _ {A : Type 0} where
  pub begins_itself : (list : List A) → IsPrefix list list
  begins_itself list = ([], append-nil list)

  pub begins_more : (xs ys zs : List A) → IsPrefix xs ys → IsPrefix ys zs → IsPrefix xs zs
  begins_more xs ys zs p q =
      let whole : (xs ++ p.0) ++ q.0 ≡ zs = ap (λ l. l ++ q.0) p.1 ∙ q.1 in
      (p.0 ++ q.0, sym (append_assoc xs p.0 q.0) ∙ whole)

  pub begins_grown : (xs ys : List A) (e : A) → IsPrefix xs ys → IsPrefix xs (ys ++ e ∷ [])
  begins_grown xs ys e p = begins_more xs ys (ys ++ e ∷ []) p (e ∷ [], refl)

  -- where two lists go on to the same list, the shorter begins the other
  goes_on : (xs xs' ys ys' : List A) → xs ++ xs' ≡ ys ++ ys' → length xs ≤ length ys → IsPrefix xs ys
  goes_on [] xs' ys ys' same le = (ys, refl)
  goes_on (x ∷ xs) xs' [] ys' same le = absurd (omega arith)
  goes_on (x ∷ xs) xs' (y ∷ ys) ys' same le =
      let rest : IsPrefix xs ys = goes_on xs xs' ys ys' (cc same) (omega arith) in
      (rest.0, cc (same, rest.1))

  by_length : (P : List A → List A → Type 0) (xs ys : List A) (b : Bool) → (b ≡ true → P xs ys) → (b ≡ false → P ys xs)
      → P (if b then xs else ys) (if b then ys else xs)
  by_length P xs ys true first second = first refl
  by_length P xs ys false first second = second refl

  -- of two beginnings of one list the longer is a beginning, which the shorter begins
  pub longer_begins : (xs ys list : List A) → IsPrefix xs list → IsPrefix ys list → IsPrefix (longer xs ys) list
      × IsPrefix (shorter xs ys) (longer xs ys)
  longer_begins xs ys list p q = by_length (λ l k. IsPrefix l list × IsPrefix k l) xs ys (nat_le (length ys) (length xs))
      (λ is. (p, goes_on ys q.0 xs p.0 (q.1 ∙ sym p.1) (grind (arith, nat_tests))))
      (λ is. (q, goes_on xs p.0 ys q.0 (p.1 ∙ sym q.1) (grind (arith, nat_tests))))
