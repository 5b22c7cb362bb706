-- Beginnings of lists.
use Rattle.std.proofs.Common.{◌≡◌, List, [], ◌∷◌, ◌++◌, refl, ap, sym, ◌∙◌, append_assoc, append-nil}
use mathlib.Core.List.{IsPrefix}

module _ {A : Type 0} where
  pub begins_itself : (list : List A) → IsPrefix list list
  begins_itself list = ([], append-nil list)

  pub begins_more : (xs ys zs : List A) → IsPrefix xs ys → IsPrefix ys zs → IsPrefix xs zs
  begins_more xs ys zs p q =
      let whole : (xs ++ p.0) ++ q.0 ≡ zs = ap (λ l. l ++ q.0) p.1 ∙ q.1 in
      (p.0 ++ q.0, sym (append_assoc xs p.0 q.0) ∙ whole)

  -- nothing has no beginning but nothing
  pub none_in_front : (xs ys : List A) → xs ++ ys ≡ [] → xs ≡ []
  none_in_front [] ys none = refl
  none_in_front (x ∷ xs) ys none = cc

  -- what stands behind the same beginning is the same
  pub same_behind : (xs ys zs : List A) → xs ++ ys ≡ xs ++ zs → ys ≡ zs
  same_behind [] ys zs same = same
  same_behind (x ∷ xs) ys zs same = let rest : xs ++ ys ≡ xs ++ zs = cc in same_behind xs ys zs rest
