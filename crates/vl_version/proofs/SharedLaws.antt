-- Lists that are shared one item after the other.
use Rattle.std.proofs.Common.{◌≡◌, ℕ, zero, suc, ◌+◌, ◌<◌, List, [], ◌∷◌, ◌++◌, length, take, get_or, ap, subst, sym, ◌∙◌, arith}
use Rattle.std.specs.List.{AllZip}

suc_more : (i : ℕ) → suc i + 1 ≡ suc (i + 1)
suc_more i = omega arith

module _ {A : Type 0} where
  taken_next : (all : List A) (i : ℕ) (x : A) → i < length all → x ≡ get_or all i x → take (i + 1) all ≡ take i all ++ x ∷ []
  taken_next [] i x within is = absurd (omega arith)
  taken_next (first ∷ all) zero x within is = ap (λ r. r ∷ []) (sym is)
  taken_next (first ∷ all) (suc i) x within is =
      ap (λ n. take n (first ∷ all)) (suc_more i) ∙ ap (λ l. first ∷ l) (taken_next all i x (omega arith) is)

  module _ (Same : A → A → Type 0) where
    zip_push : (xs ys : List A) (x y : A) → AllZip Same xs ys → Same x y → AllZip Same (xs ++ x ∷ []) (ys ++ y ∷ [])
    zip_push [] [] x y all one = (one, tt)
    zip_push [] (b ∷ bs) x y all one = absurd all
    zip_push (a ∷ xs) [] x y all one = absurd all
    zip_push (a ∷ xs) (b ∷ bs) x y all one = (all.0, zip_push xs bs x y all.1 one)

    -- what stands side by side does so with one more behind each,
    pub same_pushed : (xs ys after : List A) (x y : A) → AllZip Same xs ys → Same x y → after ≡ ys ++ y ∷ []
        → AllZip Same (xs ++ x ∷ []) after
    same_pushed xs ys after x y all one is = subst (AllZip Same (xs ++ x ∷ [])) (sym is) (zip_push xs ys x y all one)

    -- and with the next of a list
    pub same_next : (all ys after : List A) (i : ℕ) (x y : A) → i < length all → x ≡ get_or all i x
        → AllZip Same (take i all) ys → Same x y → after ≡ ys ++ y ∷ [] → AllZip Same (take (i + 1) all) after
    same_next all ys after i x y within at same one is =
        subst (λ (xs : List A). AllZip Same xs after) (sym (taken_next all i x within at))
        (same_pushed (take i all) ys after x y same one is)
