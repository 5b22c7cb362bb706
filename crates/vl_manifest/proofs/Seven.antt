-- Seven elements, each taken by its index, are the list.
use Rattle.std.proofs.Common.{◌≡◌, ℕ, List, [], ◌∷◌, length, slice_index_or, ap}

both : {A : Type 0} (x y : A) (xs ys : List A) → x ≡ y → xs ≡ ys → x ∷ xs ≡ y ∷ ys
both x y xs ys same rest = cc

pub seven : {A : Type 0} (l : List A) → length l ≡ 7 → (a b c d e f g p q r s t u v : A)
    → a ≡ slice_index_or l 0 p → b ≡ slice_index_or l 1 q → c ≡ slice_index_or l 2 r → d ≡ slice_index_or l 3 s
    → e ≡ slice_index_or l 4 t → f ≡ slice_index_or l 5 u → g ≡ slice_index_or l 6 v
    → (a ∷ b ∷ c ∷ d ∷ e ∷ f ∷ g ∷ []) ≡ l
seven (a' ∷ b' ∷ c' ∷ d' ∷ e' ∷ f' ∷ g' ∷ []) n a b c d e f g p q r s t u v at_a at_b at_c at_d at_e at_f at_g =
    both a a' _ _ at_a (both b b' _ _ at_b (both c c' _ _ at_c (both d d' _ _ at_d (both e e' _ _ at_e
    (both f f' _ _ at_f (ap (λ x. x ∷ []) at_g))))))
seven [] n a b c d e f g p q r s t u v at_a at_b at_c at_d at_e at_f at_g = absurd cc
seven (a' ∷ []) n a b c d e f g p q r s t u v at_a at_b at_c at_d at_e at_f at_g = absurd cc
seven (a' ∷ b' ∷ []) n a b c d e f g p q r s t u v at_a at_b at_c at_d at_e at_f at_g = absurd cc
seven (a' ∷ b' ∷ c' ∷ []) n a b c d e f g p q r s t u v at_a at_b at_c at_d at_e at_f at_g = absurd cc
seven (a' ∷ b' ∷ c' ∷ d' ∷ []) n a b c d e f g p q r s t u v at_a at_b at_c at_d at_e at_f at_g = absurd cc
seven (a' ∷ b' ∷ c' ∷ d' ∷ e' ∷ []) n a b c d e f g p q r s t u v at_a at_b at_c at_d at_e at_f at_g = absurd cc
seven (a' ∷ b' ∷ c' ∷ d' ∷ e' ∷ f' ∷ []) n a b c d e f g p q r s t u v at_a at_b at_c at_d at_e at_f at_g = absurd cc
seven (a' ∷ b' ∷ c' ∷ d' ∷ e' ∷ f' ∷ g' ∷ h' ∷ rest) n a b c d e f g p q r s t u v at_a at_b at_c at_d at_e at_f at_g = absurd cc
