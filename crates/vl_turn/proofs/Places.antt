-- Lists of views, of which one changes or a new one comes.
use Rattle.std.proofs.Common.{◌≡◌, ◌≢◌, ◌⊎◌, ℕ, zero, suc, List, [], ◌∷◌, ◌++◌, length, set, sym, refl, ap, subst, ⊎_elim, inl, inr}
use mathlib.Core.Option.{some, some-injective, some-ne-none}
use lib.ListN.{get_elem?}
use Rattle.atomic_table.proofs.Lists.{at_set}

module _ {A : Type 0} where
  pub at_changed : (l : List A) (i : ℕ) (a b : A) → get_elem? l i ≡ some a → get_elem? (set l i b) i ≡ some b
  at_changed [] i a b e = absurd (some-ne-none a (sym e))
  at_changed (x ∷ xs) zero a b e = refl
  at_changed (x ∷ xs) (suc i) a b e = at_changed xs i a b e

  -- what is so of each, where one has changed
  pub each_after_change : (P : ℕ → A → Type 0) (l : List A) (i : ℕ) (b : A) → P i b
      → ((j : ℕ) (a : A) → j ≢ i → get_elem? l j ≡ some a → P j a) → (j : ℕ) (a : A) → get_elem? (set l i b) j ≡ some a → P j a
  each_after_change P l i b this others j a e = ⊎_elim
      (λ (is : (j ≡ i) × (b ≡ a)). subst (λ (x : ℕ × A). P x.0 x.1) (λ k. (sym is.0 k, is.1 k)) this)
      (λ (other : (j ≢ i) × (get_elem? l j ≡ some a)). others j a other.0 other.1)
      (at_set l i j b a e)

  at_end : (l : List A) (b a : A) (j : ℕ) → get_elem? (l ++ b ∷ []) j ≡ some a → (get_elem? l j ≡ some a) ⊎ ((j ≡ length l) × (b ≡ a))
  at_end [] b a zero e = inr (refl, some-injective b a e)
  at_end [] b a (suc j) e = absurd (some-ne-none a (sym e))
  at_end (x ∷ xs) b a zero e = inl e
  at_end (x ∷ xs) b a (suc j) e = ⊎_elim inl (λ is. inr (ap suc is.0, is.1)) (at_end xs b a j e)

  -- what is so of each, where one has come
  pub each_with_new : (P : ℕ → A → Type 0) (l : List A) (b : A) → P (length l) b
      → ((j : ℕ) (a : A) → get_elem? l j ≡ some a → P j a) → (j : ℕ) (a : A) → get_elem? (l ++ b ∷ []) j ≡ some a → P j a
  each_with_new P l b new others j a e = ⊎_elim (others j a)
      (λ (is : (j ≡ length l) × (b ≡ a)). subst (λ (x : ℕ × A). P x.0 x.1) (λ k. (sym is.0 k, is.1 k)) new)
      (at_end l b a j e)

  pub place_of_one : (a b : A) (j : ℕ) → get_elem? (a ∷ []) j ≡ some b → j ≡ 0
  place_of_one a b zero e = refl
  place_of_one a b (suc j) e = absurd (some-ne-none b (sym e))
