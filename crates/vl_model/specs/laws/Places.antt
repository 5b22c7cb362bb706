-- The place in a list before the first element that fails a test.
use Rattle.std.proofs.Common.{◌≡◌, ℕ, zero, suc, ◌+◌, ◌<◌, ◌≤◌, Bool, true, false, cond, List, [], ◌∷◌, length}
use Rattle.std.proofs.Common.{get_or, refl, ap, sym, ◌∙◌, arith, Option, Some, None, slice_get, Bor}
use Rattle.std.specs.List.{AllByRecursion, prefix_len}
use Rattle.vl_model.specs.Lookups.{IsParted, first_failing}
use Rattle.std.specs.List.Sorted.{IsPartitionedBy, IsPartitionPoint}
use Rattle.std.specs.Option.{option_copied}
use Rattle.std.specs.Slice.{IsItemAt}
use Rattle.std.proofs.lemmas.Option.{slice_get_past}
use Rattle.std.proofs.lemmas.List.Sums.{prefix_len_is}

module _ {X : Type 0} (p : X → Bool) where
  passes_at : (P : X → Type 0) (xs : List X) (i : ℕ) (d : X) → AllByRecursion P xs → i < length xs → P (get_or xs i d)
  passes_at P [] i d all within = absurd (omega arith)
  passes_at P (x ∷ xs) zero d all within = all.0
  passes_at P (x ∷ xs) (suc i) d all within = passes_at P xs i d all.1 (omega arith)

  pub parted_at : (xs : List X) → IsParted p xs → IsPartitionedBy p xs
  parted_at [] parted i j d le within = absurd (omega arith)
  parted_at (x ∷ xs) parted zero zero d le within = λ passes. passes
  parted_at (x ∷ xs) parted zero (suc j) d le within = passes_at (λ later. p later ≡ true → p x ≡ true) xs j d parted.0 (omega arith)
  parted_at (x ∷ xs) parted (suc i) zero d le within = absurd (omega arith)
  parted_at (x ∷ xs) parted (suc i) (suc j) d le within = parted_at xs parted.1 i j d (omega arith) (omega arith)

  pub point-prefix : (xs : List X) (i : ℕ) → i ≤ length xs → IsPartitionPoint (λ x. p x ≡ true) (λ x. p x ≡ false) xs i
      → i ≡ prefix_len p xs
  point-prefix [] i le point = omega arith
  point-prefix (x ∷ xs) i le point = sym
      (prefix_len_is p (x ∷ xs) i x le (λ k lt. point.0 k x (omega arith) lt) (λ lt. point.1 i x (omega arith) lt))

  one_more : (n : ℕ) → 1 + n ≡ suc n
  one_more n = omega arith

  pub slice_get-prefix : (xs : List X) → slice_get xs (prefix_len p xs) ≡ first_failing p xs
  slice_get-prefix [] = refl
  slice_get-prefix (x ∷ xs) =
      elim (p x) as (λ b. slice_get (x ∷ xs) (cond b (1 + prefix_len p xs) 0) ≡ cond b (first_failing p xs) (Some x)) [
        | true ↦ ap (slice_get (x ∷ xs)) (one_more (prefix_len p xs)) ∙ slice_get-prefix xs
        | false ↦ refl
      ]

  -- an element that passes stands before the place, and one that fails doesn't
  pub before_point : (xs : List X) (i : ℕ) (d : X) → IsParted p xs → i < length xs → p (get_or xs i d) ≡ true → i < prefix_len p xs
  before_point [] i d parted within is = absurd (omega (arith, within))
  before_point (x ∷ xs) zero d parted within is =
      let more : prefix_len p (x ∷ xs) ≡ 1 + prefix_len p xs = ap (λ b. cond b (1 + prefix_len p xs) 0) is in
      omega (arith, more)
  before_point (x ∷ xs) (suc i) d parted within is =
      let later = before_point xs i d parted.1 (omega (arith, within)) is in
      let first : p x ≡ true = passes_at (λ later. p later ≡ true → p x ≡ true) xs i d parted.0 (omega (arith, within)) is in
      let more : prefix_len p (x ∷ xs) ≡ 1 + prefix_len p xs = ap (λ b. cond b (1 + prefix_len p xs) 0) first in
      omega (arith, more, later)

  pub from_point : (xs : List X) (i : ℕ) (d : X) → i < length xs → p (get_or xs i d) ≡ false → prefix_len p xs ≤ i
  from_point [] i d within is = absurd (omega (arith, within))
  from_point (x ∷ xs) zero d within is =
      let none : prefix_len p (x ∷ xs) ≡ 0 = ap (λ b. cond b (1 + prefix_len p xs) 0) is in
      omega (arith, none)
  from_point (x ∷ xs) (suc i) d within is =
      let later = from_point xs i d (omega (arith, within)) is in
      elim (p x) as (λ b. cond b (1 + prefix_len p xs) 0 ≤ suc i) [
        | true ↦ omega (arith, later)
        | false ↦ omega arith
      ]

  -- what stands at the place
  pub first-none : (xs : List X) (i : ℕ) → i ≡ prefix_len p xs → length xs ≤ i → first_failing p xs ≡ None
  first-none xs i is past = sym (slice_get-prefix xs) ∙ ap (slice_get xs) (sym is) ∙ slice_get_past xs i past

module _ {X : Type 0} where
  pub slice_get-within : (xs : List X) (i : ℕ) (d : X) → i < length xs → slice_get xs i ≡ Some (get_or xs i d)
  slice_get-within [] i d within = absurd (omega arith)
  slice_get-within (x ∷ xs) zero d within = refl
  slice_get-within (x ∷ xs) (suc i) d within = slice_get-within xs i d (omega arith)

  -- what `get` lends is the element at the place
  pub slice_get-lent : (xs : List X) (i : ℕ) (r : Option (Bor X)) → IsItemAt xs i r → option_copied r ≡ slice_get xs i
  slice_get-lent xs i None item = sym (slice_get_past xs i item.3)
  slice_get-lent xs i (Some x) item = ap Some item.1 ∙ sym (slice_get-within xs i x.now item.3.0)

  pub first-some : (p : X → Bool) (xs : List X) (i : ℕ) (d : X) → i ≡ prefix_len p xs → i < length xs
      → first_failing p xs ≡ Some (get_or xs i d)
  first-some p xs i d is within = sym (slice_get-prefix p xs) ∙ ap (slice_get xs) (sym is) ∙ slice_get-within xs i d within
