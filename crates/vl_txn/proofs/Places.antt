-- The place in a list before the first element that fails a test.
use Rattle.std.proofs.Common.{◌≡◌, ℕ, zero, suc, ◌+◌, ◌<◌, ◌≤◌, Bool, true, false, cond, List, [], ◌∷◌, length}
use Rattle.std.proofs.Common.{get_or, set, refl, ap, sym, ◌∙◌, arith, Option, Some, None, slice_get, Bor}
use Rattle.std.specs.List.{AllByRecursion, prefix_len, insert}
use Rattle.std.specs.List.Sorted.{IsPartitionedBy, IsPartitionPoint}
use Rattle.std.specs.Option.{option_copied}
use Rattle.std.specs.Slice.{IsItemAt}
use Rattle.std.proofs.lemmas.Option.{slice_get_past}
use Rattle.std.proofs.lemmas.List.Sums.{prefix_len_is}

module _ {X : Type 0} (p : X → Bool) where
  -- no element that passes comes after one that fails
  abbrev pub IsParted : List X → Type 0
  IsParted [] = Unit {0}
  IsParted (x ∷ xs) = AllByRecursion (λ later. p later ≡ true → p x ≡ true) xs × IsParted xs

  all_at : (P : X → Type 0) (xs : List X) (i : ℕ) (d : X) → AllByRecursion P xs → i < length xs → P (get_or xs i d)
  all_at P [] i d all within = absurd (omega arith)
  all_at P (x ∷ xs) zero d all within = all.0
  all_at P (x ∷ xs) (suc i) d all within = all_at P xs i d all.1 (omega arith)

  pub partitioned : (xs : List X) → IsParted xs → IsPartitionedBy p xs
  partitioned [] parted i j d le within = absurd (omega arith)
  partitioned (x ∷ xs) parted zero zero d le within = λ passes. passes
  partitioned (x ∷ xs) parted zero (suc j) d le within = all_at (λ later. p later ≡ true → p x ≡ true) xs j d parted.0 (omega arith)
  partitioned (x ∷ xs) parted (suc i) zero d le within = absurd (omega arith)
  partitioned (x ∷ xs) parted (suc i) (suc j) d le within = partitioned xs parted.1 i j d (omega arith) (omega arith)

  pub prefix_len-point : (xs : List X) (i : ℕ) → i ≤ length xs
      → IsPartitionPoint (λ x. p x ≡ true) (λ x. p x ≡ false) xs i → i ≡ prefix_len p xs
  prefix_len-point [] i le point = omega arith
  prefix_len-point (x ∷ xs) i le point = sym
      (prefix_len_is p (x ∷ xs) i x le (λ k lt. point.0 k x (omega arith) lt) (λ lt. point.1 i x (omega arith) lt))

  -- the first element that fails
  abbrev pub first_failing : List X → Option X
  first_failing [] = None
  first_failing (x ∷ xs) = cond (p x) (first_failing xs) (Some x)

  one_more : (n : ℕ) → 1 + n ≡ suc n
  one_more n = omega arith

  pub slice_get-prefix_len : (xs : List X) → slice_get xs (prefix_len p xs) ≡ first_failing xs
  slice_get-prefix_len [] = refl
  slice_get-prefix_len (x ∷ xs) =
      elim (p x) as (λ b. slice_get (x ∷ xs) (cond b (1 + prefix_len p xs) 0) ≡ cond b (first_failing xs) (Some x)) [
        | true ↦ ap (slice_get (x ∷ xs)) (one_more (prefix_len p xs)) ∙ slice_get-prefix_len xs
        | false ↦ refl
      ]

  -- one more element before the first that fails
  abbrev pub put_before : X → List X → List X
  put_before y [] = y ∷ []
  put_before y (x ∷ xs) = cond (p x) (x ∷ put_before y xs) (y ∷ x ∷ xs)

  pub insert-prefix_len : (y : X) (xs : List X) → insert xs (prefix_len p xs) y ≡ put_before y xs
  insert-prefix_len y [] = refl
  insert-prefix_len y (x ∷ xs) =
      elim (p x) as (λ b. insert (x ∷ xs) (cond b (1 + prefix_len p xs) 0) y ≡ cond b (x ∷ put_before y xs) (y ∷ x ∷ xs)) [
        | true ↦ ap (λ n. insert (x ∷ xs) n y) (one_more (prefix_len p xs)) ∙ ap (λ ys. x ∷ ys) (insert-prefix_len y xs)
        | false ↦ refl
      ]

  -- another element in the place of the first that fails
  abbrev pub replace_first : X → List X → List X
  replace_first y [] = []
  replace_first y (x ∷ xs) = cond (p x) (x ∷ replace_first y xs) (y ∷ xs)

  pub set-prefix_len : (y : X) (xs : List X) → set xs (prefix_len p xs) y ≡ replace_first y xs
  set-prefix_len y [] = refl
  set-prefix_len y (x ∷ xs) =
      elim (p x) as (λ b. set (x ∷ xs) (cond b (1 + prefix_len p xs) 0) y ≡ cond b (x ∷ replace_first y xs) (y ∷ xs)) [
        | true ↦ ap (λ n. set (x ∷ xs) n y) (one_more (prefix_len p xs)) ∙ ap (λ ys. x ∷ ys) (set-prefix_len y xs)
        | false ↦ refl
      ]

module _ {X : Type 0} where
  pub slice_get_at : (xs : List X) (i : ℕ) (d : X) → i < length xs → slice_get xs i ≡ Some (get_or xs i d)
  slice_get_at [] i d within = absurd (omega arith)
  slice_get_at (x ∷ xs) zero d within = refl
  slice_get_at (x ∷ xs) (suc i) d within = slice_get_at xs i d (omega arith)

  -- what `get` lends is the element at the place
  pub slice_get-item : (xs : List X) (i : ℕ) (r : Option (Bor X)) → IsItemAt xs i r → option_copied r ≡ slice_get xs i
  slice_get-item xs i None item = sym (slice_get_past xs i item.3)
  slice_get-item xs i (Some x) item = ap Some item.1 ∙ sym (slice_get_at xs i x.now item.3.0)
