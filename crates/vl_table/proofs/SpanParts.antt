-- A test that parts a list in two, as it is computed.
use Rattle.std.specs.Prelude.{◌≡◌, ◌+◌, ◌&&◌, ℕ, suc, Bool, true, false, not, List, [], ◌∷◌, drop}
use Rattle.std.specs.List.{AllByRecursion, list_all, prefix_len}
use Rattle.std.proofs.Common.{cond, refl, ap, sym, ◌∙◌, arith}
use Rattle.vl_model.specs.Lookups.{IsParted}
use Rattle.vl_table.specs.SpanBlocks.{is_parted}

and_left : (a b : Bool) → a && b ≡ true → a ≡ true
and_left true b is = refl
and_left false b is = absurd cc

and_right : (a b : Bool) → a && b ≡ true → b ≡ true
and_right true b is = is
and_right false b is = absurd cc

and_both : (a b : Bool) → a ≡ true → b ≡ true → a && b ≡ true
and_both true b first second = second
and_both false b first second = absurd cc

fails : (t b : Bool) → not t ≡ true → t ≡ true → b ≡ true
fails true b failed passed = absurd cc
fails false b failed passed = absurd cc

module _ {X : Type 0} (test : X → Bool) where
  -- none passes, so none behind one that fails does
  none_pass : (xs : List X) (b : Bool) → list_all (λ x. not (test x)) xs ≡ true → AllByRecursion (λ later. test later ≡ true → b ≡ true) xs
  none_pass [] b none = tt
  none_pass (x ∷ xs) b none =
      let here = fails (test x) b (and_left (not (test x)) (list_all (λ y. not (test y)) xs) none) in
      let later = none_pass xs b (and_right (not (test x)) (list_all (λ y. not (test y)) xs) none) in
      (here, later)

  parted_none : (xs : List X) → list_all (λ x. not (test x)) xs ≡ true → IsParted test xs
  parted_none [] none = tt
  parted_none (x ∷ xs) none =
      let rest = and_right (not (test x)) (list_all (λ y. not (test y)) xs) none in
      (none_pass xs (test x) rest, parted_none xs rest)

  passing : (xs : List X) (b : Bool) → b ≡ true → AllByRecursion (λ later. test later ≡ true → b ≡ true) xs
  passing [] b is = tt
  passing (x ∷ xs) b is = let rest = passing xs b is in ((λ passes. is), rest)

  one_more : (n : ℕ) → 1 + n ≡ suc n
  one_more n = omega arith

  pub parted_from : (xs : List X) → is_parted test xs ≡ true → IsParted test xs
  parted_from [] parted = tt
  parted_from (x ∷ xs) parted = by (parted_from xs) (test x) refl parted
    where
      by : (is_parted test xs ≡ true → IsParted test xs) → (t : Bool) → test x ≡ t
          → list_all (λ y. not (test y)) (drop (cond t (1 + prefix_len test xs) 0) (x ∷ xs)) ≡ true → IsParted test (x ∷ xs)
      by later true is parted = (
        passing xs (test x) is,
        later
            (ap (λ (n : ℕ). list_all (λ y. not (test y)) (drop n (x ∷ xs))) (sym (one_more (prefix_len test xs))) ∙ parted),
      )
      by later false is parted = parted_none (x ∷ xs) parted

  -- none behind one that fails passes
  none_behind : (xs : List X) (b : Bool) → b ≡ false → AllByRecursion (λ later. test later ≡ true → b ≡ true) xs
      → list_all (λ x. not (test x)) xs ≡ true
  none_behind [] b is all = refl
  none_behind (x ∷ xs) b is all =
      and_both (not (test x)) (list_all (λ y. not (test y)) xs) (by (test x) all.0) (none_behind xs b is all.1)
    where
      by : (t : Bool) → (t ≡ true → b ≡ true) → not t ≡ true
      by true sends = let same : b ≡ true = sends refl in absurd cc
      by false sends = refl

  pub parted_to : (xs : List X) → IsParted test xs → is_parted test xs ≡ true
  parted_to [] parted = refl
  parted_to (x ∷ xs) parted = by (parted_to xs parted.1) (test x) refl
    where
      by : is_parted test xs ≡ true → (t : Bool) → test x ≡ t
          → list_all (λ y. not (test y)) (drop (cond t (1 + prefix_len test xs) 0) (x ∷ xs)) ≡ true
      by later true is = ap (λ (n : ℕ). list_all (λ y. not (test y)) (drop n (x ∷ xs))) (one_more (prefix_len test xs)) ∙ later
      by later false is = and_both (not (test x)) (list_all (λ y. not (test y)) xs) (ap not is) (none_behind xs (test x) is parted.0)
