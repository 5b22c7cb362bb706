-- Laws of lists that rise: what one more thing at its place, a test or a change of each leaves.
use Rattle.std.proofs.Common.{◌≡◌, ◌≢◌, ℕ, ◌+◌, ◌≤◌, ◌<◌, Bool, true, false, cond, List, [], ◌∷◌, map, length, refl, ap, sym, ◌∙◌, arith}
use Rattle.std.proofs.lemmas.Bool.Decides.{nat_tests}
use Rattle.std.specs.Prelude.{nat_lt}
use Rattle.std.specs.List.{AllByRecursion, filter}
use Rattle.vl_engine_model.specs.Rising.{put_by, IsRising}

module _ {X Y : Type 0} where
  -- a change of each that leaves the numbers puts the same at the same place
  pub map-put_by : (f : X → Y) (key : X → ℕ) (key' : Y → ℕ) → ((x : X) → key' (f x) ≡ key x) → (x : X) (xs : List X)
      → map f (put_by key x xs) ≡ put_by key' (f x) (map f xs)
  map-put_by f key key' same x [] = refl
  map-put_by f key key' same x (y ∷ ys) =
      by_test (nat_lt (key y) (key x)) (map-put_by f key key' same x ys)
      ∙ ap (λ b. cond b (f y ∷ put_by key' (f x) (map f ys)) (f x ∷ f y ∷ map f ys))
      (ap (λ m. nat_lt m (key x)) (sym (same y)) ∙ ap (nat_lt (key' (f y))) (sym (same x)))
    where
      by_test : (b : Bool) → map f (put_by key x ys) ≡ put_by key' (f x) (map f ys)
          → map f (cond b (y ∷ put_by key x ys) (x ∷ y ∷ ys)) ≡ cond b (f y ∷ put_by key' (f x) (map f ys)) (f x ∷ f y ∷ map f ys)
      by_test true later = ap (λ zs. f y ∷ zs) later
      by_test false later = refl

  pub map-filter : (f : X → Y) (p : X → Bool) (q : Y → Bool) → ((x : X) → q (f x) ≡ p x) → (xs : List X)
      → map f (filter p xs) ≡ filter q (map f xs)
  map-filter f p q same [] = refl
  map-filter f p q same (x ∷ xs) =
      by_test (p x) (map-filter f p q same xs)
      ∙ ap (λ b. cond b (f x ∷ filter q (map f xs)) (filter q (map f xs))) (sym (same x))
    where
      by_test : (b : Bool) → map f (filter p xs) ≡ filter q (map f xs)
          → map f (cond b (x ∷ filter p xs) (filter p xs)) ≡ cond b (f x ∷ filter q (map f xs)) (filter q (map f xs))
      by_test true later = ap (λ zs. f x ∷ zs) later
      by_test false later = later

module _ {X : Type 0} (key : X → ℕ) where
  pub all-put_by : (P : X → Type 0) (x : X) (xs : List X) → P x → AllByRecursion P xs → AllByRecursion P (put_by key x xs)
  all-put_by P x [] here all = (here, tt)
  all-put_by P x (y ∷ ys) here all = elim (nat_lt (key y) (key x)) as (λ b. AllByRecursion P (cond b (y ∷ put_by key x ys) (x ∷ y ∷ ys))) [
    | true ↦ (all.0, all-put_by P x ys here all.1)
    | false ↦ (here, all)
  ]

  pub all-filter : (P : X → Type 0) (p : X → Bool) (xs : List X) → AllByRecursion P xs → AllByRecursion P (filter p xs)
  all-filter P p [] all = tt
  all-filter P p (x ∷ xs) all = elim (p x) as (λ b. AllByRecursion P (cond b (x ∷ filter p xs) (filter p xs))) [
    | true ↦ (all.0, all-filter P p xs all.1)
    | false ↦ all-filter P p xs all.1
  ]

  pub length-put_by : (x : X) (xs : List X) → length (put_by key x xs) ≡ length xs + 1
  length-put_by x [] = refl
  length-put_by x (y ∷ ys) =
      let later = length-put_by x ys in
      elim (nat_lt (key y) (key x)) as (λ b. length (cond b (y ∷ put_by key x ys) (x ∷ y ∷ ys)) ≡ length (y ∷ ys) + 1) [
        | true ↦ omega (arith, later)
        | false ↦ omega arith
      ]

  above : (m n : ℕ) → m ≤ n → (xs : List X) → AllByRecursion (λ x. n < key x) xs → AllByRecursion (λ x. m < key x) xs
  above m n le [] all = tt
  above m n le (x ∷ xs) all = ((let less = all.0 in omega (arith, le, less)), above m n le xs all.1)

  not_less : (m n : ℕ) → nat_lt m n ≡ false → n ≤ m
  not_less m n is = grind (arith, nat_tests)

  pub rising-put_by : (x : X) (xs : List X) → AllByRecursion (λ y. key y ≢ key x) xs → IsRising key xs
      → IsRising key (put_by key x xs)
  rising-put_by x [] other rising = (tt, tt)
  rising-put_by x (y ∷ ys) other rising = by_test (nat_lt (key y) (key x)) refl (rising-put_by x ys other.1 rising.1)
    where
      by_test : (b : Bool) → nat_lt (key y) (key x) ≡ b → IsRising key (put_by key x ys)
          → IsRising key (cond b (y ∷ put_by key x ys) (x ∷ y ∷ ys))
      by_test true is later = (
        all-put_by (λ z. key y < key z) x ys
            (let less : key y < key x = grind (arith, nat_tests) in less) rising.0,
        later,
      )
      by_test false is later =
          let apart = other.0 in
          let le = not_less (key y) (key x) is in
          let less : key x < key y = omega (arith, apart, le) in
          ((less, above (key x) (key y) le ys rising.0), rising)

  pub rising-filter : (p : X → Bool) (xs : List X) → IsRising key xs → IsRising key (filter p xs)
  rising-filter p [] rising = tt
  rising-filter p (x ∷ xs) rising = elim (p x) as (λ b. IsRising key (cond b (x ∷ filter p xs) (filter p xs))) [
    | true ↦ (all-filter (λ y. key x < key y) p xs rising.0, rising-filter p xs rising.1)
    | false ↦ rising-filter p xs rising.1
  ]

  in_front : (x : X) (xs : List X) → AllByRecursion (λ y. key x ≤ key y) xs → put_by key x xs ≡ x ∷ xs
  in_front x [] all = refl
  in_front x (y ∷ ys) all =
      let le = all.0 in
      let high : nat_lt (key y) (key x) ≡ false = grind (arith, nat_tests) in
      ap (λ b. cond b (y ∷ put_by key x ys) (x ∷ y ∷ ys)) high

  from_first : (m n : ℕ) → m ≤ n → (xs : List X) → AllByRecursion (λ x. n < key x) xs → AllByRecursion (λ x. m ≤ key x) xs
  from_first m n le [] all = tt
  from_first m n le (x ∷ xs) all = ((let less = all.0 in omega (arith, le, less)), from_first m n le xs all.1)

  -- of those that pass a test one more is put at its place, where it passes
  pub filter-put_by : (p : X → Bool) (x : X) (xs : List X) → IsRising key xs
      → filter p (put_by key x xs) ≡ cond (p x) (put_by key x (filter p xs)) (filter p xs)
  filter-put_by p x [] rising = refl
  filter-put_by p x (y ∷ ys) rising = by_test (nat_lt (key y) (key x)) refl (filter-put_by p x ys rising.1)
    where
      low : (a c : Bool) → nat_lt (key y) (key x) ≡ true → filter p (put_by key x ys) ≡ cond a (put_by key x (filter p ys)) (filter p ys)
          → cond c (y ∷ filter p (put_by key x ys)) (filter p (put_by key x ys)) ≡ cond a
          (put_by key x (cond c (y ∷ filter p ys) (filter p ys))) (cond c (y ∷ filter p ys) (filter p ys))
      low true true is later = ap (λ zs. y ∷ zs) later ∙ sym (ap (λ b. cond b (y ∷ put_by key x (filter p ys)) (x ∷ y ∷ filter p ys)) is)
      low true false is later = later
      low false true is later = ap (λ zs. y ∷ zs) later
      low false false is later = later

      high : (a c : Bool) → nat_lt (key y) (key x) ≡ false
          → cond a (x ∷ cond c (y ∷ filter p ys) (filter p ys)) (cond c (y ∷ filter p ys) (filter p ys)) ≡ cond a
          (put_by key x (cond c (y ∷ filter p ys) (filter p ys))) (cond c (y ∷ filter p ys) (filter p ys))
      high false c is = refl
      high true c is =
          let le : key x ≤ key y = not_less (key y) (key x) is in
          sym (in_front x (cond c (y ∷ filter p ys) (filter p ys))
          (elim c as (λ b. AllByRecursion (λ z. key x ≤ key z) (cond b (y ∷ filter p ys) (filter p ys))) [
            | true ↦ (le, all-filter (λ z. key x ≤ key z) p ys (from_first (key x) (key y) le ys rising.0))
            | false ↦ all-filter (λ z. key x ≤ key z) p ys (from_first (key x) (key y) le ys rising.0)
          ]))

      by_test : (b : Bool) → nat_lt (key y) (key x) ≡ b → filter p (put_by key x ys) ≡ cond (p x) (put_by key x (filter p ys)) (filter p ys)
          → filter p (cond b (y ∷ put_by key x ys) (x ∷ y ∷ ys)) ≡ cond (p x) (put_by key x (filter p (y ∷ ys))) (filter p (y ∷ ys))
      by_test true is later = low (p x) (p y) is later
      by_test false is later = high (p x) (p y) is
