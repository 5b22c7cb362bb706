-- A footer's points are the sums over the table's entries, and no segment has a greater share of
-- garbage than the best.
use Rattle.std.proofs.Common.{◌≡◌, ◌⊎◌, inl, inr, ⊎_elim, ℕ, ◌+◌, ◌*◌, ◌≤◌, ◌<◌, Bool, true, false, cond, ◌&&◌, ◌||◌}
use Rattle.std.proofs.Common.{List, [], ◌∷◌, refl, ap, sym, ◌∙◌, subst, arith}
use Rattle.std.proofs.lemmas.Bool.{and_parts, and_from, cases_lt}
use Rattle.std.proofs.lemmas.Bool.Decides.{nat_tests}
use Rattle.std.proofs.lemmas.List.Sums.{sum_by-cons}
use Rattle.std.specs.Prelude.{Option, Some, None, nat_lt, ◌==◌, if◌then◌else◌}
use Rattle.std.specs.List.{AllByRecursion}
use Rattle.std.specs.FinMap.{nat_cmp-IsAntisymmetric}
use Rattle.std.specs.Ordering.{nat_cmp}
use Rattle.std.specs.declared.cmp.Ordering.TheVariants.{Less, Equal, Greater}
use native.Mathlib.Nat.{mul_right_comm, mul-le-mul_right, mul-lt-mul_of_pos_right}
use Rattle.vl_model.specs.Entries.{by_order}
use Rattle.vl_model.specs.declared.entry.Entry.{Entry}
use Rattle.vl_model.specs.declared.entry.Body.{Body}
use Rattle.vl_model.specs.declared.entry.Body.TheVariants.{Inline, Gone, Far, Logged}
use Rattle.vl_engine_model.specs.Garbage.{far_length, far_bytes, pointed_bytes, discard, is_better, better_of, best_of}
use Rattle.vl_model.specs.Cutting.{pointed, with_point, points_of}
use Rattle.vl_engine_model.specs.declared.segment.SegmentStat.{SegmentStat}
use Rattle.vl_model.specs.declared.point.Point.{Point}

-- ---- points

module _ (segment : ℕ) where
  more : (b : Bool) (m n : ℕ) → cond b (m + n) 0 ≡ cond b n 0 + cond b m 0
  more true m n = omega arith
  more false m n = refl

  point-cons : (p : Point) (ps : List Point)
      → pointed_bytes segment (p ∷ ps) ≡ (if p.segment == segment then p.bytes else 0) + pointed_bytes segment ps
  point-cons p ps = sum_by-cons (λ (q : Point). if q.segment == segment then q.bytes else 0) p ps

  pointed_more : (to bytes : ℕ) (ps : List Point)
      → pointed_bytes segment (pointed to bytes ps) ≡ (if to == segment then bytes else 0) + pointed_bytes segment ps
  pointed_more to bytes [] = point-cons (record { segment = to; bytes = bytes }) []
  pointed_more to bytes (p ∷ ps) =
      elim (nat_cmp to p.segment) as (λ r. nat_cmp to p.segment ≡ r
      → pointed_bytes segment (by_order r (record { segment = to; bytes = bytes } ∷ p ∷ ps)
      (record { segment = p.segment; bytes = p.bytes + bytes } ∷ ps) (p ∷ pointed to bytes ps))
      ≡ (if to == segment then bytes else 0) + pointed_bytes segment (p ∷ ps)) [
        | Less ↦ λ is. point-cons (record { segment = to; bytes = bytes }) (p ∷ ps)
        | Equal ↦ λ is.
            let same : to ≡ p.segment = nat_cmp-IsAntisymmetric to p.segment is in
            let front = point-cons (record { segment = p.segment; bytes = p.bytes + bytes }) ps in
            let back = point-cons p ps in
            let both = more (p.segment == segment) p.bytes bytes in
            let here : (if to == segment then bytes else 0) ≡ (if p.segment == segment then bytes else 0) = ap
            (λ (s : ℕ). if s == segment then bytes else 0) same in
            omega (arith, front, back, both, here)
        | Greater ↦ λ is.
            let front = point-cons p (pointed to bytes ps) in
            let back = point-cons p ps in
            let later = pointed_more to bytes ps in
            omega (arith, front, back, later)
      ] refl

  with_point-sum : (body : Body) (ps : List Point)
      → pointed_bytes segment (with_point body ps) ≡ far_length segment body + pointed_bytes segment ps
  with_point-sum (Inline value) ps = omega arith
  with_point-sum Gone ps = omega arith
  with_point-sum (Far pointer) ps = pointed_more pointer.segment pointer.length ps
  with_point-sum (Logged value pointer) ps = omega arith

  -- what a footer says of a segment is the sum over the entries
  pub points_are_sums : (es : List Entry)
      → pointed_bytes segment (points_of es) ≡ far_bytes segment es
  points_are_sums [] = refl
  points_are_sums (e ∷ es) =
      with_point-sum e.body (points_of es)
      ∙ ap (λ (n : ℕ). far_length segment e.body + n) (points_are_sums es)
      ∙ sym (sum_by-cons (λ (x : Entry). far_length segment x.body) e es)

-- ---- shares

-- a share is the quotient of two numbers, of which the second isn't 0; quotients are compared by
-- products
module _ (dw bw dy by dz bz : ℕ) (positive : 0 < by) where
  across : (dz * bw) * by ≡ (dz * by) * bw
  across = mul_right_comm dz bw by

  between : (dy * bz) * bw ≡ (dy * bw) * bz
  between = mul_right_comm dy bz bw

  back : (dw * by) * bz ≡ (dw * bz) * by
  back = mul_right_comm dw by bz

  share_le : dy * bw ≤ dw * by → dz * by ≤ dy * bz → dz * bw ≤ dw * bz
  share_le first second = ⊎_elim
      (λ (less : dw * bz < dz * bw).
      let a = mul-lt-mul_of_pos_right {m = dw * bz} {n = dz * bw} {k = by} less positive in
      let b = mul-le-mul_right {m = dz * by} {n = dy * bz} bw second in
      let c = mul-le-mul_right {m = dy * bw} {n = dw * by} bz first in
      absurd (omega (arith, a, b, c, across, between, back)))
      (λ (least : dz * bw ≤ dw * bz). least)
      (cases_lt (dw * bz) (dz * bw))

  share_lt_le : 0 < bz → dy * bw < dw * by → dz * by ≤ dy * bz → dz * bw < dw * bz
  share_lt_le some first second = ⊎_elim
      (λ (less : dz * bw < dw * bz). less)
      (λ (least : dw * bz ≤ dz * bw).
      let a = mul-le-mul_right {m = dw * bz} {n = dz * bw} by least in
      let b = mul-le-mul_right {m = dz * by} {n = dy * bz} bw second in
      let c = mul-lt-mul_of_pos_right {m = dy * bw} {n = dw * by} {k = bz} first some in
      absurd (omega (arith, a, b, c, across, between, back)))
      (cases_lt (dz * bw) (dw * bz))

  share_le_lt : 0 < bw → dy * bw ≤ dw * by → dz * by < dy * bz → dz * bw < dw * bz
  share_le_lt some first second = ⊎_elim
      (λ (less : dz * bw < dw * bz). less)
      (λ (least : dw * bz ≤ dz * bw).
      let a = mul-le-mul_right {m = dw * bz} {n = dz * bw} by least in
      let b = mul-lt-mul_of_pos_right {m = dz * by} {n = dy * bz} {k = bw} second some in
      let c = mul-le-mul_right {m = dy * bw} {n = dw * by} bz first in
      absurd (omega (arith, a, b, c, across, between, back)))
      (cases_lt (dz * bw) (dw * bz))

-- what it is to have the greater share, or the same and the lesser number
abbrev IsBetter : SegmentStat → SegmentStat → Type 0
IsBetter x y = (discard y * x.bytes < discard x * y.bytes) ⊎ ((discard y * x.bytes ≡ discard x * y.bytes) × (x.segment < y.segment))

or_cases : (a b : Bool) → (a || b) ≡ true → (a ≡ true) ⊎ (b ≡ true)
or_cases true b h = inl refl
or_cases false b h = inr h

or_left : (a b : Bool) → a ≡ true → (a || b) ≡ true
or_left a b h = ap (λ c. c || b) h

or_right : (a b : Bool) → b ≡ true → (a || b) ≡ true
or_right true b h = refl
or_right false b h = h

module _ (x y : SegmentStat) where
  better_means : is_better x y ≡ true → IsBetter x y
  better_means h = ⊎_elim
      (λ (less : nat_lt (discard y * x.bytes) (discard x * y.bytes) ≡ true). inl (grind (arith, nat_tests)))
      (λ (tied : ((discard y * x.bytes == discard x * y.bytes) && nat_lt x.segment y.segment) ≡ true).
      let both = and_parts (discard y * x.bytes == discard x * y.bytes) (nat_lt x.segment y.segment) tied in
      let same : discard y * x.bytes ≡ discard x * y.bytes = grind (arith, nat_tests, both.0) in
      let less : x.segment < y.segment = grind (arith, nat_tests, both.1) in
      inr (same, less))
      (or_cases (nat_lt (discard y * x.bytes) (discard x * y.bytes))
      ((discard y * x.bytes == discard x * y.bytes) && nat_lt x.segment y.segment) h)

  means_better : IsBetter x y → is_better x y ≡ true
  means_better h = ⊎_elim
      (λ (less : discard y * x.bytes < discard x * y.bytes).
      or_left (nat_lt (discard y * x.bytes) (discard x * y.bytes))
      ((discard y * x.bytes == discard x * y.bytes) && nat_lt x.segment y.segment) (grind (arith, nat_tests)))
      (λ (tied : (discard y * x.bytes ≡ discard x * y.bytes) × (x.segment < y.segment)).
      let same : (discard y * x.bytes == discard x * y.bytes) ≡ true = let e = tied.0 in grind (arith, nat_tests) in
      let less : nat_lt x.segment y.segment ≡ true = let e = tied.1 in grind (arith, nat_tests) in
      or_right (nat_lt (discard y * x.bytes) (discard x * y.bytes))
      ((discard y * x.bytes == discard x * y.bytes) && nat_lt x.segment y.segment)
      (and_from (discard y * x.bytes == discard x * y.bytes) (nat_lt x.segment y.segment) same less))
      h

better_chain : (w y z : SegmentStat) → 0 < w.bytes → 0 < y.bytes → 0 < z.bytes → IsBetter w y
    → IsBetter y z → IsBetter w z
better_chain w y z some_w some_y some_z first second = ⊎_elim
    (λ (more : discard y * w.bytes < discard w * y.bytes). ⊎_elim
    (λ (again : discard z * y.bytes < discard y * z.bytes). inl
    (share_lt_le (discard w) w.bytes (discard y) y.bytes (discard z) z.bytes some_y some_z more (omega (arith, again))))
    (λ (tied : (discard z * y.bytes ≡ discard y * z.bytes) × (y.segment < z.segment)).
    inl (share_lt_le (discard w) w.bytes (discard y) y.bytes (discard z) z.bytes some_y some_z more (let e = tied.0 in omega arith)))
    second)
    (λ (tied : (discard y * w.bytes ≡ discard w * y.bytes) × (w.segment < y.segment)). ⊎_elim
    (λ (again : discard z * y.bytes < discard y * z.bytes). inl
    (share_le_lt (discard w) w.bytes (discard y) y.bytes (discard z) z.bytes some_y some_w (let e = tied.0 in omega arith) again))
    (λ (too : (discard z * y.bytes ≡ discard y * z.bytes) × (y.segment < z.segment)).
    let up = share_le (discard w) w.bytes (discard y) y.bytes (discard z) z.bytes some_y (let e = tied.0 in omega arith)
    (let e = too.0 in omega arith) in
    let down = share_le (discard z) z.bytes (discard y) y.bytes (discard w) w.bytes some_y
    (let e = too.0 in omega arith) (let e = tied.0 in omega arith) in
    let a = tied.1 in let b = too.1 in
    inr (omega (arith, up, down), omega (arith, a, b)))
    second)
    first

not_itself : (x : SegmentStat) → is_better x x ≡ false
not_itself x = by_test (is_better x x) refl
  where
    by_test : (b : Bool) → is_better x x ≡ b → is_better x x ≡ false
    by_test false is = is
    by_test true is = absurd (⊎_elim
        (λ (less : discard x * x.bytes < discard x * x.bytes). omega (arith, less))
        (λ (tied : (discard x * x.bytes ≡ discard x * x.bytes) × (x.segment < x.segment)). let less = tied.1 in omega (arith, less))
        (better_means x x is))

-- none of these is better, and there is something in it
abbrev IsBest : SegmentStat → List SegmentStat → Type 0
IsBest x xs = AllByRecursion (λ y. is_better y x ≡ false) xs × (0 < x.bytes)

abbrev IfBest : Option SegmentStat → List SegmentStat → Type 0
IfBest None xs = xs ≡ []
IfBest (Some x) xs = IsBest x xs

true_false : true ≡ false → ⊥
true_false is = cc

one_some : (x z : SegmentStat) → Some x ≡ Some z → x ≡ z
one_some x z is = cc

not_none : (x : SegmentStat) (o : Option SegmentStat) → better_of x o ≡ None → ⊥
not_none x None is = cc
not_none x (Some y) is = by_test (is_better x y) is
  where
    by_test : (b : Bool) → (if b then Some x else Some y) ≡ None → ⊥
    by_test true is = cc
    by_test false is = cc

-- where this one is better than the best of the others, none of the others is better than this one
none_better : (x z : SegmentStat) (ys : List SegmentStat) → 0 < x.bytes → 0 < z.bytes
    → is_better x z ≡ true → AllByRecursion (λ y. 0 < y.bytes) ys
    → AllByRecursion (λ y. is_better y z ≡ false) ys
    → AllByRecursion (λ y. is_better y x ≡ false) ys
none_better x z [] some_x some_z better some all = tt
none_better x z (y ∷ ys) some_x some_z better some
    all = (by_test (is_better y x) refl, none_better x z ys some_x some_z better some.1 all.1)
  where
    by_test : (b : Bool) → is_better y x ≡ b → is_better y x ≡ false
    by_test false is = is
    by_test true is = absurd
        (true_false (sym (means_better y z
        (better_chain y x z some.0 some_x some_z (better_means y x is) (better_means x z better))) ∙ all.0))

best_more : (x : SegmentStat) (ys : List SegmentStat) (o : Option SegmentStat) → 0 < x.bytes
    → AllByRecursion (λ y. 0 < y.bytes) ys → IfBest o ys → (z : SegmentStat)
    → better_of x o ≡ Some z → IsBest z (x ∷ ys)
best_more x ys None some_x some none z is =
    let same : x ≡ z = one_some x z is in
    subst (λ (y : SegmentStat). IsBest y (x ∷ ys)) same
    ((not_itself x, subst (AllByRecursion (λ y. is_better y x ≡ false)) (sym none) tt), some_x)
best_more x ys (Some y) some_x some best z is_z = by_test (is_better x y) refl is_z
  where
    by_test : (b : Bool) → is_better x y ≡ b → (if b then Some x else Some y) ≡ Some z
        → IsBest z (x ∷ ys)
    by_test true better is =
        subst (λ (u : SegmentStat). IsBest u (x ∷ ys)) (one_some x z is)
        ((not_itself x, none_better x y ys some_x best.1 better some best.0), some_x)
    by_test false worse is = subst (λ (u : SegmentStat). IsBest u (x ∷ ys)) (one_some y z is) ((worse, best.0), best.1)

best_is : (xs : List SegmentStat) → AllByRecursion (λ x. 0 < x.bytes) xs → IfBest (best_of xs) xs
best_is [] some = refl
best_is (x ∷ xs) some = by_answer (best_is xs some.1) (better_of x (best_of xs)) refl
  where
    nothing : better_of x (best_of xs) ≡ None → x ∷ xs ≡ []
    nothing is = absurd (not_none x (best_of xs) is)

    by_answer : IfBest (best_of xs) xs → (o : Option SegmentStat) → better_of x (best_of xs) ≡ o
        → IfBest o (x ∷ xs)
    by_answer others None is = nothing is
    by_answer others (Some z) is = best_more x xs (best_of xs) some.0 some.1 others z is

-- Of segments in which there is something no other has a greater share of garbage than the best, or
-- the same and a lesser number.
pub best_is_greatest : (xs : List SegmentStat) (x : SegmentStat)
    → AllByRecursion (λ y. 0 < y.bytes) xs → best_of xs ≡ Some x
    → AllByRecursion (λ y. is_better y x ≡ false) xs
best_is_greatest xs x some is = (subst (λ o. IfBest o xs) is (best_is xs some)).0
