-- Laws of the greatest numbers below a bound, and of the least number that can be read.
use Rattle.std.proofs.Common.{◌≡◌, ⊎_elim, ℕ, zero, suc, ◌+◌, ◌≤◌, ◌<◌, Bool, true, false, cond, ◌||◌, List, [], ◌∷◌}
use Rattle.std.proofs.Common.{refl, ap, sym, ◌∙◌, subst, arith}
use Rattle.std.proofs.lemmas.Bool.{cases_lt}
use Rattle.std.proofs.lemmas.Bool.Decides.{nat_tests}
use Rattle.std.specs.Prelude.{min, max, Option, Some, None, nat_le, nat_lt, ◌==◌}
use Rattle.vl_model.specs.Numbers.{has, greater, greatest_below, next_below, nth_below, at_least, low_of, since_kept, AreAmong}

abbrev pub Reaches : ℕ → Option ℕ → Type 0
Reaches m None = ⊥
Reaches m (Some n) = m ≤ n

abbrev pub IsFound : ℕ → List ℕ → Option ℕ → Type 0
IsFound bound numbers None = Unit {0}
IsFound bound numbers (Some n) = (n < bound) × (has n numbers ≡ true)

has_first : (n : ℕ) (ns : List ℕ) → has n (n ∷ ns) ≡ true
has_first n ns = let same : (n == n) ≡ true = grind (arith, nat_tests) in ap (λ b. b || has n ns) same

has_later : (m n : ℕ) (ns : List ℕ) → has n ns ≡ true → has n (m ∷ ns) ≡ true
has_later m n ns there = elim (m == n) as (λ b. (b || has n ns) ≡ true) [ true ↦ refl | false ↦ there ]

found_later : (bound m : ℕ) (ns : List ℕ) (o : Option ℕ) → IsFound bound ns o → IsFound bound (m ∷ ns) o
found_later bound m ns None found = found
found_later bound m ns (Some n) found = (found.0, has_later m n ns found.1)

either_found : (bound : ℕ) (ns : List ℕ) (a b : Option ℕ) → IsFound bound ns a → IsFound bound ns b → IsFound bound ns (greater a b)
either_found bound ns None b p q = q
either_found bound ns (Some m) None p q = p
either_found bound ns (Some m) (Some n) p q = elim (nat_le n m) as (λ t. IsFound bound ns (cond t (Some m) (Some n)))
    [ true ↦ p | false ↦ q ]

pub greatest-found : (bound : ℕ) (ns : List ℕ) → IsFound bound ns (greatest_below bound ns)
greatest-found bound [] = tt
greatest-found bound (n ∷ ns) =
    either_found bound (n ∷ ns) (cond (nat_lt n bound) (Some n) None) (greatest_below bound ns)
    (first (nat_lt n bound) refl) (found_later bound n ns (greatest_below bound ns) (greatest-found bound ns))
  where
    first : (b : Bool) → nat_lt n bound ≡ b → IsFound bound (n ∷ ns) (cond b (Some n) None)
    first true is = ((let less : n < bound = grind (arith, nat_tests) in less), has_first n ns)
    first false is = tt

reaches_left : (m : ℕ) (a b : Option ℕ) → Reaches m a → Reaches m (greater a b)
reaches_left m None b r = absurd r
reaches_left m (Some k) None r = r
reaches_left m (Some k) (Some n) r = elim (nat_le n k) as (λ t. nat_le n k ≡ t → Reaches m (cond t (Some k) (Some n)))
    [ true ↦ λ is. r | false ↦ λ is. let less : m ≤ n = grind (arith, nat_tests) in less ] refl

reaches_right : (m : ℕ) (a b : Option ℕ) → Reaches m b → Reaches m (greater a b)
reaches_right m None b r = r
reaches_right m (Some k) None r = absurd r
reaches_right m (Some k) (Some n) r = elim (nat_le n k) as (λ t. nat_le n k ≡ t → Reaches m (cond t (Some k) (Some n)))
    [ true ↦ λ is. let less : m ≤ k = grind (arith, nat_tests) in less | false ↦ λ is. r ] refl

pub greatest-reaches : (m bound : ℕ) (ns : List ℕ) → has m ns ≡ true → m < bound → Reaches m (greatest_below bound ns)
greatest-reaches m bound [] there less = absurd cc
greatest-reaches m bound (n ∷ ns) there less = by_test (n == m) refl
    (λ later. reaches_right m (cond (nat_lt n bound) (Some n) None) (greatest_below bound ns) (greatest-reaches m bound ns later less))
  where
    by_test : (b : Bool) → (n == m) ≡ b → (has m ns ≡ true → Reaches m (greatest_below bound (n ∷ ns)))
        → Reaches m (greatest_below bound (n ∷ ns))
    by_test true is later =
        let same : n ≡ m = grind (arith, nat_tests) in
        let below : nat_lt n bound ≡ true = grind (arith, nat_tests) in
        reaches_left m (cond (nat_lt n bound) (Some n) None) (greatest_below bound ns)
        (subst (λ b. Reaches m (cond b (Some n) None)) (sym below) (omega (arith, same)))
    by_test false is later = later (sym (ap (λ b. b || has m ns) is) ∙ there)

-- ---- the v-th greatest

-- at least this, where the first is there
abbrev pub AreRisen : Option ℕ → Option ℕ → Type 0
AreRisen None o = Unit {0}
AreRisen (Some m) o = Reaches m o

next-risen : (ns ns' : List ℕ) → AreAmong ns ns' → (a b : Option ℕ) → AreRisen a b → AreRisen (next_below ns a) (next_below ns' b)
next-risen ns ns' among None b r = tt
next-risen ns ns' among (Some m) None r = absurd r
next-risen ns ns' among (Some m) (Some n) r = by_found (greatest_below m ns) (greatest-found m ns)
  where
    by_found : (o : Option ℕ) → IsFound m ns o → AreRisen o (greatest_below n ns')
    by_found None found = tt
    by_found (Some w) found = let less = found.0 in greatest-reaches w n ns' (among w found.1) (omega (arith, less, r))

-- among more numbers and below a greater bound it is the greater
pub nth-risen : (ns ns' : List ℕ) → AreAmong ns ns' → (bound bound' v : ℕ) → bound ≤ bound'
    → AreRisen (nth_below ns bound v) (nth_below ns' bound' v)
nth-risen ns ns' among bound bound' zero le = le
nth-risen ns ns' among bound bound' (suc v) le = next-risen ns ns' among (nth_below ns bound v) (nth_below ns' bound' v)
    (nth-risen ns ns' among bound bound' v le)

next-less : (ns : List ℕ) (o : Option ℕ) → AreRisen (next_below ns o) o
next-less ns None = tt
next-less ns (Some m) = by_found (greatest_below m ns) (greatest-found m ns)
  where
    by_found : (o : Option ℕ) → IsFound m ns o → AreRisen o (Some m)
    by_found None found = tt
    by_found (Some w) found = let less = found.0 in omega (arith, less)

risen_then : (a b c : Option ℕ) → AreRisen a b → AreRisen b c → AreRisen a c
risen_then None b c p q = tt
risen_then (Some m) None c p q = absurd p
risen_then (Some m) (Some n) None p q = absurd q
risen_then (Some m) (Some n) (Some k) p q = omega (arith, p, q)

pub risen_itself : (o : Option ℕ) → AreRisen o o
risen_itself None = tt
risen_itself (Some m) = omega arith

-- where fewer are counted it is the greater
pub nth-fewer_than : (ns : List ℕ) (bound v w : ℕ) → v ≤ w → AreRisen (nth_below ns bound w) (nth_below ns bound v)
nth-fewer_than ns bound v zero le =
    let same : 0 ≡ v = omega (arith, le) in
    subst (λ (k : ℕ). AreRisen (nth_below ns bound 0) (nth_below ns bound k)) same (risen_itself (nth_below ns bound 0))
nth-fewer_than ns bound v (suc w) le = ⊎_elim
    (λ (less : v < suc w). risen_then (nth_below ns bound (suc w)) (nth_below ns bound w) (nth_below ns bound v)
    (next-less ns (nth_below ns bound w)) (nth-fewer_than ns bound v w (omega (arith, less))))
    (λ (all : suc w ≤ v).
    let same : suc w ≡ v = omega (arith, le, all) in
    subst (λ (k : ℕ). AreRisen (nth_below ns bound (suc w)) (nth_below ns bound k)) same (risen_itself (nth_below ns bound (suc w))))
    (cases_lt v (suc w))

at_least-risen : (since : ℕ) (a b : Option ℕ) → AreRisen a b → at_least since a ≤ at_least since b
at_least-risen since None None r = omega arith
at_least-risen since None (Some n) r = omega arith
at_least-risen since (Some m) None r = absurd r
at_least-risen since (Some m) (Some n) r = omega (arith, r)

-- ---- the least number that can be read

-- it is never above the floor
pub low-floor : (ns : List ℕ) (floor keep since : ℕ) → low_of ns floor keep since ≤ floor
low-floor ns floor keep since = elim (keep == 1) as
    (λ b. cond b floor (min floor (at_least since (nth_below ns (floor + 1) keep))) ≤ floor) [ true ↦ omega arith | false ↦ omega arith ]

-- it rises with the floor, and with more versions
pub low-rises : (ns ns' : List ℕ) → AreAmong ns ns' → (floor floor' keep since : ℕ) → floor ≤ floor'
    → low_of ns floor keep since ≤ low_of ns' floor' keep since
low-rises ns ns' among floor floor' keep since le =
    let risen = at_least-risen since (nth_below ns (floor + 1) keep) (nth_below ns' (floor' + 1) keep)
    (nth-risen ns ns' among (floor + 1) (floor' + 1) keep (omega (arith, le))) in
    elim (keep == 1) as (λ b. cond b floor (min floor (at_least since (nth_below ns (floor + 1) keep))) ≤ cond b floor'
    (min floor' (at_least since (nth_below ns' (floor' + 1) keep)))) [
      | true ↦ le
      | false ↦ omega (arith, le, risen)
    ]

-- a change of v leaves nothing below it to be read that couldn't be read before, where the floor is at most the last number
pub low-kept : (ns : List ℕ) (floor last keep since v : ℕ) → floor ≤ last
    → low_of ns floor keep since ≤ low_of ns floor v (since_kept last keep since v)
low-kept ns floor last keep since v le = by_less (nat_lt keep v) refl
  where
    old : ℕ
    old = low_of ns floor keep since

    up : low_of ns floor keep since ≤ floor
    up = low-floor ns floor keep since

    raised : (o : Option ℕ) → floor ≤ min floor (at_least last o)
    raised None = omega (arith, le)
    raised (Some n) = omega (arith, le)

    by_less : (b : Bool) → nat_lt keep v ≡ b → low_of ns floor keep since ≤ low_of ns floor v (cond b last since)
    by_less true is =
        let up' = up in
        let all = raised (nth_below ns (floor + 1) v) in
        elim (v == 1) as (λ b. low_of ns floor keep since ≤ cond b floor
        (min floor (at_least last (nth_below ns (floor + 1) v)))) [ true ↦ up' | false ↦ omega (arith, up', all) ]
    by_less false is = by_one (v == 1) refl
      where
        by_one : (b : Bool) → (v == 1) ≡ b
            → low_of ns floor keep since ≤ cond b floor (min floor (at_least since (nth_below ns (floor + 1) v)))
        by_one true one = up
        by_one false one = by_zero v refl (keep == 1) refl
          where
            by_zero : (w : ℕ) → v ≡ w → (c : Bool) → (keep == 1) ≡ c
                → cond c floor (min floor (at_least since (nth_below ns (floor + 1) keep))) ≤ min floor
                (at_least since (nth_below ns (floor + 1) v))
            by_zero zero none true both = subst
                (λ (k : ℕ). floor ≤ min floor (at_least since (nth_below ns (floor + 1) k))) (sym none)
                (let more : floor ≤ max since (floor + 1) = omega arith in omega (arith, more))
            by_zero (suc w) none true both = absurd (grind (arith, nat_tests, is, one, none, both))
            by_zero w none false both =
                let fewer : v ≤ keep = grind (arith, nat_tests) in
                let risen = at_least-risen since (nth_below ns (floor + 1) keep) (nth_below ns (floor + 1) v)
                (nth-fewer_than ns (floor + 1) v keep fewer) in
                omega (arith, risen)
