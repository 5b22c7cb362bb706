-- The numbers of all known versions rise, and tell what stands at a number.
use Rattle.std.specs.Prelude.{◌≡◌, ◌<◌, ◌≤◌, ℕ, zero, suc, ◌+◌, ◌-◌, ◌&&◌, T, min, Bool, true, false, nat_le, nat_lt}
use Rattle.std.specs.Prelude.{◌==◌, List, [], ◌∷◌, ◌++◌, map, take, is_some, Option, None, Some, refl}
use Rattle.std.specs.FinMap.{entries, entries-from_sorted, entries_sorted, get}
use Rattle.std.specs.FinMap.Entries.{below_all, is_sorted}
use Rattle.std.specs.List.{AllByRecursion, filter}
use Rattle.std.specs.Ordering.{is_lt, nat_cmp}
use Rattle.std.proofs.Common.{sym, ap, subst, ◌∙◌, cond, append-nil, arith}
use Rattle.std.proofs.lemmas.Bool.Decides.{nat_tests}
use Rattle.std.proofs.lemmas.List.Elements.{filter-append}
use Rattle.std.proofs.lemmas.List.{map-append}
use Rattle.vl_model.specs.History.{History, commits_up_to, known_up_to, last_change, newer, value_at, value_left}
use Rattle.vl_model.specs.Keys.{Stored, Writes}
use Rattle.vl_model.specs.Numbers.{at_least, greater, greatest_below, low_of, next_below, nth_below}
use Rattle.vl_model.specs.Versions.{Numbered, all_numbered, low, naming, numbered, versions}
use Rattle.vl_model.specs.declared.change.Change.{Change}
use Rattle.vl_model.specs.laws.HistoryLaws.{value_left-newer}
use Rattle.vl_model.specs.laws.NumberLaws.{IsFound, greatest-found}

abbrev pub is_up_to : ℕ → Numbered → Bool
is_up_to m c = nat_le c.0 m

-- the commits up to a number
abbrev pub up_to : ℕ → List Numbered → List Numbered
up_to m cs = filter (is_up_to m) cs

abbrev pub writes_of : Numbered → Writes
writes_of c = c.1

-- one more, where it is kept
abbrev pub if_kept : {A : Type 0} → Bool → A → List A → List A
if_kept kept x xs = cond kept (x ∷ xs) xs

-- ---- tests of numbers

up_to_both : (m n : ℕ) (cs : List Numbered) → up_to n (up_to m cs) ≡ up_to (min n m) cs
up_to_both m n [] = refl
up_to_both m n (c ∷ cs) = by (nat_le c.0 m) (nat_le c.0 n) refl refl (up_to_both m n cs)
  where
    by : (a b : Bool) → nat_le c.0 m ≡ a → nat_le c.0 n ≡ b → up_to n (up_to m cs) ≡ up_to (min n m) cs
        → up_to n (if_kept a c (up_to m cs)) ≡ up_to (min n m) (c ∷ cs)
    by true true low lower later =
        let both : nat_le c.0 (min n m) ≡ true = grind (arith, nat_tests, low, lower) in
        ap (λ (t : Bool). if_kept t c (up_to n (up_to m cs))) lower
        ∙ ap (λ (ds : List Numbered). c ∷ ds) later
        ∙ sym (ap (λ (t : Bool). if_kept t c (up_to (min n m) cs)) both)
    by true false low above later =
        let no : nat_le c.0 (min n m) ≡ false = grind (arith, nat_tests, low, above) in
        ap (λ (t : Bool). if_kept t c (up_to n (up_to m cs))) above
        ∙ later
        ∙ sym (ap (λ (t : Bool). if_kept t c (up_to (min n m) cs)) no)
    by false b above is later =
        let no : nat_le c.0 (min n m) ≡ false = grind (arith, nat_tests, above) in
        later ∙ sym (ap (λ (t : Bool). if_kept t c (up_to (min n m) cs)) no)

-- what is up to a number is up to a greater one
up_to_twice : (m n : ℕ) → n ≤ m → (cs : List Numbered) → up_to n (up_to m cs) ≡ up_to n cs
up_to_twice m n le cs =
    let least : min n m ≡ n = omega (arith, le) in
    up_to_both m n cs ∙ ap (λ (k : ℕ). up_to k cs) least

-- of commits from a number on those up to another are the first of them
writes-up_to : (m k : ℕ) (ws : List Writes) → map writes_of (up_to m (numbered k ws)) ≡ take (m + 1 - k) ws
writes-up_to m k [] = none_taken (m + 1 - k)
  where
    none_taken : (n : ℕ) → [] ≡ take {A = Writes} n []
    none_taken zero = refl
    none_taken (suc n) = refl
writes-up_to m k (w ∷ ws) = by (nat_le k m) refl (writes-up_to m (k + 1) ws)
  where
    by : (b : Bool) → nat_le k m ≡ b → map writes_of (up_to m (numbered (k + 1) ws)) ≡ take (m + 1 - (k + 1)) ws
        → map writes_of (if_kept b (k, w) (up_to m (numbered (k + 1) ws))) ≡ take (m + 1 - k) (w ∷ ws)
    by true is later =
        let low : k ≤ m = grind (arith, nat_tests, is) in
        let more : m + 1 - k ≡ suc (m + 1 - (k + 1)) = omega (arith, low) in
        ap (λ (vs : List Writes). w ∷ vs) later ∙ sym (ap (λ (n : ℕ). take n (w ∷ ws)) more)
    by false is later =
        let high : m + 1 ≤ k = grind (arith, nat_tests, is) in
        let none : m + 1 - (k + 1) ≡ 0 = omega (arith, high) in
        let none_too : m + 1 - k ≡ 0 = omega (arith, high) in
        later ∙ ap (λ (n : ℕ). take n ws) none ∙ sym (ap (λ (n : ℕ). take n (w ∷ ws)) none_too)

-- ---- what stands at a number

pub change-append : (key : List ℕ) (xs ys : List Writes)
    → last_change (xs ++ ys) key ≡ newer (last_change xs key) (last_change ys key)
change-append key [] ys = nothing (last_change ys key)
  where
    nothing : (o : Option Change) → o ≡ newer None o
    nothing None = refl
    nothing (Some c) = refl
change-append key (x ∷ xs) ys =
    ap (newer (get x key)) (change-append key xs ys) ∙ three (get x key) (last_change xs key) (last_change ys key)
  where
    three : (a b c : Option Change) → newer a (newer b c) ≡ newer (newer a b) c
    three a b None = refl
    three a b (Some c) = refl

-- what these writes, one after the other, leave of a key
abbrev pub left_by : List Writes → List ℕ → Option Stored
left_by ws key = value_left None (last_change ws key)

-- by all that is known up to the number
unfoldable pub known_value : List Numbered → ℕ → List ℕ → Option Stored
known_value cs n key = left_by (map writes_of (up_to n cs)) key

pub value_at-known : (h : History) (n : ℕ) (key : List ℕ) → value_at h n key ≡ known_value (all_numbered h) n key
unfolding known_value
value_at-known h n key =
    let base : List Numbered = up_to h.first (entries h.base) in
    let later : List Numbered = numbered (h.first + 1) h.commits in
    let before : List Writes = known_up_to (min n h.first) h.base in
    let same : n - h.first ≡ n + 1 - (h.first + 1) = omega arith in
    value_left-newer None (last_change before key) (last_change (commits_up_to h n) key)
    ∙ ap (value_left None) (sym (change-append key before (commits_up_to h n)))
    ∙ ap (λ (ws : List Writes). left_by (before ++ ws) key)
    (ap (λ (k : ℕ). take k h.commits) same ∙ sym (writes-up_to n (h.first + 1) h.commits))
    ∙ ap (λ (cs : List Numbered). left_by (map writes_of cs ++ map writes_of (up_to n later)) key)
    (sym (up_to_both h.first n (entries h.base)))
    ∙ ap (λ (ws : List Writes). left_by ws key) (sym (map-append writes_of (up_to n base) (up_to n later)))
    ∙ ap (λ (cs : List Numbered). left_by (map writes_of cs) key) (sym (filter-append (is_up_to n) base later))

-- ---- numbers rise

both_parts : (a b : Bool) → T a → T b → T (a && b)
both_parts true b p q = q
both_parts false b p q = absurd p

pub first_part : (a b : Bool) → T (a && b) → T a
first_part true b p = tt
first_part false b p = absurd p

pub second_part : (a b : Bool) → T (a && b) → T b
second_part true b p = p
second_part false b p = absurd p

-- all are above a number
abbrev pub IsBelow : ℕ → List Numbered → Type 0
IsBelow k cs = T (below_all nat_cmp k cs)

abbrev pub AreSorted : List Numbered → Type 0
AreSorted cs = T (is_sorted nat_cmp cs)

module _ (c : Numbered) (cs : List Numbered) where
  pub is_below_first : (k : ℕ) → IsBelow k (c ∷ cs) → T (is_lt (nat_cmp k c.0))
  is_below_first k below = first_part (is_lt (nat_cmp k c.0)) (below_all nat_cmp k cs) below

  pub is_below_rest : (k : ℕ) → IsBelow k (c ∷ cs) → IsBelow k cs
  is_below_rest k below = second_part (is_lt (nat_cmp k c.0)) (below_all nat_cmp k cs) below

  pub is_below_all : (k : ℕ) → T (is_lt (nat_cmp k c.0)) → IsBelow k cs → IsBelow k (c ∷ cs)
  is_below_all k first rest = both_parts (is_lt (nat_cmp k c.0)) (below_all nat_cmp k cs) first rest

  pub first_below : AreSorted (c ∷ cs) → IsBelow c.0 cs
  first_below sorted = first_part (below_all nat_cmp c.0 cs) (is_sorted nat_cmp cs) sorted

  pub rest_sorted : AreSorted (c ∷ cs) → AreSorted cs
  rest_sorted sorted = second_part (below_all nat_cmp c.0 cs) (is_sorted nat_cmp cs) sorted

  pub are_sorted : IsBelow c.0 cs → AreSorted cs → AreSorted (c ∷ cs)
  are_sorted below sorted = both_parts (below_all nat_cmp c.0 cs) (is_sorted nat_cmp cs) below sorted

below_filtered : (k m : ℕ) (cs : List Numbered) → IsBelow k cs → IsBelow k (up_to m cs)
below_filtered k m [] below = tt
below_filtered k m (c ∷ cs) below =
    by (nat_le c.0 m) (is_below_first c cs k below) (below_filtered k m cs (is_below_rest c cs k below))
  where
    by : (b : Bool) → T (is_lt (nat_cmp k c.0)) → IsBelow k (up_to m cs) → IsBelow k (if_kept b c (up_to m cs))
    by true first later = is_below_all c (up_to m cs) k first later
    by false first later = later

sorted_filtered : (m : ℕ) (cs : List Numbered) → AreSorted cs → AreSorted (up_to m cs)
sorted_filtered m [] sorted = tt
sorted_filtered m (c ∷ cs) sorted =
    by (nat_le c.0 m) (below_filtered c.0 m cs (first_below c cs sorted)) (sorted_filtered m cs (rest_sorted c cs sorted))
  where
    by : (b : Bool) → IsBelow c.0 (up_to m cs) → AreSorted (up_to m cs) → AreSorted (if_kept b c (up_to m cs))
    by true below later = are_sorted c (up_to m cs) below later
    by false below later = later

pub less_is : (k n : ℕ) → k < n → T (is_lt (nat_cmp k n))
less_is k n less = subst T (sym is) tt
  where
    is : is_lt (nat_cmp k n) ≡ true
    is = grind (arith, nat_tests, less)

below_numbered : (j k : ℕ) (ws : List Writes) → j < k → IsBelow j (numbered k ws)
below_numbered j k [] less = tt
below_numbered j k (w ∷ ws) less =
    is_below_all (k, w) (numbered (k + 1) ws) j (less_is j k less) (below_numbered j (k + 1) ws (omega (arith, less)))

sorted_numbered : (k : ℕ) (ws : List Writes) → AreSorted (numbered k ws)
sorted_numbered k [] = tt
sorted_numbered k (w ∷ ws) =
    are_sorted (k, w) (numbered (k + 1) ws) (below_numbered k (k + 1) ws (omega arith)) (sorted_numbered (k + 1) ws)

below-append : (k : ℕ) (xs ys : List Numbered) → IsBelow k xs → IsBelow k ys → IsBelow k (xs ++ ys)
below-append k [] ys below rest = rest
below-append k (x ∷ xs) ys below rest =
    is_below_all x (xs ++ ys) k (is_below_first x xs k below) (below-append k xs ys (is_below_rest x xs k below) rest)

sorted-append : (m : ℕ) (xs ys : List Numbered) → AllByRecursion (λ (c : Numbered). c.0 ≤ m) xs
    → ((k : ℕ) → k ≤ m → IsBelow k ys) → AreSorted xs → AreSorted ys → AreSorted (xs ++ ys)
sorted-append m [] ys up above sorted rest = rest
sorted-append m (x ∷ xs) ys up above sorted rest =
    are_sorted x (xs ++ ys) (below-append x.0 xs ys (first_below x xs sorted) (above x.0 up.0))
    (sorted-append m xs ys up.1 above (rest_sorted x xs sorted) rest)

filtered_up : (m : ℕ) (cs : List Numbered) → AllByRecursion (λ (c : Numbered). c.0 ≤ m) (up_to m cs)
filtered_up m [] = tt
filtered_up m (c ∷ cs) = by (nat_le c.0 m) refl (filtered_up m cs)
  where
    by : (b : Bool) → nat_le c.0 m ≡ b → AllByRecursion (λ (d : Numbered). d.0 ≤ m) (up_to m cs)
        → AllByRecursion (λ (d : Numbered). d.0 ≤ m) (if_kept b c (up_to m cs))
    by true is later = ((let low : c.0 ≤ m = grind (arith, nat_tests, is) in low), later)
    by false is later = later

pub numbers_rise : (h : History) → AreSorted (all_numbered h)
numbers_rise h =
    sorted-append h.first (up_to h.first (entries h.base)) (numbered (h.first + 1) h.commits)
    (filtered_up h.first (entries h.base)) (λ k le. below_numbered k (h.first + 1) h.commits (omega (arith, le)))
    (sorted_filtered h.first (entries h.base) (entries_sorted h.base)) (sorted_numbered (h.first + 1) h.commits)
