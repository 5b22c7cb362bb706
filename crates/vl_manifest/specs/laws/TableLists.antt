-- What the definitions of a store's tables say: each table stands once, whatever is put in and taken out.
use Rattle.std.specs.Prelude.{◌≡◌, ◌==◌, ◌≤◌, ℕ, Bool, true, false, ◌||◌, nat_le, if◌then◌else◌, List, [], ◌∷◌, ◌++◌}
use Rattle.std.specs.Prelude.{length, take, drop, map, zero, suc, Option, None, Some, refl}
use Rattle.std.specs.List.{AllByRecursion, filter, insert}
use Rattle.std.specs.Option.{option_map}
use Rattle.std.proofs.Common.{sym, ap, ◌∙◌, arith, append_assoc, append-nil}
use Rattle.std.proofs.lemmas.Bool.{le-leb}
use Rattle.std.proofs.lemmas.Bool.Decides.{nat_tests}
use Rattle.std.proofs.lemmas.List.{take-append-drop, take_at, drop_at}
use Rattle.std.proofs.lemmas.List.Elements.{filter-append}
use Rattle.vl_manifest.specs.Levels.{all_tables, is_in, is_other, put_at, put_in, taken_out}

-- ---- one table more

pub put_in-end : (ts : List ℕ) (table : ℕ) → put_in (length ts) table ts ≡ Some (ts ++ table ∷ [])
put_in-end ts table =
    let fits : nat_le (length ts) (length ts) ≡ true = le-leb (length ts) (length ts) (omega arith) in
    let front : take (length ts) ts ≡ ts = ap (take (length ts)) (sym (append-nil ts)) ∙ take_at ts [] (length ts) refl in
    let back : drop (length ts) ts ≡ [] = ap (drop (length ts)) (sym (append-nil ts)) ∙ drop_at ts [] (length ts) refl in
    ap (λ (b : Bool). if b then Some (insert ts (length ts) table) else None) fits
    ∙ ap (λ (l : List ℕ). Some (l ++ table ∷ drop (length ts) ts)) front
    ∙ ap (λ (l : List ℕ). Some (ts ++ table ∷ l)) back

pub put_at-end : (front : List (List ℕ)) (ts : List ℕ) (back : List (List ℕ)) (table : ℕ)
    → put_at (length front) (length ts) table (front ++ ts ∷ back) ≡ Some (front ++ (ts ++ table ∷ []) ∷ back)
put_at-end [] ts back table = ap (option_map (λ (l : List ℕ). l ∷ back)) (put_in-end ts table)
put_at-end (f ∷ front) ts back table =
    ap (option_map (λ (l : List (List ℕ)). f ∷ l)) (put_at-end front ts back table)

pub all_tables-append : (xs ys : List (List ℕ)) → all_tables (xs ++ ys) ≡ all_tables xs ++ all_tables ys
all_tables-append [] ys = refl
all_tables-append (x ∷ xs) ys =
    ap (λ (l : List ℕ). x ++ l) (all_tables-append xs ys) ∙ sym (append_assoc x (all_tables xs) (all_tables ys))

-- levels without tables
abbrev pub blank : List (List ℕ) → List (List ℕ)
blank levels = map (λ (l : List ℕ). []) levels

pub all_tables-blank : (levels : List (List ℕ)) → all_tables (blank levels) ≡ []
all_tables-blank [] = refl
all_tables-blank (l ∷ levels) = all_tables-blank levels

-- ---- each once

-- none of these stands again behind itself
abbrev pub AreOnce : List ℕ → Type 0
AreOnce [] = Unit {0}
AreOnce (t ∷ ts) = (is_in t ts ≡ false) × AreOnce ts

none_either : (a b : Bool) → (a || b) ≡ false → (a ≡ false) × (b ≡ false)
none_either true b e = absurd (let no : true ≡ false = e in cc)
none_either false b e = (refl, e)

none_both : (a b : Bool) → a ≡ false → b ≡ false → (a || b) ≡ false
none_both a b p q = ap (λ (x : Bool). x || b) p ∙ q

turned : (a b : ℕ) → (a == b) ≡ false → (b == a) ≡ false
turned a b e = grind (arith, nat_tests)

pub is_in-append : (t : ℕ) (xs ys : List ℕ) → is_in t xs ≡ false → is_in t ys ≡ false → is_in t (xs ++ ys) ≡ false
is_in-append t [] ys none here = here
is_in-append t (x ∷ xs) ys none here =
    let parts = none_either (x == t) (is_in t xs) none in
    none_both (x == t) (is_in t (xs ++ ys)) parts.0 (is_in-append t xs ys parts.1 here)

pub is_in-parts : (t : ℕ) (xs ys : List ℕ) → is_in t (xs ++ ys) ≡ false → (is_in t xs ≡ false) × (is_in t ys ≡ false)
is_in-parts t [] ys none = (refl, none)
is_in-parts t (x ∷ xs) ys none =
    let parts = none_either (x == t) (is_in t (xs ++ ys)) none in
    let rest = is_in-parts t xs ys parts.1 in
    (none_both (x == t) (is_in t xs) parts.0 rest.0, rest.1)

-- one that stands behind others isn't among them
pub once_behind : (xs : List ℕ) (t : ℕ) (ys : List ℕ) → AreOnce (xs ++ t ∷ ys) → is_in t xs ≡ false
once_behind [] t ys once = refl
once_behind (x ∷ xs) t ys once =
    let behind = is_in-parts x xs (t ∷ ys) once.0 in
    let other = none_either (t == x) (is_in x ys) behind.1 in
    none_both (x == t) (is_in t xs) (turned t x other.0) (once_behind xs t ys once.1)

-- one more that isn't among them
pub once_more : (xs : List ℕ) (t : ℕ) (ys : List ℕ) → AreOnce (xs ++ ys) → is_in t (xs ++ ys) ≡ false → AreOnce (xs ++ t ∷ ys)
once_more [] t ys once new = (new, once)
once_more (x ∷ xs) t ys once new =
    let apart = none_either (x == t) (is_in t (xs ++ ys)) new in
    let parts = is_in-parts x xs ys once.0 in (
      is_in-append x xs (t ∷ ys) parts.0 (none_both (t == x) (is_in x ys) (turned x t apart.0) parts.1),
      once_more xs t ys once.1 apart.1,
    )

-- ---- a table that is put in

-- the tables are as before, but that this one stands among them
pub record IsPut (table : ℕ) (before after : List (List ℕ)) : Type 0 where
  pub same_count : length after ≡ length before
  pub front : List ℕ
  pub back : List ℕ
  pub were : all_tables before ≡ front ++ back
  pub are : all_tables after ≡ front ++ table ∷ back

some_same : {X : Type 0} (a b : X) → Some a ≡ Some b → a ≡ b
some_same a b e = cc

none_some : {X : Type 0} (a : X) → None ≡ Some a → ⊥
none_some a e = cc

put_in_parts : (position table : ℕ) (ts put : List ℕ) → put_in position table ts ≡ Some put
    → put ≡ take position ts ++ table ∷ drop position ts
put_in_parts position table ts put is = by (nat_le position (length ts)) is
  where
    by : (b : Bool) → (if b then Some (insert ts position table) else None) ≡ Some put
        → put ≡ take position ts ++ table ∷ drop position ts
    by true e = sym (some_same (insert ts position table) put e)
    by false e = absurd (none_some put e)

mapped : {X Y : Type 0} (f : X → Y) (o : Option X) (y : Y) → option_map f o ≡ Some y → (x : X) × (o ≡ Some x) × (f x ≡ y)
mapped f None y e = absurd (none_some y e)
mapped f (Some x) y e = (x, refl, some_same (f x) y e)

pub put_is : (level position table : ℕ) (before after : List (List ℕ)) → put_at level position table before ≡ Some after
    → IsPut table before after
put_is level position table [] after is = absurd (none_some after is)
put_is zero position table (ts ∷ levels) after is =
    let m = mapped (λ (put : List ℕ). put ∷ levels) (put_in position table ts) after is in
    let parts = put_in_parts position table ts m.0 m.1 in
    let front = take position ts in
    let back = drop position ts in
    record {
      same_count = sym (ap length m.2);
      front = front;
      back = back ++ all_tables levels;
      were = ap (λ (l : List ℕ). l ++ all_tables levels) (sym (take-append-drop position ts))
          ∙ append_assoc front back (all_tables levels);
      are = ap all_tables (sym m.2) ∙ ap (λ (l : List ℕ). l ++ all_tables levels) parts
          ∙ append_assoc front (table ∷ back) (all_tables levels);
    }
put_is (suc level) position table (ts ∷ levels) after is =
    let m = mapped (λ (put : List (List ℕ)). ts ∷ put) (put_at level position table levels) after is in
    let rest = put_is level position table levels m.0 m.1 in
    record {
      same_count = sym (ap length m.2) ∙ ap suc rest.same_count;
      front = ts ++ rest.front;
      back = rest.back;
      were = ap (λ (l : List ℕ). ts ++ l) rest.were ∙ sym (append_assoc ts rest.front rest.back);
      are = ap all_tables (sym m.2) ∙ ap (λ (l : List ℕ). ts ++ l) rest.are
          ∙ sym (append_assoc ts rest.front (table ∷ rest.back));
    }

-- there is no such level
pub put_past : (level position table : ℕ) (levels : List (List ℕ)) → length levels ≤ level → put_at level position table levels ≡ None
put_past level position table [] past = refl
put_past zero position table (ts ∷ levels) past = absurd (omega (arith, past))
put_past (suc level) position table (ts ∷ levels) past =
    ap (option_map (λ (put : List (List ℕ)). ts ∷ put)) (put_past level position table levels (omega (arith, past)))

-- ---- a table that is taken out

pub taken_out-tables : (table : ℕ) (levels : List (List ℕ))
    → all_tables (taken_out table levels) ≡ filter (is_other table) (all_tables levels)
taken_out-tables table [] = refl
taken_out-tables table (ts ∷ levels) =
    ap (λ (l : List ℕ). filter (is_other table) ts ++ l) (taken_out-tables table levels)
    ∙ sym (filter-append (is_other table) ts (all_tables levels))

pub taken_out-count : (table : ℕ) (levels : List (List ℕ)) → length (taken_out table levels) ≡ length levels
taken_out-count table [] = refl
taken_out-count table (ts ∷ levels) = ap suc (taken_out-count table levels)

is_in-filter : (p : ℕ → Bool) (t : ℕ) (xs : List ℕ) → is_in t xs ≡ false → is_in t (filter p xs) ≡ false
is_in-filter p t [] none = refl
is_in-filter p t (x ∷ xs) none =
    let parts = none_either (x == t) (is_in t xs) none in
    by (p x) parts.0 (is_in-filter p t xs parts.1)
  where
    by : (b : Bool) → (x == t) ≡ false → is_in t (filter p xs) ≡ false → is_in t (if b then x ∷ filter p xs else filter p xs) ≡ false
    by true apart rest = none_both (x == t) (is_in t (filter p xs)) apart rest
    by false apart rest = rest

pub once-filter : (p : ℕ → Bool) (xs : List ℕ) → AreOnce xs → AreOnce (filter p xs)
once-filter p [] once = tt
once-filter p (x ∷ xs) once = by (p x) (once-filter p xs once.1)
  where
    by : (b : Bool) → AreOnce (filter p xs) → AreOnce (if b then x ∷ filter p xs else filter p xs)
    by true rest = (is_in-filter p x xs once.0, rest)
    by false rest = rest

module _ (P : ℕ → Type 0) where
  pub all-filter : (p : ℕ → Bool) (xs : List ℕ) → AllByRecursion P xs → AllByRecursion P (filter p xs)
  all-filter p [] all = tt
  all-filter p (x ∷ xs) all = by (p x) (all-filter p xs all.1)
    where
      by : (b : Bool) → AllByRecursion P (filter p xs) → AllByRecursion P (if b then x ∷ filter p xs else filter p xs)
      by true rest = (all.0, rest)
      by false rest = rest

  pub all-more : (xs : List ℕ) (t : ℕ) (ys : List ℕ) → AllByRecursion P (xs ++ ys) → P t → AllByRecursion P (xs ++ t ∷ ys)
  all-more [] t ys all one = (one, all)
  all-more (x ∷ xs) t ys all one = (all.0, all-more xs t ys all.1 one)

  pub all-parts : (xs ys : List ℕ) → AllByRecursion P (xs ++ ys) → AllByRecursion P xs × AllByRecursion P ys
  all-parts [] ys all = (tt, all)
  all-parts (x ∷ xs) ys all = let rest = all-parts xs ys all.1 in ((all.0, rest.0), rest.1)
