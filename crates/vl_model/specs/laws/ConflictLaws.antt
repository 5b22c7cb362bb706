-- What is found among the overwritten keys, and that they rise.
use Rattle.std.proofs.Common.{◌≡◌, ℕ, ◌+◌, Bool, true, false, cond, ◌&&◌, List, [], ◌∷◌, map, refl, ap, sym, ◌∙◌, subst}
use Rattle.std.specs.Prelude.{T, Option, Some, None}
use Rattle.std.specs.Option.{option_map}
use Rattle.std.specs.FinMap.{entries, find, get-entries}
use Rattle.std.specs.FinMap.Entries.{is_sorted, below_all, is_sorted-put, find-put}
use Rattle.std.specs.declared.cmp.Ordering.{Ordering}
use Rattle.std.specs.declared.cmp.Ordering.TheVariants.{Less, Equal, Greater}
use Rattle.std.specs.Cmp.Lexicographic.{nat_list_cmp_total}
use Rattle.std.specs.Ordering.{eq_by_cmp, is_eq, is_lt}
use Rattle.std.specs.List.{filter}
use Rattle.vl_model.specs.Keys.{Writes, key_cmp}
use Rattle.vl_model.specs.History.{History, newer, last_naming}
use Rattle.vl_model.specs.Reads.{Read}
use Rattle.vl_model.specs.Conflicts.{Named, named_too, named_from, last_named, passing, is_overwritten, overwritten}
use Rattle.vl_model.specs.laws.WinnerLaws.{same_key}
use Rattle.vl_model.specs.declared.change.Change.{Change}

-- ---- the last commit that names a key

newer-assoc : (a b c : Option ℕ) → newer (newer a b) c ≡ newer a (newer b c)
newer-assoc a b None = refl
newer-assoc a b (Some c) = refl

find-named_too : (number : ℕ) (writes : List (List ℕ × Change)) (named : List Named) (q : List ℕ)
    → find key_cmp q (named_too number writes named) ≡ newer (find key_cmp q named) (option_map (λ change. number) (find key_cmp q writes))
find-named_too number [] named q = refl
find-named_too number (write ∷ others) named q =
    find-put key_cmp nat_list_cmp_total q write.0 number (named_too number others named)
    ∙ by_test (eq_by_cmp key_cmp q write.0) (find-named_too number others named q)
  where
    by_test : (b : Bool)
        → find key_cmp q (named_too number others named) ≡ newer (find key_cmp q named)
        (option_map (λ change. number) (find key_cmp q others))
        → cond b (Some number) (find key_cmp q (named_too number others named)) ≡ newer (find key_cmp q named)
        (option_map (λ change. number) (cond b (Some write.1) (find key_cmp q others)))
    by_test true later = refl
    by_test false later = later

find-named_from : (number : ℕ) (commits : List Writes) (named : List Named) (q : List ℕ)
    → find key_cmp q (named_from number (map entries commits) named) ≡ newer (find key_cmp q named) (last_naming number commits q)
find-named_from number [] named q = refl
find-named_from number (writes ∷ later) named q =
    find-named_from (number + 1) later (named_too number (entries writes) named) q
    ∙ ap (λ o. newer o (last_naming (number + 1) later q)) (find-named_too number (entries writes) named q)
    ∙ newer-assoc (find key_cmp q named) (option_map (λ change. number) (find key_cmp q (entries writes)))
    (last_naming (number + 1) later q)
    ∙ ap (λ o. newer (find key_cmp q named)
    (newer (option_map (λ change. number) o) (last_naming (number + 1) later q))) (sym (get-entries writes q))

newer-none : (o : Option ℕ) → newer None o ≡ o
newer-none None = refl
newer-none (Some n) = refl

pub find-last_named : (h : History) (q : List ℕ)
    → find key_cmp q (last_named h) ≡ last_naming (h.first + 1) h.commits q
find-last_named h q = find-named_from (h.first + 1) h.commits [] q ∙ newer-none (last_naming (h.first + 1) h.commits q)

-- ---- rising keys

sorted-named_too : (number : ℕ) (writes : List (List ℕ × Change)) (named : List Named)
    → T (is_sorted key_cmp named) → T (is_sorted key_cmp (named_too number writes named))
sorted-named_too number [] named rising = rising
sorted-named_too number (write ∷ others) named rising = is_sorted-put key_cmp nat_list_cmp_total write.0 number
    (named_too number others named) (sorted-named_too number others named rising)

sorted-named_from : (number : ℕ) (commits : List (List (List ℕ × Change))) (named : List Named)
    → T (is_sorted key_cmp named) → T (is_sorted key_cmp (named_from number commits named))
sorted-named_from number [] named rising = rising
sorted-named_from number (writes ∷ later) named rising = sorted-named_from (number + 1) later
    (named_too number writes named) (sorted-named_too number writes named rising)

pub last_named-rises : (h : History) → T (is_sorted key_cmp (last_named h))
last_named-rises h = sorted-named_from (h.first + 1) (map entries h.commits) [] tt

-- ---- those that pass a test

less_apart : (r : Ordering) → T (is_lt r) → is_eq r ≡ false
less_apart Less lt = refl
less_apart Equal lt = absurd lt
less_apart Greater lt = absurd lt

first_part : (a b : Bool) → T (a && b) → T a
first_part true b both = tt
first_part false b both = absurd both

second_part : (a b : Bool) → T (a && b) → T b
second_part true b both = both
second_part false b both = absurd both

both_parts : (a b : Bool) → T a → T b → T (a && b)
both_parts true b x y = y
both_parts false b x y = absurd x

-- a key below all isn't found
none_below : (q : List ℕ) (named : List Named) → T (below_all key_cmp q named)
    → find key_cmp q named ≡ None
none_below q [] below = refl
none_below q (n ∷ ns) below =
    ap (λ b. cond b (Some n.1) (find key_cmp q ns))
    (less_apart (key_cmp q n.0) (first_part (is_lt (key_cmp q n.0)) (below_all key_cmp q ns) below))
    ∙ none_below q ns (second_part (is_lt (key_cmp q n.0)) (below_all key_cmp q ns) below)

module _ (test : Named → Bool) (q : List ℕ) where
  pub find-filter : (named : List Named) → T (is_sorted key_cmp named)
      → find key_cmp q (filter test named) ≡ passing test q (find key_cmp q named)
  find-filter [] rising = refl
  find-filter (n ∷ ns) rising = by_tests (eq_by_cmp key_cmp q n.0) (test n) refl refl
      (find-filter ns (second_part (below_all key_cmp n.0 ns) (is_sorted key_cmp ns) rising))
    where
      first : eq_by_cmp key_cmp q n.0 ≡ true → test (q, n.1) ≡ test n
      first is = ap (λ (k : List ℕ). test (k, n.1)) (same_key q n.0 is)

      gone : eq_by_cmp key_cmp q n.0 ≡ true → find key_cmp q ns ≡ None
      gone is = none_below q ns
          (subst (λ (k : List ℕ). T (below_all key_cmp k ns)) (sym (same_key q n.0 is))
          (first_part (below_all key_cmp n.0 ns) (is_sorted key_cmp ns) rising))

      by_tests : (b c : Bool) → eq_by_cmp key_cmp q n.0 ≡ b → test n ≡ c
          → find key_cmp q (filter test ns) ≡ passing test q (find key_cmp q ns)
          → find key_cmp q (cond c (n ∷ filter test ns) (filter test ns)) ≡ passing test q (cond b (Some n.1) (find key_cmp q ns))
      by_tests true true is passes later = ap (λ b. cond b (Some n.1) (find key_cmp q (filter test ns))) is
          ∙ sym (ap (λ b. cond b (Some n.1) None) (first is ∙ passes))
      by_tests true false is passes later = later ∙ ap (passing test q) (gone is)
          ∙ sym (ap (λ b. cond b (Some n.1) None) (first is ∙ passes))
      by_tests false true is passes later = ap (λ b. cond b (Some n.1) (find key_cmp q (filter test ns))) is ∙ later
      by_tests false false is passes later = later

below-filter : (test : Named → Bool) (q : List ℕ) (named : List Named)
    → T (below_all key_cmp q named) → T (below_all key_cmp q (filter test named))
below-filter test q [] below = tt
below-filter test q (n ∷ ns) below =
    let here = first_part (is_lt (key_cmp q n.0)) (below_all key_cmp q ns) below in
    let later = below-filter test q ns (second_part (is_lt (key_cmp q n.0)) (below_all key_cmp q ns) below) in
    elim (test n) as (λ b. T (below_all key_cmp q (cond b (n ∷ filter test ns) (filter test ns)))) [
      | true ↦ both_parts (is_lt (key_cmp q n.0)) (below_all key_cmp q (filter test ns)) here later
      | false ↦ later
    ]

filter-rises : (test : Named → Bool) (named : List Named) → T (is_sorted key_cmp named)
    → T (is_sorted key_cmp (filter test named))
filter-rises test [] rising = tt
filter-rises test (n ∷ ns) rising =
    let below = below-filter test n.0 ns (first_part (below_all key_cmp n.0 ns) (is_sorted key_cmp ns) rising) in
    let later = filter-rises test ns (second_part (below_all key_cmp n.0 ns) (is_sorted key_cmp ns) rising) in
    elim (test n) as (λ b. T (is_sorted key_cmp (cond b (n ∷ filter test ns) (filter test ns)))) [
      | true ↦ both_parts (below_all key_cmp n.0 (filter test ns)) (is_sorted key_cmp (filter test ns)) below later
      | false ↦ later
    ]

-- a key is overwritten by the last commit that names it, where that is above the number and a read
-- covers the key
pub find-overwritten : (h : History) (number : ℕ) (reads : List Read) (q : List ℕ)
    → find key_cmp q (overwritten h number reads) ≡ passing (is_overwritten number reads) q (last_naming (h.first + 1) h.commits q)
find-overwritten h number reads q =
    find-filter (is_overwritten number reads) q (last_named h) (last_named-rises h)
    ∙ ap (passing (is_overwritten number reads) q) (find-last_named h q)

as_true : (b : Bool) → T b → b ≡ true
as_true true t = refl
as_true false t = absurd t

pub overwritten-rises : (h : History) (number : ℕ) (reads : List Read)
    → is_sorted key_cmp (overwritten h number reads) ≡ true
overwritten-rises h number reads = as_true (is_sorted key_cmp (overwritten h number reads))
    (filter-rises (is_overwritten number reads) (last_named h) (last_named-rises h))
