-- Lists that a test parts in two, and writes in the order of their keys, which a key parts.
use Rattle.std.proofs.Common.{◌≡◌, ℕ, ◌+◌, suc, Bool, true, false, cond, ◌&&◌, List, [], ◌∷◌, take, drop, refl, ap, sym, ◌∙◌, arith}
use Rattle.std.specs.Prelude.{T, IsTrue, not}
use Rattle.std.specs.Cmp.Lexicographic.{nat_list_cmp_total}
use Rattle.std.specs.FinMap.{is_sorted}
use Rattle.std.specs.FinMap.Entries.{below_all, is_sorted-where_key, where_key}
use Rattle.std.specs.List.{AllByRecursion, filter, prefix_len}
use Rattle.std.specs.Ordering.{is_lt}
use Rattle.std.specs.declared.cmp.Ordering.{Ordering}
use Rattle.std.specs.declared.cmp.Ordering.TheVariants.{Less, Equal, Greater}
use Rattle.vl_model.specs.Keys.{key_cmp}
use Rattle.vl_model.specs.Reads.{is_within}
use Rattle.vl_model.specs.declared.change.Change.{Change}
use Rattle.vl_model.specs.Lookups.{IsParted}
use Rattle.vl_version.specs.Own.{is_key_below}

one_more : (n : ℕ) → 1 + n ≡ suc n
one_more n = omega arith

module _ {X : Type 0} (p : X → Bool) where
  all_pass : (xs : List X) → AllByRecursion (λ x. p x ≡ false) xs → filter p xs ≡ []
  all_pass [] none = refl
  all_pass (x ∷ xs) none = ap (λ b. cond b (x ∷ filter p xs) (filter p xs)) none.0 ∙ all_pass xs none.1

  all_fail : (xs : List X) → AllByRecursion (λ x. p x ≡ false) xs → filter (λ x. not (p x)) xs ≡ xs
  all_fail [] none = refl
  all_fail (x ∷ xs) none =
      ap (λ b. cond (not b) (x ∷ filter (λ y. not (p y)) xs) (filter (λ y. not (p y)) xs)) none.0 ∙ ap (λ l. x ∷ l) (all_fail xs none.1)

  fail_behind : (x : X) (xs : List X) → p x ≡ false → AllByRecursion (λ later. p later ≡ true → p x ≡ true) xs
      → AllByRecursion (λ y. p y ≡ false) xs
  fail_behind x [] is all = tt
  fail_behind x (y ∷ xs) is all = (by (p y) refl, fail_behind x xs is all.1)
    where
      by : (b : Bool) → p y ≡ b → p y ≡ false
      by true passes = absurd (let no : true ≡ false = sym (all.0 passes) ∙ is in cc)
      by false fails = fails

  pub take-prefix : (xs : List X) → IsParted p xs → take (prefix_len p xs) xs ≡ filter p xs
  take-prefix [] parted = refl
  take-prefix (x ∷ xs) parted = by (p x) refl (take-prefix xs parted.1)
    where
      by : (b : Bool) → p x ≡ b → take (prefix_len p xs) xs ≡ filter p xs
          → take (cond b (1 + prefix_len p xs) 0) (x ∷ xs) ≡ cond b (x ∷ filter p xs) (filter p xs)
      by true is later = ap (λ n. take n (x ∷ xs)) (one_more (prefix_len p xs)) ∙ ap (λ l. x ∷ l) later
      by false is later = sym (all_pass xs (fail_behind x xs is parted.0))

  pub drop-prefix : (xs : List X) → IsParted p xs → drop (prefix_len p xs) xs ≡ filter (λ x. not (p x)) xs
  drop-prefix [] parted = refl
  drop-prefix (x ∷ xs) parted = by (p x) refl (drop-prefix xs parted.1)
    where
      by : (b : Bool) → p x ≡ b → drop (prefix_len p xs) xs ≡ filter (λ y. not (p y)) xs
          → drop (cond b (1 + prefix_len p xs) 0) (x ∷ xs) ≡ cond (not b) (x ∷ filter (λ y. not (p y)) xs) (filter (λ y. not (p y)) xs)
      by true is later = ap (λ n. drop n (x ∷ xs)) (one_more (prefix_len p xs)) ∙ later
      by false is later = ap (λ l. x ∷ l) (sym (all_fail xs (fail_behind x xs is parted.0)))

filter-filter : {X : Type 0} (p q r : X → Bool) (xs : List X) → ((x : X) → (p x && q x) ≡ r x) → filter q (filter p xs) ≡ filter r xs
filter-filter p q r [] same = refl
filter-filter {X} p q r (x ∷ xs) same = by (p x) (same x) (filter-filter p q r xs same)
  where
    ends : (b : Bool) → filter q (filter p xs) ≡ filter r xs
        → cond b (x ∷ filter q (filter p xs)) (filter q (filter p xs)) ≡ cond b (x ∷ filter r xs) (filter r xs)
    ends true later = ap (λ l. x ∷ l) later
    ends false later = later

    by : (a : Bool) → (a && q x) ≡ r x → filter q (filter p xs) ≡ filter r xs
        → filter q (cond a (x ∷ filter p xs) (filter p xs)) ≡ cond (r x) (x ∷ filter r xs) (filter r xs)
    by true is later = ap (λ b. cond b (x ∷ filter q (filter p xs)) (filter q (filter p xs))) is ∙ ends (r x) later
    by false is later = later ∙ ap (λ b. cond b (x ∷ filter r xs) (filter r xs)) is

-- ---- writes

abbrev pub Write : Type 0
Write = List ℕ × Change

first_part : (a b : Bool) → T (a && b) → T a
first_part true b both = tt
first_part false b both = absurd both

second_part : (a b : Bool) → T (a && b) → T b
second_part true b both = both
second_part false b both = absurd both

is_less : (r : Ordering) → T (is_lt r) → r ≡ Less
is_less Less lt = refl
is_less Equal lt = absurd lt
is_less Greater lt = absurd lt

less_of : (r : Ordering) → is_lt r ≡ true → r ≡ Less
less_of Less lt = refl
less_of Equal lt = absurd cc
less_of Greater lt = absurd cc

below-parted : (key : List ℕ) (write : Write) (ws : List Write) → T (below_all key_cmp write.0 ws)
    → AllByRecursion (λ later. is_key_below key later ≡ true → is_key_below key write ≡ true) ws
below-parted key write [] below = tt
below-parted key write (w ∷ ws) below = (
  (λ lower. ap is_lt (nat_list_cmp_total.trans write.0 w.0 key
      (is_less (key_cmp write.0 w.0) (first_part (is_lt (key_cmp write.0 w.0)) (below_all key_cmp write.0 ws) below))
      (less_of (key_cmp w.0 key) lower))),
  below-parted key write ws (second_part (is_lt (key_cmp write.0 w.0)) (below_all key_cmp write.0 ws) below),
)

pub sorted-parted : (key : List ℕ) (ws : List Write) → T (is_sorted key_cmp ws) → IsParted (is_key_below key) ws
sorted-parted key [] sorted = tt
sorted-parted key (w ∷ ws) sorted = (
  below-parted key w ws (first_part (below_all key_cmp w.0 ws) (is_sorted key_cmp ws) sorted),
  sorted-parted key ws (second_part (below_all key_cmp w.0 ws) (is_sorted key_cmp ws) sorted),
)

pub true_T : (b : Bool) → b ≡ true → T b
true_T true is = tt
true_T false is = absurd cc

T_true : (b : Bool) → T b → b ≡ true
T_true true is = refl
T_true false is = absurd is

module _ (ws : List Write) (sorted : IsTrue (is_sorted key_cmp ws)) where
  pub parted : (key : List ℕ) → IsParted (is_key_below key) ws
  parted key = sorted-parted key ws (true_T (is_sorted key_cmp ws) sorted)

  -- those from a key on, and those below one
  pub front_cut : (key : List ℕ) → drop (prefix_len (is_key_below key) ws) ws ≡ filter (λ write. not (is_key_below key write)) ws
  front_cut key = drop-prefix (is_key_below key) ws (parted key)

  pub back_cut : (key : List ℕ) → take (prefix_len (is_key_below key) ws) ws ≡ filter (is_key_below key) ws
  back_cut key = take-prefix (is_key_below key) ws (parted key)

  pub sorted_front : (key : List ℕ) → IsTrue (is_sorted key_cmp (filter (λ write. not (is_key_below key write)) ws))
  sorted_front key =
      T_true (is_sorted key_cmp (where_key key_cmp (λ k. not (is_lt (key_cmp k key))) ws))
      (is_sorted-where_key key_cmp (λ k. not (is_lt (key_cmp k key))) ws (true_T (is_sorted key_cmp ws) sorted))

-- with both bounds, of which an empty upper one is none
pub cut_none : (low high : List ℕ) (ws : List Write) → high ≡ []
    → filter (λ write. not (is_key_below low write)) ws ≡ filter (λ (write : Write). is_within low high write.0) ws
cut_none low [] ws none = refl
cut_none low (b ∷ bs) ws none = absurd cc

pub cut_both : (low high : List ℕ) (ws : List Write) → (high ≡ [] → ⊥)
    → filter (is_key_below high) (filter (λ write. not (is_key_below low write)) ws) ≡ filter
    (λ (write : Write). is_within low high write.0) ws
cut_both low [] ws some = absurd (some refl)
cut_both low (b ∷ bs) ws some =
    filter-filter (λ write. not (is_key_below low write)) (is_key_below (b ∷ bs))
    (λ (write : Write). is_within low (b ∷ bs) write.0) ws (λ write. refl)
