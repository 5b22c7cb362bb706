-- The entries of a run whose keys are in an interval stand one after the other.
use Rattle.std.proofs.Common.{◌≡◌, ℕ, ◌+◌, ◌-◌, ◌≤◌, suc, Bool, true, false, cond, ◌&&◌, List, [], ◌∷◌, length, take}
use Rattle.std.proofs.Common.{drop, refl, ap, sym, ◌∙◌, arith, Option, Some, None}
use Rattle.std.specs.Prelude.{not, min, nat_le}
use Rattle.std.proofs.lemmas.Bool.Decides.{nat_tests}
use Rattle.std.specs.List.{AllByRecursion, filter, prefix_len}
use Rattle.std.specs.Ordering.{ordering_then, nat_cmp, is_lt}
use Rattle.std.specs.declared.cmp.Ordering.{Ordering}
use Rattle.std.specs.declared.cmp.Ordering.TheVariants.{Less, Equal, Greater}
use Rattle.std.specs.Cmp.{alike_right}
use Rattle.std.specs.Cmp.Lexicographic.{nat_list_cmp_total}
use Rattle.vl_model.specs.Entries.{entry_cmp}
use Rattle.vl_model.specs.Keys.{key_cmp}
use Rattle.vl_model.specs.Reads.{is_from, is_up_to}
use Rattle.vl_model.specs.declared.entry.Entry.{Entry}
use Rattle.vl_model.specs.declared.span.Span.{Span}
use Rattle.vl_model.specs.Lookups.{IsParted, is_not_past, is_short_of}
use Rattle.vl_model.specs.EntryOrder.{between, within}
use Rattle.vl_model.specs.laws.OrderLaws.{IsBefore, IsRising}

-- ---- of entries in order the keys don't fall

abbrev DoNotFall : List ℕ → List ℕ → Type 0
DoNotFall a b = (bound : List ℕ) → is_lt (key_cmp b bound) ≡ true → is_lt (key_cmp a bound) ≡ true

is_less : (r : Ordering) → is_lt r ≡ true → r ≡ Less
is_less Less is = refl
is_less Equal is = absurd cc
is_less Greater is = absurd cc

key_below : (a b bound : List ℕ) (r : Ordering) → key_cmp a b ≡ r → (m n : ℕ) → ordering_then r (nat_cmp m n) ≡ Less
    → is_lt (key_cmp b bound) ≡ true → is_lt (key_cmp a bound) ≡ true
key_below a b bound Less is m n less below =
    ap is_lt (nat_list_cmp_total.trans a b bound is (is_less (key_cmp b bound) below))
key_below a b bound Equal is m n less below = ap is_lt (nat_list_cmp_total.congr a b bound is) ∙ below
key_below a b bound Greater is m n less below = absurd cc

bound_below : (a b bound : List ℕ) (r : Ordering) → key_cmp a b ≡ r → (m n : ℕ) → ordering_then r (nat_cmp m n) ≡ Less
    → is_lt (key_cmp bound a) ≡ true → is_lt (key_cmp bound b) ≡ true
bound_below a b bound Less is m n less below =
    ap is_lt (nat_list_cmp_total.trans bound a b (is_less (key_cmp bound a) below) is)
bound_below a b bound Equal is m n less below =
    ap is_lt (sym (alike bound a b is) ∙ is_less (key_cmp bound a) below)
  where
    alike : (x y z : List ℕ) → key_cmp y z ≡ Equal → key_cmp x y ≡ key_cmp x z
    alike x y z same = alike_right nat_list_cmp_total y z x same
bound_below a b bound Greater is m n less below = absurd cc

not_not : (b : Bool) → not (not b) ≡ true → b ≡ true
not_not true is = is
not_not false is = is

turned : (a b : Bool) → (a ≡ true → b ≡ true) → not b ≡ true → not a ≡ true
turned true true sends is = is
turned true false sends is = absurd (let no : false ≡ true = sends refl in cc)
turned false b sends is = refl

short_before : (span : Span) (e f : Entry) (lo : Option (List ℕ)) → entry_cmp e f ≡ Less
    → not (is_from lo f.key) ≡ true → not (is_from lo e.key) ≡ true
short_before span e f None less is = is
short_before span e f (Some low) less is =
    ap (λ b. not (not b)) (key_below e.key f.key low (key_cmp e.key f.key) refl f.version e.version less (not_not _ is))

up_before : (e f : Entry) (hi : Option (List ℕ)) (closed : Bool) → entry_cmp e f ≡ Less
    → is_up_to hi closed f.key ≡ true → is_up_to hi closed e.key ≡ true
up_before e f None closed less is = refl
up_before e f (Some high) false less is = key_below e.key f.key high (key_cmp e.key f.key) refl f.version e.version less is
up_before e f (Some high) true less is =
    turned (is_lt (key_cmp high e.key)) (is_lt (key_cmp high f.key))
    (bound_below e.key f.key high (key_cmp e.key f.key) refl f.version e.version less) is

module _ (span : Span) where
  short_all : (e : Entry) (es : List Entry) → IsBefore e es
      → AllByRecursion (λ f. is_short_of span f ≡ true → is_short_of span e ≡ true) es
  short_all e [] before = tt
  short_all e (f ∷ es) before = (short_before span e f span.lo before.0, short_all e es before.1)

  pub short-parted : (es : List Entry) → IsRising es → IsParted (is_short_of span) es
  short-parted [] rising = tt
  short-parted (e ∷ es) rising = (short_all e es rising.0, short-parted es rising.1)

  not_past_all : (e : Entry) (es : List Entry) → IsBefore e es
      → AllByRecursion (λ f. is_not_past span f ≡ true → is_not_past span e ≡ true) es
  not_past_all e [] before = tt
  not_past_all e (f ∷ es) before = (up_before e f span.hi span.closed before.0, not_past_all e es before.1)

  pub not_past-parted : (es : List Entry) → IsRising es → IsParted (is_not_past span) es
  not_past-parted [] rising = tt
  not_past-parted (e ∷ es) rising = (not_past_all e es rising.0, not_past-parted es rising.1)

-- ---- what passes one test and not the other

module _ (f q : Entry → Bool) where
  abbrev short : Entry → Bool
  short e = not (f e)

  abbrev kept : Entry → Bool
  kept e = f e && q e

  none_pass : (x : Entry) (xs : List Entry) → AllByRecursion (λ later. q later ≡ true → q x ≡ true) xs → q x ≡ false
      → filter kept xs ≡ []
  none_pass x [] all is = refl
  none_pass x (y ∷ xs) all is = by (f y) (q y) refl (none_pass x xs all.1 is)
    where
      by : (a b : Bool) → q y ≡ b → filter kept xs ≡ [] → cond (a && b) (y ∷ filter kept xs) (filter kept xs) ≡ []
      by true true here none = absurd (let no : false ≡ true = sym is ∙ all.0 here in cc)
      by true false here none = none
      by false b here none = none

  no_prefix : (x : Entry) (xs : List Entry) → AllByRecursion (λ later. short later ≡ true → short x ≡ true) xs → short x ≡ false
      → prefix_len short xs ≡ 0
  no_prefix x [] all is = refl
  no_prefix x (y ∷ xs) all is = by (short y) refl
    where
      by : (b : Bool) → short y ≡ b → cond b (1 + prefix_len short xs) 0 ≡ 0
      by true here = absurd (let no : false ≡ true = sym is ∙ all.0 here in cc)
      by false here = refl

  pub window : (es : List Entry) → IsParted short es → IsParted q es
      → between (prefix_len short es) (prefix_len q es) es ≡ filter kept es
  window [] first second = refl
  window (x ∷ xs) first second = by (f x) (q x) refl refl (window xs first.1 second.1)
    where
      p : ℕ
      p = prefix_len short xs

      n : ℕ
      n = prefix_len q xs

      by : (a b : Bool) → f x ≡ a → q x ≡ b → between p n xs ≡ filter kept xs
          → between (cond (not a) (1 + p) 0) (cond b (1 + n) 0) (x ∷ xs)
          ≡ cond (a && b) (x ∷ filter kept xs) (filter kept xs)
      by true true from up later =
          let none : p ≡ 0 = no_prefix x xs first.0 (ap not from) in
          let one_more : 1 + n - 0 ≡ suc n = omega arith in
          let whole : n - 0 ≡ n = omega arith in
          ap (λ k. take k (x ∷ xs)) one_more
          ∙ ap (λ l. x ∷ l) (sym (ap (λ k. between k n xs) none ∙ ap (λ k. take k xs) whole) ∙ later)
      by true false from up later = sym (none_pass x xs second.0 up)
      by false true from up later =
          let less : 1 + n - (1 + p) ≡ n - p = omega arith in
          let one_more : 1 + p ≡ suc p = omega arith in
          ap (λ k. take k (drop (1 + p) (x ∷ xs))) less ∙ ap (λ k. take (n - p) (drop k (x ∷ xs))) one_more ∙ later
      by false false from up later =
          let none : 0 - (1 + p) ≡ 0 = omega arith in
          ap (λ k. take k (drop (1 + p) (x ∷ xs))) none ∙ sym (none_pass x xs second.0 up)

-- with the first index cut to the second nothing changes
pub between-cut : (first end : ℕ) (es : List Entry) → between (min first end) end es ≡ between first end es
between-cut first end es = by (nat_le first end) refl
  where
    by : (b : Bool) → nat_le first end ≡ b → between (min first end) end es ≡ between first end es
    by true is =
        let same : min first end ≡ first = grind (arith, nat_tests) in ap (λ k. between k end es) same
    by false is =
        let same : min first end ≡ end = grind (arith, nat_tests) in
        let none : end - end ≡ 0 = omega arith in
        let short : end - first ≡ 0 = grind (arith, nat_tests) in
        ap (λ k. between k end es) same ∙ ap (λ n. take n (drop end es)) none
        ∙ sym (ap (λ n. take n (drop first es)) short)

pub between-within : (span : Span) (es : List Entry) → IsRising es
    → between (prefix_len (is_short_of span) es) (prefix_len (is_not_past span) es) es ≡ within span es
between-within span es rising =
    window (λ e. is_from span.lo e.key) (is_not_past span) es (short-parted span es rising) (not_past-parted span es rising)

pub prefix_len-le : (p : Entry → Bool) (es : List Entry) → prefix_len p es ≤ length es
prefix_len-le p [] = omega arith
prefix_len-le p (e ∷ es) =
    let later = prefix_len-le p es in
    elim (p e) as (λ b. cond b (1 + prefix_len p es) 0 ≤ length (e ∷ es)) [
      | true ↦ omega (arith, later)
      | false ↦ omega arith
    ]
