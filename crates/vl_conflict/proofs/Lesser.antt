-- The least of what two searches find.
use Rattle.std.proofs.Common.{◌≡◌, ℕ, ◌+◌, ◌<◌, Bool, true, false, cond, not, ◌&&◌, ◌||◌, List, [], ◌∷◌, ◌++◌, length}
use Rattle.std.proofs.Common.{take, get_or, refl, ap, sym, ◌∙◌, T, Option, Some, None, map}
use Rattle.std.proofs.lemmas.List.{take_more}
use Rattle.std.specs.Prelude.{nat_lt}
use Rattle.std.specs.List.{AllByRecursion, filter, list_any}
use Rattle.std.specs.declared.cmp.Ordering.{Ordering}
use Rattle.std.specs.declared.cmp.Ordering.TheVariants.{Less, Equal, Greater}
use Rattle.std.specs.Ordering.{is_gt, is_lt, is_eq, eq_by_cmp, ordering_reverse}
use Rattle.std.specs.Cmp.Lexicographic.{nat_list_cmp_total}
use Rattle.std.specs.FinMap.{is_sorted}
use Rattle.std.specs.FinMap.Entries.{below_all}
use Rattle.vl_model.specs.Keys.{key_cmp}
use Rattle.vl_model.specs.laws.WinnerLaws.{key_tied}
use Rattle.vl_model.specs.Conflicts.{Named, first_of}
use Rattle.vl_model.specs.Reads.{is_in_span}
use Rattle.vl_model.specs.declared.span.Span.{Span}
use Rattle.vl_conflict.specs.Notes.{is_late_within, span_of}
use Rattle.vl_conflict.specs.laws.OrderLaws.{as_T, two_parts, above-all}
use Rattle.vl_conflict.specs.Recent.{first_newer_than, is_late, is_late_at, is_late_at_any, is_late_within_any, lesser_of}

-- ---- two tests

filter-same : (p q : Named → Bool) (es : List Named) → ((e : Named) → p e ≡ q e) → filter p es ≡ filter q es
filter-same p q [] same = refl
filter-same p q (e ∷ es) same = ap (λ b. cond b (e ∷ filter p es) (filter p es)) (same e)
    ∙ ap (λ l. cond (q e) (e ∷ l) l) (filter-same p q es same)

-- what was found behind a key is above it
abbrev IsBehind : List ℕ → Option Named → Type 0
IsBehind key None = Unit {0}
IsBehind key (Some f) = key_cmp key f.0 ≡ Less

first-behind : (x : Named) (test : Named → Bool) (es : List Named)
    → AllByRecursion (λ (e : Named). key_cmp x.0 e.0 ≡ Less) es → IsBehind x.0 (first_of (filter test es))
first-behind x test [] behind = tt
first-behind x test (e ∷ es) behind = elim (test e) as (λ b. IsBehind x.0 (first_of (cond b (e ∷ filter test es) (filter test es)))) [
  | true ↦ behind.0
  | false ↦ first-behind x test es behind.1
]

lesser-here : (x : Named) (o : Option Named) → IsBehind x.0 o → lesser_of (Some x) o ≡ Some x
lesser-here x None behind = refl
lesser-here x (Some f) behind = ap (λ r. cond (is_gt r) (Some f) (Some x)) behind

lesser-there : (x : Named) (o : Option Named) → IsBehind x.0 o → lesser_of o (Some x) ≡ Some x
lesser-there x None behind = refl
lesser-there x (Some f) behind = ap (λ r. cond (is_gt r) (Some x) (Some f))
    (nat_list_cmp_total.antisymm f.0 x.0 ∙ ap ordering_reverse behind)

lesser-same : (x : Named) → lesser_of (Some x) (Some x) ≡ Some x
lesser-same x = ap (λ r. cond (is_gt r) (Some x) (Some x)) (key_tied x.0)

either : (p q : Named → Bool) (es : List Named) → T (is_sorted key_cmp es)
    → lesser_of (first_of (filter p es)) (first_of (filter q es)) ≡ first_of (filter (λ e. p e || q e) es)
either p q [] sorted = refl
either p q (x ∷ es) sorted = by (either p q es parts.1) (p x) (q x)
  where
    parts : T (below_all key_cmp x.0 es) × T (is_sorted key_cmp es)
    parts = two_parts (below_all key_cmp x.0 es) (is_sorted key_cmp es) sorted

    by : lesser_of (first_of (filter p es)) (first_of (filter q es)) ≡ first_of (filter (λ e. p e || q e) es) → (a b : Bool)
        → lesser_of (first_of (cond a (x ∷ filter p es) (filter p es))) (first_of (cond b (x ∷ filter q es) (filter q es)))
        ≡ first_of (cond (a || b) (x ∷ filter (λ e. p e || q e) es) (filter (λ e. p e || q e) es))
    by later true true = lesser-same x
    by later true false = lesser-here x (first_of (filter q es)) (first-behind x q es (above-all x es parts.0))
    by later false true = lesser-there x (first_of (filter p es)) (first-behind x p es (above-all x es parts.0))
    by later false false = later

-- ---- keys and intervals one by one

any-last : {X : Type 0} (test : X → Bool) (xs : List X) (y : X) → list_any test (xs ++ y ∷ []) ≡ (list_any test xs || test y)
any-last test [] y = or_false (test y)
  where
    or_false : (b : Bool) → (b || false) ≡ b
    or_false true = refl
    or_false false = refl
any-last test (x ∷ xs) y = ap (λ b. test x || b) (any-last test xs y) ∙ or_assoc (test x) (list_any test xs) (test y)
  where
    or_assoc : (a b c : Bool) → (a || (b || c)) ≡ ((a || b) || c)
    or_assoc true b c = refl
    or_assoc false b c = refl

-- an interval that has one key
at-key : (number : ℕ) (key : List ℕ) (e : Named) → is_late_within number (span_of (Some key) (Some key) true) e ≡ is_late_at number key e
at-key number key e = ap (λ b. nat_lt number e.1 && b)
    (ap (λ r. not (is_lt (key_cmp e.0 key)) && not (is_lt r)) (nat_list_cmp_total.antisymm key e.0) ∙ by (key_cmp e.0 key))
  where
    by : (r : Ordering) → (not (is_lt r) && not (is_lt (ordering_reverse r))) ≡ is_eq r
    by Less = refl
    by Equal = refl
    by Greater = refl

module _ (number : ℕ) (es : List Named) (sorted : is_sorted key_cmp es ≡ true) (first found now : Option Named)
    (now_is : now ≡ lesser_of first found) where
  -- what was found so far, with one key more
  pub one_key_more : (so_far : List (List ℕ)) (key : List ℕ) → first ≡ first_of (filter (is_late_at_any number so_far) es)
      → found ≡ first_of (filter (is_late_within number (span_of (Some key) (Some key) true)) es) → now ≡ first_of
      (filter (is_late_at_any number (so_far ++ key ∷ [])) es)
  one_key_more so_far key is one =
      now_is ∙ ap (λ o. lesser_of o found) is ∙ ap (lesser_of (first_of (filter (is_late_at_any number so_far) es))) one
      ∙ either (is_late_at_any number so_far) (is_late_within number (span_of (Some key) (Some key) true)) es
      (as_T (is_sorted key_cmp es) sorted)
      ∙ ap first_of (filter-same
      (λ e. is_late_at_any number so_far e || is_late_within number (span_of (Some key) (Some key) true) e)
      (is_late_at_any number (so_far ++ key ∷ [])) es (λ e.
      ap (λ b. is_late_at_any number so_far e || b) (at-key number key e)
      ∙ sym (any-last (λ k. is_late_at number k e) so_far key)))

  pub one_span_more : (spans : List Span) (i : ℕ) (span : Span) → i < length spans → span ≡ get_or spans i span
      → first ≡ first_of (filter (is_late_within_any number (take i spans)) es)
      → found ≡ first_of (filter (is_late_within number span) es)
      → now ≡ first_of (filter (is_late_within_any number (take (i + 1) spans)) es)
  one_span_more spans i span within is so_far one =
      now_is ∙ ap (λ o. lesser_of o found) so_far ∙ ap (lesser_of (first_of (filter (is_late_within_any number (take i spans)) es))) one
      ∙ either (is_late_within_any number (take i spans)) (is_late_within number span) es (as_T (is_sorted key_cmp es) sorted)
      ∙ ap first_of (filter-same (λ e. is_late_within_any number (take i spans) e || is_late_within number span e)
      (is_late_within_any number (take (i + 1) spans)) es (λ e.
      sym (any-last (λ s. is_late_within number s e) (take i spans) span)
      ∙ ap (λ ss. list_any (λ s. is_late_within number s e) ss)
      (ap (λ s. take i spans ++ s ∷ []) is ∙ sym (take_more spans i span within))))

-- where nothing was asked, nothing is found
pub nothing-found : (es : List Named) → first_of (filter (λ e. false) es) ≡ None
nothing-found [] = refl
nothing-found (e ∷ es) = nothing-found es

-- ---- all keys and all intervals

any-and : {X : Type 0} (b : Bool) (test : X → Bool) (xs : List X) → list_any (λ x. b && test x) xs ≡ (b && list_any test xs)
any-and true test [] = refl
any-and false test [] = refl
any-and true test (x ∷ xs) = ap (λ c. test x || c) (any-and true test xs)
any-and false test (x ∷ xs) = any-and false test xs

or_of_and : (a k s : Bool) → ((a && k) || (a && s)) ≡ (a && (k || s))
or_of_and true k s = refl
or_of_and false k s = refl

pub all_late : (number : ℕ) (keys : List (List ℕ)) (spans : List Span) (es : List Named) → is_sorted key_cmp es ≡ true
    → lesser_of (first_of (filter (is_late_at_any number keys) es))
    (first_of (filter (is_late_within_any number spans) es)) ≡ first_newer_than number keys spans es
all_late number keys spans es sorted =
    either (is_late_at_any number keys) (is_late_within_any number spans) es (as_T (is_sorted key_cmp es) sorted)
    ∙ ap first_of (filter-same (λ e. is_late_at_any number keys e || is_late_within_any number spans e) (is_late number keys spans) es (λ e.
    ap (λ b. b || is_late_within_any number spans e) (any-and (nat_lt number e.1) (eq_by_cmp key_cmp e.0) keys)
    ∙ ap (λ b. (nat_lt number e.1 && list_any (eq_by_cmp key_cmp e.0) keys) || b)
    (any-and (nat_lt number e.1) (λ span. is_in_span span e.0) spans)
    ∙ or_of_and (nat_lt number e.1) (list_any (eq_by_cmp key_cmp e.0) keys) (list_any (λ span. is_in_span span e.0) spans)))

-- ---- lists seen through a function

pub map-one_more : {X Y : Type 0} (f : X → Y) (xs : List X) (x : X) → map f (xs ++ x ∷ []) ≡ map f xs ++ f x ∷ []
map-one_more f [] x = refl
map-one_more f (y ∷ ys) x = ap (λ zs. f y ∷ zs) (map-one_more f ys x)

pub map-through : {X Y Z : Type 0} (f : Y → Z) (g : X → Y) (xs : List X) → map (λ x. f (g x)) xs ≡ map f (map g xs)
map-through f g [] = refl
map-through f g (x ∷ xs) = ap (λ zs. f (g x) ∷ zs) (map-through f g xs)
