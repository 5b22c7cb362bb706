-- Laws of a list in rising order of keys, cut at one of them.
use Rattle.std.proofs.Common.{◌≡◌, ℕ, ◌<◌, ◌≤◌, Bool, true, false, cond, not, ◌&&◌, List, [], ◌∷◌, ◌++◌, refl, ap}
use Rattle.std.proofs.Common.{sym, subst, ◌∙◌, append-nil, arith, T, Option, Some, None, is_some, Bor}
use Rattle.std.proofs.lemmas.Bool.Decides.{nat_tests}
use Rattle.std.proofs.lemmas.List.Elements.{filter-append}
use Rattle.std.specs.Prelude.{nat_lt}
use Rattle.std.specs.Option.{option_copied}
use Rattle.std.specs.List.{AllByRecursion, filter}
use Rattle.std.specs.declared.cmp.Ordering.{Ordering}
use Rattle.std.specs.declared.cmp.Ordering.TheVariants.{Less, Equal, Greater}
use Rattle.std.specs.Ordering.{is_lt, ordering_reverse}
use Rattle.std.specs.Cmp.Lexicographic.{nat_list_cmp_total}
use Rattle.std.specs.FinMap.{put, is_sorted}
use Rattle.std.specs.FinMap.Entries.{below_all, by_order}
use Rattle.vl_model.specs.Keys.{key_cmp}
use Rattle.vl_model.specs.Conflicts.{Named, first_of}
use Rattle.vl_model.specs.Reads.{is_in_span, is_from, is_up_to}
use Rattle.vl_model.specs.declared.span.Span.{Span}
use Rattle.vl_conflict.specs.Notes.{is_late_within, is_above_floor}
use Rattle.vl_conflict.specs.laws.OrderLaws.{as_T, from_T, two_parts, both_parts, lt-is, above-all}
use Rattle.vl_conflict.specs.Trees.{named, least_of, greatest_of, height_of, IsWhole, node_named, NodeWhole, found_named}
use Rattle.vl_conflict.specs.declared.tree.Tree.{Tree, Leaf, Fork'}
use Rattle.vl_conflict.specs.declared.tree.Node.{Node}

-- a list that rises, cut at one of its keys
pub record IsCut (l : List Named) (x : Named) (r : List Named) : Type 0 where
  pub left : is_sorted key_cmp l ≡ true
  pub right : is_sorted key_cmp r ≡ true
  pub before : AllByRecursion (λ (e : Named). key_cmp e.0 x.0 ≡ Less) l
  pub behind : AllByRecursion (λ (e : Named). key_cmp x.0 e.0 ≡ Less) r

-- what is below all of a list is below those in front of a key, and below the key
below-parts : (q : List ℕ) (l : List Named) (x : Named) (r : List Named) → T (below_all key_cmp q (l ++ x ∷ r))
    → T (below_all key_cmp q l) × (key_cmp q x.0 ≡ Less)
below-parts q [] x r below = (tt, lt-is (key_cmp q x.0) (two_parts (is_lt (key_cmp q x.0)) (below_all key_cmp q r) below).0)
below-parts q (e ∷ l) x r below =
    let parts = two_parts (is_lt (key_cmp q e.0)) (below_all key_cmp q (l ++ x ∷ r)) below in
    let later = below-parts q l x r parts.1 in
    (both_parts (is_lt (key_cmp q e.0)) (below_all key_cmp q l) parts.0 later.0, later.1)

cut : (l : List Named) (x : Named) (r : List Named) → T (is_sorted key_cmp (l ++ x ∷ r)) → T (is_sorted key_cmp l) × T (is_sorted key_cmp r)
    × AllByRecursion (λ (e : Named). key_cmp e.0 x.0 ≡ Less) l × AllByRecursion (λ (e : Named). key_cmp x.0 e.0 ≡ Less) r
cut [] x r sorted =
    let parts = two_parts (below_all key_cmp x.0 r) (is_sorted key_cmp r) sorted in (tt, parts.1, tt, above-all x r parts.0)
cut (e ∷ l) x r sorted =
    let parts = two_parts (below_all key_cmp e.0 (l ++ x ∷ r)) (is_sorted key_cmp (l ++ x ∷ r)) sorted in
    let first = below-parts e.0 l x r parts.0 in
    let later = cut l x r parts.1 in
    (both_parts (below_all key_cmp e.0 l) (is_sorted key_cmp l) first.0 later.0, later.1, (first.1, later.2), later.3)

pub is_cut : (l : List Named) (x : Named) (r : List Named) → is_sorted key_cmp (l ++ x ∷ r) ≡ true → IsCut l x r
is_cut l x r sorted =
    let parts = cut l x r (as_T (is_sorted key_cmp (l ++ x ∷ r)) sorted) in
    record { left = from_T (is_sorted key_cmp l) parts.0; right = from_T (is_sorted key_cmp r) parts.1; before = parts.2; behind = parts.3 }

-- ---- one key more

module _ (key : List ℕ) (number : ℕ) where
  put-is : (x : Named) (es : List Named) (o : Ordering) → key_cmp key x.0 ≡ o
      → put key_cmp key number (x ∷ es) ≡ by_order o ((key, number) ∷ x ∷ es) ((x.0, number) ∷ es) (x ∷ put key_cmp key number es)
  put-is x es o is = ap (λ o. by_order o ((key, number) ∷ x ∷ es) ((x.0, number) ∷ es) (x ∷ put key_cmp key number es)) is

  pub put-left : (l : List Named) (x : Named) (r : List Named) → key_cmp key x.0 ≡ Less
      → put key_cmp key number (l ++ x ∷ r) ≡ put key_cmp key number l ++ x ∷ r
  put-left [] x r less = put-is x r Less less
  put-left (e ∷ l) x r less = by (put-left l x r less) (key_cmp key e.0) refl
    where
      by : put key_cmp key number (l ++ x ∷ r) ≡ put key_cmp key number l ++ x ∷ r → (o : Ordering) → key_cmp key e.0 ≡ o
          → put key_cmp key number (e ∷ l ++ x ∷ r) ≡ put key_cmp key number (e ∷ l) ++ x ∷ r
      by later Less is = put-is e (l ++ x ∷ r) Less is ∙ sym (ap (λ es. es ++ x ∷ r) (put-is e l Less is))
      by later Equal is = put-is e (l ++ x ∷ r) Equal is ∙ sym (ap (λ es. es ++ x ∷ r) (put-is e l Equal is))
      by later Greater is = put-is e (l ++ x ∷ r) Greater is ∙ ap (λ es. e ∷ es) later
          ∙ sym (ap (λ es. es ++ x ∷ r) (put-is e l Greater is))

  put-past : (l es : List Named) → AllByRecursion (λ (e : Named). key_cmp key e.0 ≡ Greater) l
      → put key_cmp key number (l ++ es) ≡ l ++ put key_cmp key number es
  put-past [] es past = refl
  put-past (e ∷ l) es past = put-is e (l ++ es) Greater past.0 ∙ ap (λ fs. e ∷ fs) (put-past l es past.1)

  all-past : (x : List ℕ) (l : List Named) → ((q : List ℕ) → key_cmp q x ≡ Less → key_cmp key q ≡ Greater)
      → AllByRecursion (λ (e : Named). key_cmp e.0 x ≡ Less) l
      → AllByRecursion (λ (e : Named). key_cmp key e.0 ≡ Greater) l
  all-past x [] goes before = tt
  all-past x (e ∷ l) goes before = (goes e.0 before.0, all-past x l goes before.1)

  pub put-right : (l : List Named) (x : Named) (r : List Named) → key_cmp key x.0 ≡ Greater
      → AllByRecursion (λ (e : Named). key_cmp e.0 x.0 ≡ Less) l
      → put key_cmp key number (l ++ x ∷ r) ≡ l ++ x ∷ put key_cmp key number r
  put-right l x r greater before =
      put-past l (x ∷ r)
      (all-past x.0 l (λ q less. nat_list_cmp_total.antisymm key q
      ∙ ap ordering_reverse (nat_list_cmp_total.trans q x.0 key less
      (nat_list_cmp_total.antisymm x.0 key ∙ ap ordering_reverse greater))) before)
      ∙ ap (λ es. l ++ es) (put-is x r Greater greater)

  pub put-here : (l : List Named) (x : Named) (r : List Named) → key_cmp key x.0 ≡ Equal
      → AllByRecursion (λ (e : Named). key_cmp e.0 x.0 ≡ Less) l
      → put key_cmp key number (l ++ x ∷ r) ≡ l ++ (x.0, number) ∷ r
  put-here l x r equal before =
      put-past l (x ∷ r)
      (all-past x.0 l (λ q less. nat_list_cmp_total.congr key x.0 q equal
      ∙ (nat_list_cmp_total.antisymm x.0 q ∙ ap ordering_reverse less)) before)
      ∙ ap (λ es. l ++ es) (put-is x r Equal equal)

-- ---- bounds

-- what is below a key that is below an interval is below it too
from_below : (lo : Option (List ℕ)) (a b : List ℕ) → key_cmp a b ≡ Less → is_from lo b ≡ false → is_from lo a ≡ false
from_below None a b less is = absurd cc
from_below (Some low) a b less is = by (key_cmp b low) refl is
  where
    by : (r : Ordering) → key_cmp b low ≡ r → not (is_lt r) ≡ false → not (is_lt (key_cmp a low)) ≡ false
    by Less below is = ap (λ r. not (is_lt r)) (nat_list_cmp_total.trans a b low less below)
    by Equal below is = absurd cc
    by Greater below is = absurd cc

-- what is above a key that is above an interval is above it too
up_to_above : (hi : Option (List ℕ)) (closed : Bool) (a b : List ℕ) → key_cmp a b ≡ Less → is_up_to hi closed a ≡ false
    → is_up_to hi closed b ≡ false
up_to_above None closed a b less is = absurd cc
up_to_above (Some high) false a b less is = by (key_cmp b high) refl
  where
    by : (r : Ordering) → key_cmp b high ≡ r → is_lt (key_cmp b high) ≡ false
    by Less above = let lower : is_lt (key_cmp a high) ≡ true = ap is_lt (nat_list_cmp_total.trans a b high less above) in absurd cc
    by Equal above = ap is_lt above
    by Greater above = ap is_lt above
up_to_above (Some high) true a b less is = by (key_cmp high a) refl is
  where
    by : (r : Ordering) → key_cmp high a ≡ r → not (is_lt r) ≡ false → not (is_lt (key_cmp high b)) ≡ false
    by Less above is = ap (λ r. not (is_lt r)) (nat_list_cmp_total.trans high a b above less)
    by Equal above is = absurd cc
    by Greater above is = absurd cc

-- ---- late ones

module _ (number : ℕ) (span : Span) where
  none-late : (es : List Named) → AllByRecursion (λ e. is_late_within number span e ≡ false) es
      → filter (is_late_within number span) es ≡ []
  none-late [] none = refl
  none-late (e ∷ es) none = ap
      (λ b. cond b (e ∷ filter (is_late_within number span) es) (filter (is_late_within number span) es)) none.0 ∙ none-late es none.1

  skip : (e : Named) (es : List Named) → is_late_within number span e ≡ false
      → filter (is_late_within number span) (e ∷ es) ≡ filter (is_late_within number span) es
  skip e es none = ap (λ b. cond b (e ∷ filter (is_late_within number span) es) (filter (is_late_within number span) es)) none

  take : (e : Named) (es : List Named) → is_late_within number span e ≡ true
      → filter (is_late_within number span) (e ∷ es) ≡ e ∷ filter (is_late_within number span) es
  take e es is = ap (λ b. cond b (e ∷ filter (is_late_within number span) es) (filter (is_late_within number span) es)) is

  and_false : (a b : Bool) → b ≡ false → (a && b) ≡ false
  and_false true b is = is
  and_false false b is = refl

  low : (e : Named) → is_from span.lo e.0 ≡ false → is_late_within number span e ≡ false
  low e is = and_false (nat_lt number e.1) (is_in_span span e.0) (ap (λ b. b && is_up_to span.hi span.closed e.0) is)

  high : (e : Named) → is_up_to span.hi span.closed e.0 ≡ false → is_late_within number span e ≡ false
  high e is = and_false (nat_lt number e.1) (is_in_span span e.0) (and_false (is_from span.lo e.0) (is_up_to span.hi span.closed e.0) is)

  all-low : (x : Named) (l : List Named) → is_from span.lo x.0 ≡ false → AllByRecursion (λ (e : Named). key_cmp e.0 x.0 ≡ Less) l
      → AllByRecursion (λ e. is_late_within number span e ≡ false) l
  all-low x [] below before = tt
  all-low x (e ∷ l) below before = (low e (from_below span.lo e.0 x.0 before.0 below), all-low x l below before.1)

  all-high : (x : Named) (r : List Named) → is_up_to span.hi span.closed x.0 ≡ false
      → AllByRecursion (λ (e : Named). key_cmp x.0 e.0 ≡ Less) r
      → AllByRecursion (λ e. is_late_within number span e ≡ false) r
  all-high x [] above behind = tt
  all-high x (e ∷ r) above behind = (high e (up_to_above span.hi span.closed x.0 e.0 behind.0 above), all-high x r above behind.1)

  -- the key is below the interval: only greater ones may be late
  pub late-right : (l : List Named) (x : Named) (r : List Named) → IsCut l x r → is_from span.lo x.0 ≡ false
      → filter (is_late_within number span) (l ++ x ∷ r) ≡ filter (is_late_within number span) r
  late-right l x r cut below =
      filter-append (is_late_within number span) l (x ∷ r)
      ∙ ap (λ es. es ++ filter (is_late_within number span) (x ∷ r)) (none-late l (all-low x l below cut.before)) ∙ skip x r (low x below)

  -- the key is above the interval: only lesser ones may be late
  pub late-left : (l : List Named) (x : Named) (r : List Named) → IsCut l x r → is_up_to span.hi span.closed x.0 ≡ false
      → filter (is_late_within number span) (l ++ x ∷ r) ≡ filter (is_late_within number span) l
  late-left l x r cut above =
      filter-append (is_late_within number span) l (x ∷ r)
      ∙ ap (λ es. filter (is_late_within number span) l ++ es) (skip x r (high x above) ∙ none-late r (all-high x r above cut.behind))
      ∙ append-nil (filter (is_late_within number span) l)

  first-some : (es fs : List Named) (e : Named) → first_of es ≡ Some e → first_of (es ++ fs) ≡ Some e
  first-some [] fs e is = absurd cc
  first-some (f ∷ es) fs e is = is

  first-none : (es fs : List Named) → first_of es ≡ None → first_of (es ++ fs) ≡ first_of fs
  first-none [] fs is = refl
  first-none (f ∷ es) fs is = absurd cc

  -- a lesser key is late
  pub late-before : (l : List Named) (x : Named) (r : List Named) (e : Named) → first_of (filter (is_late_within number span) l) ≡ Some e
      → first_of (filter (is_late_within number span) (l ++ x ∷ r)) ≡ Some e
  late-before l x r e found =
      ap first_of (filter-append (is_late_within number span) l (x ∷ r))
      ∙ first-some (filter (is_late_within number span) l) (filter (is_late_within number span) (x ∷ r)) e found

  no-before : (l : List Named) (x : Named) (r : List Named) → first_of (filter (is_late_within number span) l) ≡ None
      → first_of (filter (is_late_within number span) (l ++ x ∷ r)) ≡ first_of (filter (is_late_within number span) (x ∷ r))
  no-before l x r none =
      ap first_of (filter-append (is_late_within number span) l (x ∷ r))
      ∙ first-none (filter (is_late_within number span) l) (filter (is_late_within number span) (x ∷ r)) none

  -- the key itself is
  pub late-here : (l : List Named) (x : Named) (r : List Named)
      → first_of (filter (is_late_within number span) l) ≡ None → is_from span.lo x.0 ≡ true
      → is_up_to span.hi span.closed x.0 ≡ true → number < x.1 → first_of (filter (is_late_within number span) (l ++ x ∷ r)) ≡ Some x
  late-here l x r none from up_to above =
      no-before l x r none ∙ ap first_of
      (take x r (ap (λ b. b && is_in_span span x.0) test ∙ ap (λ b. b && is_up_to span.hi span.closed x.0) from ∙ up_to))
    where
      test : nat_lt number x.1 ≡ true
      test = grind (arith, nat_tests)

  -- neither a lesser one nor the key itself is
  pub late-behind : (l : List Named) (x : Named) (r : List Named) → first_of (filter (is_late_within number span) l) ≡ None → x.1 ≤ number
      → first_of (filter (is_late_within number span) (l ++ x ∷ r)) ≡ first_of (filter (is_late_within number span) r)
  late-behind l x r none above =
      no-before l x r none ∙ ap first_of (skip x r (ap (λ b. b && is_in_span span x.0) test))
    where
      test : nat_lt number x.1 ≡ false
      test = grind (arith, nat_tests)

  -- where no number is above this one
  pub late-none : (es : List Named) → AllByRecursion (λ (e : Named). e.1 ≤ number) es
      → first_of (filter (is_late_within number span) es) ≡ None
  late-none es most = ap first_of (none-late es (each es most))
    where
      each : (es : List Named) → AllByRecursion (λ (e : Named). e.1 ≤ number) es
          → AllByRecursion (λ e. is_late_within number span e ≡ false) es
      each [] most = tt
      each (e ∷ es) most = (ap (λ b. b && is_in_span span e.0) (test e most.0), each es most.1)
        where
          test : (e : Named) → e.1 ≤ number → nat_lt number e.1 ≡ false
          test e most = grind (arith, nat_tests)

-- ---- the greatest number

all-join : (P : Named → Type 0) (es fs : List Named) → AllByRecursion P es → AllByRecursion P fs → AllByRecursion P (es ++ fs)
all-join P [] fs here there = there
all-join P (e ∷ es) fs here there = (here.0, all-join P es fs here.1 there)

pub greatest-most : (tree : Tree) (n : ℕ) → IsWhole tree → greatest_of tree ≤ n → AllByRecursion (λ (e : Named). e.1 ≤ n) (named tree)
greatest-most Leaf n whole le = tt
greatest-most (Fork' p left key number least greatest height right) n whole le =
    let is = whole.1 in
    all-join (λ (e : Named). e.1 ≤ n) (named left) ((key, number) ∷ named right)
    (greatest-most left n whole.4 (omega arith)) (omega arith, greatest-most right n whole.5 (omega arith))

pub least-least : (tree : Tree) (n : ℕ) → IsWhole tree → n < least_of tree → AllByRecursion (λ (e : Named). n < e.1) (named tree)
least-least Leaf n whole lt = tt
least-least (Fork' p left key number least greatest height right) n whole lt =
    let is = whole.0 in
    all-join (λ (e : Named). n < e.1) (named left) ((key, number) ∷ named right)
    (least-least left n whole.4 (omega arith)) (omega arith, least-least right n whole.5 (omega arith))

-- ---- as the code has them

pub left_sorted : (n : Node) → is_sorted key_cmp (node_named n) ≡ true → is_sorted key_cmp (named n.left) ≡ true
left_sorted n sorted = (is_cut (named n.left) (n.key, n.number) (named n.right) sorted).left

pub right_sorted : (n : Node) → is_sorted key_cmp (node_named n) ≡ true → is_sorted key_cmp (named n.right) ≡ true
right_sorted n sorted = (is_cut (named n.left) (n.key, n.number) (named n.right) sorted).right

module _ (number : ℕ) (span : Span) (n : Node) where
  node-most : NodeWhole n → n.greatest ≤ number → AllByRecursion (λ (e : Named). e.1 ≤ number) (node_named n)
  node-most whole le =
      all-join (λ (e : Named). e.1 ≤ number) (named n.left) ((n.key, n.number) ∷ named n.right)
      (greatest-most n.left number whole.4 (let is = whole.1 in omega arith))
      ((let is = whole.1 in omega arith), greatest-most n.right number whole.5 (let is = whole.1 in omega arith))

  pub node-none : NodeWhole n → n.greatest ≤ number → first_of (filter (is_late_within number span) (node_named n)) ≡ None
  node-none whole le = late-none number span (node_named n) (node-most whole le)

  pub node-right : is_sorted key_cmp (node_named n) ≡ true → is_from span.lo n.key ≡ false
      → first_of (filter (is_late_within number span) (node_named n)) ≡ first_of (filter (is_late_within number span) (named n.right))
  node-right sorted below = ap first_of
      (late-right number span (named n.left) (n.key, n.number) (named n.right)
      (is_cut (named n.left) (n.key, n.number) (named n.right) sorted) below)

  pub node-left : is_sorted key_cmp (node_named n) ≡ true → is_up_to span.hi span.closed n.key ≡ false
      → first_of (filter (is_late_within number span) (node_named n)) ≡ first_of (filter (is_late_within number span) (named n.left))
  node-left sorted above = ap first_of
      (late-left number span (named n.left) (n.key, n.number) (named n.right)
      (is_cut (named n.left) (n.key, n.number) (named n.right) sorted) above)

  no-lesser : (found : Option Node) → found_named found ≡ first_of (filter (is_late_within number span) (named n.left))
      → is_some found ≡ false
      → first_of (filter (is_late_within number span) (named n.left)) ≡ None
  no-lesser None is none = sym is
  no-lesser (Some m) is none = absurd cc

  pub node-before : (found : Option Node)
      → found_named found ≡ first_of (filter (is_late_within number span) (named n.left)) → is_some found ≡ true
      → found_named found ≡ first_of (filter (is_late_within number span) (node_named n))
  node-before None is some = absurd cc
  node-before (Some m) is some = sym (late-before number span (named n.left) (n.key, n.number) (named n.right) (m.key, m.number) (sym is))

  module _ (found : Option Node)
      (is : found_named found ≡ first_of (filter (is_late_within number span) (named n.left))) (none : is_some found ≡ false) where
    pub node-here : is_from span.lo n.key ≡ true → is_up_to span.hi span.closed n.key ≡ true → number < n.number
        → first_of (filter (is_late_within number span) (node_named n)) ≡ Some (n.key, n.number)
    node-here from up_to above = late-here number span (named n.left) (n.key, n.number) (named n.right)
        (no-lesser found is none) from up_to above

    pub node-behind : n.number ≤ number
        → first_of (filter (is_late_within number span) (node_named n)) ≡ first_of (filter (is_late_within number span) (named n.right))
    node-behind le = late-behind number span (named n.left) (n.key, n.number) (named n.right) (no-lesser found is none) le

pub some-copied : {X : Type 0} (r : Option (Bor X)) → is_some (option_copied r) ≡ is_some r
some-copied None = refl
some-copied (Some x) = refl

-- ---- what is pruned

none-above : (floor : ℕ) (es : List Named) → AllByRecursion (λ (e : Named). e.1 ≤ floor) es → [] ≡ filter (is_above_floor floor) es
none-above floor [] most = refl
none-above floor (e ∷ es) most = none-above floor es most.1
    ∙ sym (ap (λ b. cond b (e ∷ filter (is_above_floor floor) es) (filter (is_above_floor floor) es)) test)
  where
    test : nat_lt floor e.1 ≡ false
    test = let le = most.0 in grind (arith, nat_tests)

all-above : (floor : ℕ) (es : List Named) → AllByRecursion (λ (e : Named). floor < e.1) es → es ≡ filter (is_above_floor floor) es
all-above floor [] above = refl
all-above floor (e ∷ es) above =
    ap (λ l. e ∷ l) (all-above floor es above.1)
    ∙ sym (ap (λ b. cond b (e ∷ filter (is_above_floor floor) es) (filter (is_above_floor floor) es)) test)
  where
    test : nat_lt floor e.1 ≡ true
    test = let lt = above.0 in grind (arith, nat_tests)

module _ (floor : ℕ) (n : Node) (whole : NodeWhole n) where
  pub all-go : n.greatest ≤ floor → [] ≡ filter (is_above_floor floor) (node_named n)
  all-go le = none-above floor (node_named n) (
      all-join (λ (e : Named). e.1 ≤ floor) (named n.left) ((n.key, n.number) ∷ named n.right)
      (greatest-most n.left floor whole.4 (let is = whole.1 in omega arith))
      ((let is = whole.1 in omega arith), greatest-most n.right floor whole.5 (let is = whole.1 in omega arith)))

  pub all-stay : floor < n.least → node_named n ≡ filter (is_above_floor floor) (node_named n)
  all-stay lt = all-above floor (node_named n) (
      all-join (λ (e : Named). floor < e.1) (named n.left) ((n.key, n.number) ∷ named n.right)
      (least-least n.left floor whole.4 (let is = whole.0 in omega arith))
      ((let is = whole.0 in omega arith), least-least n.right floor whole.5 (let is = whole.0 in omega arith)))

-- ---- what is put below a node

-- a half of a node may take another one
pub record MayTake (n : Node) (half : Tree) : Type 0 where
  pub sorted : is_sorted key_cmp (named half) ≡ true
  pub whole : IsWhole half
  pub low : height_of half < n.height

module _ (n : Node) (sorted : is_sorted key_cmp (node_named n) ≡ true) (whole : NodeWhole n) where
  pub left_may : (half : Tree) → half ≡ n.left → MayTake n half
  left_may half is =
      let height = whole.2 in
      let low : height_of n.left < n.height = omega arith in
      subst (MayTake n) (sym is) (record { sorted = left_sorted n sorted; whole = whole.4; low = low })

  pub right_may : (half : Tree) → half ≡ n.right → MayTake n half
  right_may half is =
      let height = whole.2 in
      let low : height_of n.right < n.height = omega arith in
      subst (MayTake n) (sym is) (record { sorted = right_sorted n sorted; whole = whole.5; low = low })

module _ (n : Node) (key : List ℕ) (number : ℕ) (left right : Tree) (left_is : left ≡ n.left) (right_is : right ≡ n.right)
    (sorted : is_sorted key_cmp (node_named n) ≡ true) where
  parts_are : (l : List Named) (x : Named) → l ++ x ∷ named right ≡ l ++ x ∷ named n.right
  parts_are l x = ap (λ (t : Tree). l ++ x ∷ named t) right_is

  pub put-below_left : key_cmp key n.key ≡ Less
      → put key_cmp key number (named left) ++ (n.key, n.number) ∷ named right ≡ put key_cmp key number (node_named n)
  put-below_left less =
      parts_are (put key_cmp key number (named left)) (n.key, n.number)
      ∙ ap (λ (t : Tree). put key_cmp key number (named t) ++ (n.key, n.number) ∷ named n.right) left_is
      ∙ sym (put-left key number (named n.left) (n.key, n.number) (named n.right) less)

  pub put-below_here : key_cmp key n.key ≡ Equal → named left ++ (n.key, number) ∷ named right ≡ put key_cmp key number (node_named n)
  put-below_here equal =
      parts_are (named left) (n.key, number) ∙ ap (λ (t : Tree). named t ++ (n.key, number) ∷ named n.right) left_is
      ∙ sym (put-here key number (named n.left) (n.key, n.number) (named n.right) equal
      (is_cut (named n.left) (n.key, n.number) (named n.right) sorted).before)

  pub put-below_right : key_cmp key n.key ≡ Greater
      → named left ++ (n.key, n.number) ∷ put key_cmp key number (named right) ≡ put key_cmp key number (node_named n)
  put-below_right greater =
      ap (λ (t : Tree). named left ++ (n.key, n.number) ∷ put key_cmp key number (named t)) right_is
      ∙ ap (λ (t : Tree). named t ++ (n.key, n.number) ∷ put key_cmp key number (named n.right)) left_is
      ∙ sym (put-right key number (named n.left) (n.key, n.number) (named n.right) greater
      (is_cut (named n.left) (n.key, n.number) (named n.right) sorted).before)
