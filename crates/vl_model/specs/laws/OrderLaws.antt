-- Laws of entries put in order: it may be done part by part, and what is in order stays as it is.
use Rattle.std.proofs.Common.{◌≡◌, ◌+◌, ◌≤◌, List, [], ◌∷◌, ◌++◌, length, refl, ap, sym, ◌∙◌, subst, arith, append-nil}
use Rattle.std.specs.List.{AllByRecursion}
use Rattle.std.specs.Cmp.{IsTotalOrder, nat_cmp_total, on_total, back_total, alike_right}
use Rattle.std.specs.Cmp.Lexicographic.{nat_list_cmp_total}
use Rattle.std.specs.Ordering.{ordering_then, ordering_reverse}
use Rattle.std.specs.declared.cmp.Ordering.{Ordering}
use Rattle.std.specs.declared.cmp.Ordering.TheVariants.{Less, Equal, Greater}
use Rattle.vl_model.specs.Entries.{entry_cmp, by_order, put, in_order}
use Rattle.vl_model.specs.declared.entry.Entry.{Entry}
use Rattle.vl_model.specs.EntryOrder.{IsInOrder}

-- ---- the order of entries is total

then-reverse : (r s : Ordering) → ordering_then (ordering_reverse r) (ordering_reverse s) ≡ ordering_reverse (ordering_then r s)
then-reverse Less s = refl
then-reverse Equal s = refl
then-reverse Greater s = refl

then_tied : (r s : Ordering) → ordering_then r s ≡ Equal → (r ≡ Equal) × (s ≡ Equal)
then_tied Less s is = absurd cc
then_tied Equal s is = (refl, is)
then_tied Greater s is = absurd cc

module _ {K : Type 0} {R S : K → K → Ordering} (o : IsTotalOrder R) (q : IsTotalOrder S) where
  after : K → K → Ordering
  after x y = ordering_then (R x y) (S x y)

  chained : (x y z : K) (r s : Ordering) → R x y ≡ r → R y z ≡ s → ordering_then r (S x y) ≡ Less
      → ordering_then s (S y z) ≡ Less → ordering_then (R x z) (S x z) ≡ Less
  chained x y z Less Less xy yz p t = ap (λ r. ordering_then r (S x z)) (o.trans x y z xy yz)
  chained x y z Less Equal xy yz p t = ap (λ r. ordering_then r (S x z)) (sym (alike_right o y z x yz) ∙ xy)
  chained x y z Less Greater xy yz p t = absurd cc
  chained x y z Equal Less xy yz p t = ap (λ r. ordering_then r (S x z)) (o.congr x y z xy ∙ yz)
  chained x y z Equal Equal xy yz p t = ap (λ r. ordering_then r (S x z)) (o.congr x y z xy ∙ yz) ∙ q.trans x y z p t
  chained x y z Equal Greater xy yz p t = absurd cc
  chained x y z Greater s xy yz p t = absurd cc

  pub then_total : IsTotalOrder (λ (x y : K). ordering_then (R x y) (S x y))
  then_total = record {
    antisymm = λ x y. ap (λ r. ordering_then r (S x y)) (o.antisymm x y)
        ∙ ap (ordering_then (ordering_reverse (R y x))) (q.antisymm x y) ∙ then-reverse (R y x) (S y x);
    trans = λ x y z p t. chained x y z (R x y) (R y z) refl refl p t;
    congr = λ x y z is.
        let both = then_tied (R x y) (S x y) is in
        ap (λ r. ordering_then r (S x z)) (o.congr x y z both.0) ∙ ap (ordering_then (R y z)) (q.congr x y z both.1);
  }

pub entry_total : IsTotalOrder entry_cmp
entry_total = then_total (on_total (λ (e : Entry). e.key) nat_list_cmp_total)
    (back_total (on_total (λ (e : Entry). e.version) nat_cmp_total))

pub turned : (e f : Entry) (r : Ordering) → entry_cmp e f ≡ r → entry_cmp f e ≡ ordering_reverse r
turned e f r is = entry_total.antisymm f e ∙ ap ordering_reverse is

-- ---- one entry put among others

pub put-less : (e f : Entry) (fs : List Entry) → entry_cmp e f ≡ Less → put e (f ∷ fs) ≡ e ∷ f ∷ fs
put-less e f fs is = ap (λ r. by_order r (e ∷ f ∷ fs) (e ∷ fs) (f ∷ put e fs)) is

pub put-equal : (e f : Entry) (fs : List Entry) → entry_cmp e f ≡ Equal → put e (f ∷ fs) ≡ e ∷ fs
put-equal e f fs is = ap (λ r. by_order r (e ∷ f ∷ fs) (e ∷ fs) (f ∷ put e fs)) is

pub put-greater : (e f : Entry) (fs : List Entry) → entry_cmp e f ≡ Greater → put e (f ∷ fs) ≡ f ∷ put e fs
put-greater e f fs is = ap (λ r. by_order r (e ∷ f ∷ fs) (e ∷ fs) (f ∷ put e fs)) is

-- two entries that don't tie may be put one after the other either way
pub put-apart : (e f : Entry) (gs : List Entry) → entry_cmp e f ≡ Less → put e (put f gs) ≡ put f (put e gs)
put-apart e f [] less = put-less e f [] less ∙ sym (put-greater f e [] (turned e f Less less))
put-apart e f (g ∷ gs) less = by (put-apart e f gs less) (entry_cmp f g) (entry_cmp e g) refl refl
  where
    greater : entry_cmp f e ≡ Greater
    greater = turned e f Less less

    by : put e (put f gs) ≡ put f (put e gs) → (r s : Ordering) → entry_cmp f g ≡ r → entry_cmp e g ≡ s
        → put e (put f (g ∷ gs)) ≡ put f (put e (g ∷ gs))
    by later Less s fg eg =
        let lower = entry_total.trans e f g less fg in
        ap (put e) (put-less f g gs fg) ∙ put-less e f (g ∷ gs) less
        ∙ sym (ap (put f) (put-less e g gs lower) ∙ put-greater f e (g ∷ gs) greater ∙ ap (λ l. e ∷ l) (put-less f g gs fg))
    by later Equal s fg eg =
        let lower = sym (alike_right entry_total f g e fg) ∙ less in
        ap (put e) (put-equal f g gs fg) ∙ put-less e f gs less
        ∙ sym (ap (put f) (put-less e g gs lower) ∙ put-greater f e (g ∷ gs) greater ∙ ap (λ l. e ∷ l) (put-equal f g gs fg))
    by later Greater Less fg eg =
        ap (put e) (put-greater f g gs fg) ∙ put-less e g (put f gs) eg
        ∙ sym (ap (put f) (put-less e g gs eg) ∙ put-greater f e (g ∷ gs) greater ∙ ap (λ l. e ∷ l) (put-greater f g gs fg))
    by later Greater Equal fg eg =
        ap (put e) (put-greater f g gs fg) ∙ put-equal e g (put f gs) eg
        ∙ sym (ap (put f) (put-equal e g gs eg) ∙ put-greater f e gs greater)
    by later Greater Greater fg eg =
        ap (put e) (put-greater f g gs fg) ∙ put-greater e g (put f gs) eg ∙ ap (λ l. g ∷ l) later
        ∙ sym (ap (put f) (put-greater e g gs eg) ∙ put-greater f g (put e gs) fg)

-- an entry takes the place of one of its key and version
pub put-over : (e f : Entry) (gs : List Entry) → entry_cmp e f ≡ Equal → put e (put f gs) ≡ put e gs
put-over e f [] tied = put-equal e f [] tied
put-over e f (g ∷ gs) tied = by (put-over e f gs tied) (entry_cmp f g) refl
  where
    by : put e (put f gs) ≡ put e gs → (r : Ordering) → entry_cmp f g ≡ r → put e (put f (g ∷ gs)) ≡ put e (g ∷ gs)
    by later Less fg =
        ap (put e) (put-less f g gs fg) ∙ put-equal e f (g ∷ gs) tied
        ∙ sym (put-less e g gs (entry_total.congr e f g tied ∙ fg))
    by later Equal fg =
        ap (put e) (put-equal f g gs fg) ∙ put-equal e f gs tied
        ∙ sym (put-equal e g gs (entry_total.congr e f g tied ∙ fg))
    by later Greater fg =
        let eg = entry_total.congr e f g tied ∙ fg in
        ap (put e) (put-greater f g gs fg) ∙ put-greater e g (put f gs) eg ∙ ap (λ l. g ∷ l) later
        ∙ sym (put-greater e g gs eg)

-- ---- part by part

in_order-put : (e : Entry) (xs ys : List Entry) → in_order (put e xs ++ ys) ≡ put e (in_order (xs ++ ys))
in_order-put e [] ys = refl
in_order-put e (x ∷ xs) ys = by (in_order-put e xs ys) (entry_cmp e x) refl
  where
    by : in_order (put e xs ++ ys) ≡ put e (in_order (xs ++ ys)) → (r : Ordering) → entry_cmp e x ≡ r
        → in_order (put e (x ∷ xs) ++ ys) ≡ put e (put x (in_order (xs ++ ys)))
    by later Less is = ap (λ l. in_order (l ++ ys)) (put-less e x xs is)
    by later Equal is = ap (λ l. in_order (l ++ ys)) (put-equal e x xs is) ∙ sym (put-over e x (in_order (xs ++ ys)) is)
    by later Greater is =
        ap (λ l. in_order (l ++ ys)) (put-greater e x xs is) ∙ ap (put x) later
        ∙ put-apart x e (in_order (xs ++ ys)) (turned e x Greater is)

-- to put the front in order first changes nothing
pub in_order-front : (xs ys : List Entry) → in_order (in_order xs ++ ys) ≡ in_order (xs ++ ys)
in_order-front [] ys = refl
in_order-front (x ∷ xs) ys = in_order-put x (in_order xs) ys ∙ ap (put x) (in_order-front xs ys)

-- what was put in order is in order
pub in_order-again : (xs : List Entry) → in_order (in_order xs) ≡ in_order xs
in_order-again xs = ap in_order (sym (append-nil (in_order xs))) ∙ in_order-front xs [] ∙ ap in_order (append-nil xs)

-- to put the back in order first changes nothing
pub in_order-back : (xs ys : List Entry) → in_order (xs ++ in_order ys) ≡ in_order (xs ++ ys)
in_order-back [] ys = in_order-again ys
in_order-back (x ∷ xs) ys = ap (put x) (in_order-back xs ys)

-- ---- how many

length-put : (e : Entry) (es : List Entry) → length (put e es) ≤ length es + 1
length-put e [] = omega arith
length-put e (f ∷ fs) =
    let later = length-put e fs in
    elim (entry_cmp e f) as (λ r. length (by_order r (e ∷ f ∷ fs) (e ∷ fs) (f ∷ put e fs)) ≤ length (f ∷ fs) + 1) [
      | Less ↦ omega arith
      | Equal ↦ omega arith
      | Greater ↦ omega (arith, later)
    ]

pub length-in_order : (es : List Entry) → length (in_order es) ≤ length es
length-in_order [] = omega arith
length-in_order (e ∷ es) = omega (arith, length-put e (in_order es), length-in_order es)

-- ---- rising

-- the entry comes before all of these
abbrev pub IsBefore : Entry → List Entry → Type 0
IsBefore e es = AllByRecursion (λ f. entry_cmp e f ≡ Less) es

abbrev pub IsRising : List Entry → Type 0
IsRising [] = Unit {0}
IsRising (e ∷ es) = IsBefore e es × IsRising es

pub before-all : (e f : Entry) (es : List Entry) → entry_cmp e f ≡ Less → IsBefore f es → IsBefore e es
before-all e f [] less before = tt
before-all e f (g ∷ es) less before = (entry_total.trans e f g less before.0, before-all e f es less before.1)

before-tied : (e f : Entry) (es : List Entry) → entry_cmp e f ≡ Equal → IsBefore f es → IsBefore e es
before-tied e f [] tied before = tt
before-tied e f (g ∷ es) tied before = (entry_total.congr e f g tied ∙ before.0, before-tied e f es tied before.1)

before-put : (e f : Entry) (es : List Entry) → entry_cmp f e ≡ Less → IsBefore f es → IsBefore f (put e es)
before-put e f [] less before = (less, tt)
before-put e f (g ∷ es) less before = elim (entry_cmp e g) as (λ r. IsBefore f (by_order r (e ∷ g ∷ es) (e ∷ es) (g ∷ put e es))) [
  | Less ↦ (less, before)
  | Equal ↦ (less, before.1)
  | Greater ↦ (before.0, before-put e f es less before.1)
]

rising-put : (e : Entry) (es : List Entry) → IsRising es → IsRising (put e es)
rising-put e [] rising = (tt, tt)
rising-put e (f ∷ fs) rising = by (rising-put e fs rising.1) (entry_cmp e f) refl
  where
    by : IsRising (put e fs) → (r : Ordering) → entry_cmp e f ≡ r → IsRising (put e (f ∷ fs))
    by later Less is = subst IsRising (sym (put-less e f fs is)) ((is, before-all e f fs is rising.0), rising)
    by later Equal is = subst IsRising (sym (put-equal e f fs is)) (before-tied e f fs is rising.0, rising.1)
    by later Greater is = subst IsRising (sym (put-greater e f fs is)) (before-put e f fs (turned e f Greater is) rising.0, later)

pub rising-in_order : (es : List Entry) → IsRising (in_order es)
rising-in_order [] = tt
rising-in_order (e ∷ es) = rising-put e (in_order es) (rising-in_order es)

pub rising : (es : List Entry) → IsInOrder es → IsRising es
rising es is = subst IsRising is (rising-in_order es)

put-before : (e : Entry) (es : List Entry) → IsBefore e es → put e es ≡ e ∷ es
put-before e [] before = refl
put-before e (f ∷ fs) before = put-less e f fs before.0

pub in_order-rising : (es : List Entry) → IsRising es → IsInOrder es
in_order-rising [] rising = refl
in_order-rising (e ∷ es) rising = ap (put e) (in_order-rising es rising.1) ∙ put-before e es rising.0

-- ---- the least of several goes first

all-in_order : (P : Entry → Type 0) (es : List Entry) → AllByRecursion P es → AllByRecursion P (in_order es)
all-in_order P [] all = tt
all-in_order P (e ∷ es) all = all-put P e (in_order es) all.0 (all-in_order P es all.1)
  where
    all-put : (P : Entry → Type 0) (e : Entry) (es : List Entry) → P e → AllByRecursion P es → AllByRecursion P (put e es)
    all-put P e [] here all = (here, tt)
    all-put P e (f ∷ fs) here all = elim (entry_cmp e f) as (λ r. AllByRecursion P (by_order r (e ∷ f ∷ fs) (e ∷ fs) (f ∷ put e fs))) [
      | Less ↦ (here, all)
      | Equal ↦ (here, all.1)
      | Greater ↦ (all.0, all-put P e fs here all.1)
    ]

pub all-append : (P : Entry → Type 0) (es fs : List Entry) → AllByRecursion P es → AllByRecursion P fs → AllByRecursion P (es ++ fs)
all-append P [] fs here there = there
all-append P (e ∷ es) fs here there = (here.0, all-append P es fs here.1 there)

pub in_order-least : (es : List Entry) (f : Entry) (fs : List Entry) → IsBefore f es → IsBefore f fs
    → in_order (es ++ f ∷ fs) ≡ f ∷ in_order (es ++ fs)
in_order-least [] f fs before after = put-before f (in_order fs) (all-in_order (λ g. entry_cmp f g ≡ Less) fs after)
in_order-least (e ∷ es) f fs before after =
    ap (put e) (in_order-least es f fs before.1 after) ∙ put-greater e f (in_order (es ++ fs)) (turned f e Less before.0)
