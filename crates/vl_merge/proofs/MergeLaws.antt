-- Laws of entries merged: one list in order, that has all of them and the same winners.
use Rattle.std.proofs.Common.{◌≡◌, ℕ, Bool, true, false, cond, List, [], ◌∷◌, ◌++◌, length, refl, ap, sym, ◌∙◌, subst, arith}
use Rattle.std.specs.List.{AllByRecursion}
use Rattle.std.specs.Cmp.{IsTotalOrder, back_total, upto}
use Rattle.std.proofs.lemmas.Cmp.{then_total, on_total, nat_cmp_total, nat_list_cmp_total}
use Rattle.std.proofs.lemmas.Bool.{and_parts}
use Rattle.std.proofs.lemmas.Bool.Decides.{nat_tests}
use Rattle.std.specs.Ordering.{is_gt, ordering_reverse, ordering_then, nat_cmp, eq_by_cmp}
use Rattle.std.specs.Prelude.{◌==◌, Option, Some}
use Rattle.std.specs.declared.cmp.Ordering.{Ordering}
use Rattle.std.specs.declared.cmp.Ordering.TheVariants.{Less, Equal, Greater}
use Rattle.vl_model.specs.Keys.{key_cmp}
use Rattle.vl_model.specs.Entries.{entry_cmp, by_order, is_at}
use Rattle.vl_model.specs.Winners.{counts, only_if, newest_of, winner, exact}
use Rattle.vl_model.specs.laws.WinnerLaws.{winner-append, winner-put, same_key, key_tied}
use Rattle.vl_model.specs.declared.entry.Entry.{Entry}
use Rattle.vl_model.specs.declared.way.Way.{Way}
use Rattle.vl_model.specs.declared.way.Way.TheVariants.{Up, Down}
use Rattle.vl_model.specs.Merging.{place, merged, IsFirst, IsAlong}
use Rattle.vl_model.specs.Order.{way_cmp}

entry_total : IsTotalOrder entry_cmp
entry_total = then_total (on_total (λ (e : Entry). e.key) nat_list_cmp_total)
    (back_total (on_total (λ (e : Entry). e.version) nat_cmp_total))

pub way_total : (way : Way) → IsTotalOrder (way_cmp way)
way_total Up = entry_total
way_total Down = back_total entry_total

pub place-later : (way : Way) (e f : Entry) (fs : List Entry) → is_gt (way_cmp way e f) ≡ true → place way e (f ∷ fs) ≡ f ∷ place way e fs
place-later way e f fs is = ap (λ b. cond b (f ∷ place way e fs) (e ∷ f ∷ fs)) is

pub place-here : (way : Way) (e f : Entry) (fs : List Entry) → is_gt (way_cmp way e f) ≡ false → place way e (f ∷ fs) ≡ e ∷ f ∷ fs
place-here way e f fs is = ap (λ b. cond b (f ∷ place way e fs) (e ∷ f ∷ fs)) is

greater : (r : Ordering) → is_gt r ≡ true → r ≡ Greater
greater Less is = absurd cc
greater Equal is = absurd cc
greater Greater is = refl

pub not_after : (r : Ordering) → is_gt r ≡ true → is_gt (ordering_reverse r) ≡ false
not_after Less is = absurd cc
not_after Equal is = absurd cc
not_after Greater is = refl

-- ---- all of them, in order

all-place : (P : Entry → Type 0) (way : Way) (e : Entry) (es : List Entry) → P e → AllByRecursion P es → AllByRecursion P (place way e es)
all-place P way e [] here all = (here, tt)
all-place P way e (f ∷ fs) here all = elim (is_gt (way_cmp way e f)) as (λ b. AllByRecursion P (cond b (f ∷ place way e fs) (e ∷ f ∷ fs))) [
  | true ↦ (all.0, all-place P way e fs here all.1)
  | false ↦ (here, all)
]

all-merged : (P : Entry → Type 0) (way : Way) (es : List Entry) → AllByRecursion P es → AllByRecursion P (merged way es)
all-merged P way [] all = tt
all-merged P way (e ∷ es) all = all-place P way e (merged way es) all.0 (all-merged P way es all.1)

length-place : (way : Way) (e : Entry) (es : List Entry) → length (place way e es) ≡ length (e ∷ es)
length-place way e [] = refl
length-place way e (f ∷ fs) =
    let later = length-place way e fs in
    elim (is_gt (way_cmp way e f)) as (λ b. length (cond b (f ∷ place way e fs) (e ∷ f ∷ fs)) ≡ length (e ∷ f ∷ fs)) [
      | true ↦ omega (arith, later)
      | false ↦ refl
    ]

pub length-merged : (way : Way) (es : List Entry) → length (merged way es) ≡ length es
length-merged way [] = refl
length-merged way (e ∷ es) = let here = length-place way e (merged way es) in let later = length-merged way es in omega arith

pub first-all : (way : Way) (e f : Entry) (fs : List Entry) → is_gt (way_cmp way e f) ≡ false → IsFirst way f fs → IsFirst way e fs
first-all way e f [] here first = tt
first-all way e f (g ∷ fs) here first = (upto (way_total way) e f g here first.0, first-all way e f fs here first.1)

along-place : (way : Way) (e : Entry) (es : List Entry) → IsAlong way es → IsAlong way (place way e es)
along-place way e [] are = (tt, tt)
along-place way e (f ∷ fs) are = by (along-place way e fs are.1) (is_gt (way_cmp way e f)) refl
  where
    by : IsAlong way (place way e fs) → (b : Bool) → is_gt (way_cmp way e f) ≡ b → IsAlong way (place way e (f ∷ fs))
    by later true is =
        let behind : is_gt (way_cmp way f e) ≡ false = ap is_gt ((way_total way).antisymm f e) ∙ not_after (way_cmp way e f) is in
        subst (IsAlong way) (sym (place-later way e f fs is))
        (all-place (λ g. is_gt (way_cmp way f g) ≡ false) way e fs behind are.0, later)
    by later false is = subst (IsAlong way) (sym (place-here way e f fs is)) ((is, first-all way e f fs is are.0), are)

pub along-merged : (way : Way) (es : List Entry) → IsAlong way (merged way es)
along-merged way [] = tt
along-merged way (e ∷ es) = along-place way e (merged way es) (along-merged way es)

-- ---- the same winners

tied : (m n : ℕ) → m ≡ n → nat_cmp m n ≡ Equal
tied m n same = grind (arith, nat_tests)

at_tied : (key : List ℕ) (version : ℕ) (e f : Entry) → is_at key version e ≡ true → is_at key version f ≡ true → entry_cmp e f ≡ Equal
at_tied key version e f at_e at_f =
    let of_e = and_parts (eq_by_cmp key_cmp key e.key) (e.version == version) at_e in
    let of_f = and_parts (eq_by_cmp key_cmp key f.key) (f.version == version) at_f in
    let keys : key_cmp e.key f.key ≡ Equal = ap (key_cmp e.key)
    (sym (same_key key f.key of_f.0) ∙ same_key key e.key of_e.0) ∙ key_tied e.key in
    let versions : f.version ≡ e.version = (let a = of_e.1 in let b = of_f.1 in grind (arith, nat_tests)) in
    ap (λ r. ordering_then r (nat_cmp f.version e.version)) keys ∙ tied f.version e.version versions

module _ (key : List ℕ) (number : ℕ) where
  -- of two entries of which one comes behind the other either may stand first
  winner-swap : (e f : Entry) (gs : List Entry) → entry_cmp e f ≡ Greater → winner (f ∷ e ∷ gs) key number ≡ winner (e ∷ f ∷ gs) key number
  winner-swap e f gs greater =
      let two : winner (f ∷ e ∷ []) key number ≡ winner (e ∷ f ∷ []) key number
      = ap (λ l. winner l key number) (sym (ap (λ r. by_order r (e ∷ f ∷ []) (e ∷ []) (f ∷ e ∷ [])) greater))
      ∙ winner-put key number e (f ∷ []) in
      winner-append key number (f ∷ e ∷ []) gs ∙ ap (λ w. newest_of w (winner gs key number)) two
      ∙ sym (winner-append key number (e ∷ f ∷ []) gs)

  exact-swap : (e f : Entry) (gs : List Entry) → entry_cmp e f ≡ Greater → exact (f ∷ e ∷ gs) key number ≡ exact (e ∷ f ∷ gs) key number
  exact-swap e f gs greater = by (is_at key number e) (is_at key number f) refl refl
    where
      by : (p q : Bool) → is_at key number e ≡ p → is_at key number f ≡ q
          → cond q (Some f) (cond p (Some e) (exact gs key number)) ≡ cond p (Some e) (cond q (Some f) (exact gs key number))
      by true true at_e at_f = let equal : entry_cmp e f ≡ Equal = at_tied key number e f at_e at_f in absurd (cc)
      by true false at_e at_f = refl
      by false true at_e at_f = refl
      by false false at_e at_f = refl

module _ (look_up : List Entry → Option Entry) (add : Entry → Option Entry → Option Entry)
    (adds : (e : Entry) (es : List Entry) → look_up (e ∷ es) ≡ add e (look_up es))
    (swaps : (e f : Entry) (gs : List Entry) → entry_cmp e f ≡ Greater → look_up (f ∷ e ∷ gs) ≡ look_up (e ∷ f ∷ gs)) where
  swaps_way : (way : Way) (e f : Entry) (gs : List Entry) → way_cmp way e f ≡ Greater → look_up (f ∷ e ∷ gs) ≡ look_up (e ∷ f ∷ gs)
  swaps_way Up e f gs greater = swaps e f gs greater
  swaps_way Down e f gs greater = sym (swaps f e gs greater)

  -- an entry at its place is found as one in front is
  found-place : (way : Way) (e : Entry) (es : List Entry) → look_up (place way e es) ≡ look_up (e ∷ es)
  found-place way e [] = refl
  found-place way e (f ∷ fs) = by (found-place way e fs) (is_gt (way_cmp way e f)) refl
    where
      by : look_up (place way e fs) ≡ look_up (e ∷ fs) → (b : Bool) → is_gt (way_cmp way e f) ≡ b
          → look_up (place way e (f ∷ fs)) ≡ look_up (e ∷ f ∷ fs)
      by later true is =
          ap look_up (place-later way e f fs is) ∙ adds f (place way e fs) ∙ ap (add f) later ∙ sym (adds f (e ∷ fs))
          ∙ swaps_way way e f fs (greater (way_cmp way e f) is)
      by later false is = ap look_up (place-here way e f fs is)

  found-merged : (way : Way) (es : List Entry) → look_up (merged way es) ≡ look_up es
  found-merged way [] = refl
  found-merged way (e ∷ es) = found-place way e (merged way es) ∙ adds e (merged way es)
      ∙ ap (add e) (found-merged way es) ∙ sym (adds e es)

pub winner-merged : (way : Way) (es : List Entry) (key : List ℕ) (number : ℕ) → winner (merged way es) key number ≡ winner es key number
winner-merged way es key number =
    found-merged (λ l. winner l key number) (λ e w. newest_of (only_if (counts key number e) e) w) (λ e es. refl)
    (winner-swap key number) way es

pub exact-merged : (way : Way) (es : List Entry) (key : List ℕ) (version : ℕ) → exact (merged way es) key version ≡ exact es key version
exact-merged way es key version =
    found-merged (λ l. exact l key version) (λ e x. cond (is_at key version e) (Some e) x) (λ e es. refl) (exact-swap key version) way es

-- ---- one at a time

place-first : (way : Way) (e : Entry) (es : List Entry) → IsFirst way e es → place way e es ≡ e ∷ es
place-first way e [] first = refl
place-first way e (f ∷ fs) first = place-here way e f fs first.0

-- an entry that comes before all of newer sources, and isn't behind any of its own and older ones,
-- is the first of the merged ones
pub merged-first : (way : Way) (newer : List Entry) (e : Entry) (rest : List Entry)
    → AllByRecursion (λ f. is_gt (way_cmp way f e) ≡ true) newer → IsFirst way e rest
    → merged way (newer ++ e ∷ rest) ≡ e ∷ merged way (newer ++ rest)
merged-first way [] e rest before first = place-first way e (merged way rest)
    (all-merged (λ f. is_gt (way_cmp way e f) ≡ false) way rest first)
merged-first way (f ∷ newer) e rest before first =
    ap (place way f) (merged-first way newer e rest before.1 first) ∙ place-later way f e (merged way (newer ++ rest)) before.0
