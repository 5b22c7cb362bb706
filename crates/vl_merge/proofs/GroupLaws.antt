-- In what goes along a way the entries of each key stand together.
use Rattle.std.proofs.Common.{◌≡◌, Bool, true, false, cond, not, ◌&&◌, List, [], ◌∷◌, refl, ap, sym, ◌∙◌, subst, Option, Some, None}
use Rattle.std.proofs.lemmas.Cmp.{nat_list_cmp_total}
use Rattle.std.specs.Option.{option_map}
use Rattle.std.specs.Ordering.{is_gt, is_eq, eq_by_cmp, ordering_then, ordering_reverse, nat_cmp}
use Rattle.std.specs.declared.cmp.Ordering.{Ordering}
use Rattle.std.specs.declared.cmp.Ordering.TheVariants.{Less, Equal, Greater}
use Rattle.vl_model.specs.Keys.{key_cmp}
use Rattle.vl_model.specs.laws.WinnerLaws.{same_key}
use Rattle.vl_model.specs.declared.entry.Entry.{Entry}
use Rattle.vl_model.specs.declared.way.Way.{Way}
use Rattle.vl_model.specs.declared.way.Way.TheVariants.{Up, Down}
use Rattle.vl_model.specs.Merging.{merged, IsFirst, IsAlong}
use Rattle.vl_model.specs.Order.{way_cmp}
use Rattle.vl_merge.proofs.MergeLaws.{along-merged}
use Rattle.vl_merge.specs.MergeOf.{end_to_end}
use Rattle.vl_merge.specs.Grouped.{is_without, is_joined, is_grouped}
use Rattle.vl_merge.specs.ReadAhead.{left_of}
use Rattle.vl_merge.specs.Trees.{tree_left}
use Rattle.vl_merge.specs.declared.tree.Tree.{Tree, Nothing, Source, Two'}

not_greater : (r s : Ordering) → is_gt (ordering_then r s) ≡ false → is_gt r ≡ false
not_greater Less s is = refl
not_greater Equal s is = refl
not_greater Greater s is = absurd cc

-- keys of which none may come before the other are one
between : (r s : Ordering) → s ≡ ordering_reverse r → is_gt r ≡ false → is_gt s ≡ false → is_eq r ≡ true
between Less s is here there = absurd cc
between Equal s is here there = refl
between Greater s is here there = absurd cc

keys_along : (way : Way) (e f g : Entry) → is_gt (way_cmp way e f) ≡ false → is_gt (way_cmp way f g) ≡ false
    → e.key ≡ g.key → eq_by_cmp key_cmp e.key f.key ≡ true
keys_along Up e f g first later same =
    between (key_cmp e.key f.key) (key_cmp f.key e.key) (nat_list_cmp_total.antisymm f.key e.key)
    (not_greater (key_cmp e.key f.key) (nat_cmp f.version e.version) first)
    (ap (λ k. is_gt (key_cmp f.key k)) same ∙ not_greater (key_cmp f.key g.key) (nat_cmp g.version f.version) later)
keys_along Down e f g first later same =
    between (key_cmp e.key f.key) (key_cmp f.key e.key) (nat_list_cmp_total.antisymm f.key e.key)
    (ap (λ k. is_gt (key_cmp k f.key)) same ∙ not_greater (key_cmp g.key f.key) (nat_cmp f.version g.version) later)
    (not_greater (key_cmp f.key e.key) (nat_cmp e.version f.version) first)

without-along : (way : Way) (e f : Entry) (fs : List Entry) → is_gt (way_cmp way e f) ≡ false
    → eq_by_cmp key_cmp e.key f.key ≡ false → IsFirst way f fs
    → is_without e.key fs ≡ true
without-along way e f [] before apart first = refl
without-along way e f (g ∷ fs) before apart first = by (without-along way e f fs before apart first.1) (eq_by_cmp key_cmp e.key g.key) refl
  where
    by : is_without e.key fs ≡ true → (b : Bool) → eq_by_cmp key_cmp e.key g.key ≡ b → is_without e.key (g ∷ fs) ≡ true
    by later true is = let same : eq_by_cmp key_cmp e.key f.key ≡ true = keys_along way e f g before first.0
        (same_key e.key g.key is) in absurd (cc)
    by later false is = ap (λ b. not b && is_without e.key fs) is ∙ later

joined-along : (way : Way) (e : Entry) (es : List Entry) → IsFirst way e es → IsAlong way es → is_joined e.key es ≡ true
joined-along way e [] first along = refl
joined-along way e (f ∷ fs) first along = by (eq_by_cmp key_cmp e.key f.key) refl
  where
    by : (b : Bool) → eq_by_cmp key_cmp e.key f.key ≡ b → cond (eq_by_cmp key_cmp e.key f.key) true (is_without e.key fs) ≡ true
    by true is = ap (λ b. cond b true (is_without e.key fs)) is
    by false is = ap (λ b. cond b true (is_without e.key fs)) is ∙ without-along way e f fs first.0 is along.0

pub grouped-along : (way : Way) (es : List Entry) → IsAlong way es → is_grouped es ≡ true
grouped-along way [] along = refl
grouped-along way (e ∷ es) along = ap (λ b. b && is_grouped es) (joined-along way e es along.0 along.1) ∙ grouped-along way es along.1

-- what is left of a merge goes along its way
merge_of-along : (way : Way) (t : Option (List Entry)) (es : List Entry) → option_map (merged way) t ≡ Some es → IsAlong way es
merge_of-along way None es is = absurd (none_some is)
  where
    none_some : None ≡ Some es → ⊥
    none_some is = cc
merge_of-along way (Some all) es is = let same : merged way all ≡ es = cc in subst (IsAlong way) same (along-merged way all)

module _ {C : Type 0} where
  pub left-grouped : (left : C → Option (List Entry)) (way : Way) (tree : Tree C) (es : List Entry)
      → tree_left left way tree ≡ Some es → is_grouped es ≡ true
  left-grouped left way Nothing es is = let same : [] ≡ es = cc in ap is_grouped (sym same)
  left-grouped left way (Source c) es is = grouped-along way es (merge_of-along way (end_to_end way (left c ∷ [])) es is)
  left-grouped left way (Two' p newer first q older second) es is =
      grouped-along way es
      (merge_of-along way (end_to_end way
      (left_of first (tree_left left way newer) ∷ left_of second (tree_left left way older) ∷ [])) es is)
