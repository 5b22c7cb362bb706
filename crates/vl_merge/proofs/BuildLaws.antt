-- Laws of merging part by part: what a tree that was just made gives is what a merge of its sources gives.
use Rattle.std.proofs.Common.{◌≡◌, ℕ, zero, suc, ◌+◌, ◌*◌, ◌-◌, ◌/◌, ◌^◌, ◌≤◌, max, Bool, true, false, cond, List, []}
use Rattle.std.proofs.Common.{◌∷◌, ◌++◌, map, refl, ap, sym, ◌∙◌, subst, arith, Option, Some, None, Box, Global, inl}
use Rattle.std.proofs.Common.{inr}
use Rattle.std.proofs.lemmas.List.{map-append, append_assoc, length-append}
use Rattle.std.proofs.lemmas.List.Sums.{sum_by-append}
use Rattle.std.specs.List.{sum_by}
use Rattle.std.specs.Option.{option_map}
use Rattle.std.specs.Ordering.{is_gt}
use Rattle.vl_model.specs.declared.entry.Entry.{Entry}
use Rattle.vl_model.specs.declared.way.Way.{Way}
use Rattle.vl_model.specs.Merging.{place, merged, IsAlong}
use Rattle.vl_model.specs.Order.{way_cmp}
use Rattle.vl_merge.proofs.MergeLaws.{way_total, not_after, along-merged, place-later, place-here, merged-first}
use Rattle.vl_merge.specs.MergeOf.{OneMayFail, is_along, end_to_end, merge_of, pair_of}
use Rattle.vl_merge.proofs.TreeLaws.{along-is, pair-join, behind_more}
use Rattle.vl_merge.specs.ReadAhead.{left_of, budget_of}
use Rattle.vl_merge.specs.Trees.{MayFailIn, tree_left, tree_budget}
use Rattle.vl_merge.specs.Built.{leaves, height, IsUnread, TakesOff}
use Rattle.vl_merge.specs.declared.lookahead.Lookahead.TheVariants.{Unread}
use Rattle.vl_merge.specs.declared.tree.Tree.{Tree, Nothing, Source, Two'}

-- ---- merged part by part

pub turned_way : (way : Way) (e f : Entry) → is_gt (way_cmp way e f) ≡ true → is_gt (way_cmp way f e) ≡ false
turned_way way e f is = ap is_gt ((way_total way).antisymm f e) ∙ not_after (way_cmp way e f) is

-- two entries of which one comes behind the other may be placed one after the other either way
place-apart : (way : Way) (e f : Entry) (gs : List Entry) → is_gt (way_cmp way e f) ≡ true
    → place way f (place way e gs) ≡ place way e (place way f gs)
place-apart way e f [] behind = place-here way f e [] (turned_way way e f behind) ∙ sym (place-later way e f [] behind)
place-apart way e f (g ∷ gs) behind = by (place-apart way e f gs behind) (is_gt (way_cmp way f g)) (is_gt (way_cmp way e g)) refl refl
  where
    by : place way f (place way e gs) ≡ place way e (place way f gs) → (r s : Bool) → is_gt (way_cmp way f g) ≡ r
        → is_gt (way_cmp way e g) ≡ s
        → place way f (place way e (g ∷ gs)) ≡ place way e (place way f (g ∷ gs))
    by later true s fg eg =
        let behind_g = behind_both behind fg in
        ap (place way f) (place-later way e g gs behind_g) ∙ place-later way f g (place way e gs) fg ∙ ap (λ l. g ∷ l) later
        ∙ sym (ap (place way e) (place-later way f g gs fg) ∙ place-later way e g (place way f gs) behind_g)
      where
        behind_both : is_gt (way_cmp way e f) ≡ true → is_gt (way_cmp way f g) ≡ true → is_gt (way_cmp way e g) ≡ true
        behind_both ef fg = behind_more way g f e fg (turned_way way e f ef)
    by later false true fg eg =
        ap (place way f) (place-later way e g gs eg) ∙ place-here way f g (place way e gs) fg
        ∙ sym (ap (place way e) (place-here way f g gs fg) ∙ place-later way e f (g ∷ gs) behind
        ∙ ap (λ l. f ∷ l) (place-later way e g gs eg))
    by later false false fg eg =
        ap (place way f) (place-here way e g gs eg) ∙ place-here way f e (g ∷ gs) (turned_way way e f behind)
        ∙ sym (ap (place way e) (place-here way f g gs fg) ∙ place-later way e f (g ∷ gs) behind
        ∙ ap (λ l. f ∷ l) (place-here way e g gs eg))

merged-place : (way : Way) (e : Entry) (es gs : List Entry) → merged way (place way e es ++ gs) ≡ place way e (merged way (es ++ gs))
merged-place way e [] gs = refl
merged-place way e (f ∷ fs) gs = by (merged-place way e fs gs) (is_gt (way_cmp way e f)) refl
  where
    by : merged way (place way e fs ++ gs) ≡ place way e (merged way (fs ++ gs)) → (b : Bool) → is_gt (way_cmp way e f) ≡ b
        → merged way (place way e (f ∷ fs) ++ gs) ≡ place way e (place way f (merged way (fs ++ gs)))
    by later true is =
        ap (λ l. merged way (l ++ gs)) (place-later way e f fs is) ∙ ap (place way f) later ∙ place-apart way e f (merged way (fs ++ gs)) is
    by later false is = ap (λ l. merged way (l ++ gs)) (place-here way e f fs is)

merged-front : (way : Way) (es gs : List Entry) → merged way (merged way es ++ gs) ≡ merged way (es ++ gs)
merged-front way [] gs = refl
merged-front way (e ∷ es) gs = merged-place way e (merged way es) gs ∙ ap (place way e) (merged-front way es gs)

-- what goes along is merged already
pub merged-along : (way : Way) (es : List Entry) → IsAlong way es → merged way es ≡ es
merged-along way [] along = refl
merged-along way (e ∷ es) along = merged-first way [] e es tt along.0 ∙ ap (λ l. e ∷ l) (merged-along way es along.1)

merged-back : (way : Way) (es gs : List Entry) → merged way (es ++ merged way gs) ≡ merged way (es ++ gs)
merged-back way [] gs = merged-along way (merged way gs) (along-merged way gs)
merged-back way (e ∷ es) gs = ap (place way e) (merged-back way es gs)

-- ---- sources end to end

abbrev join : Option (List Entry) → Option (List Entry) → Option (List Entry)
join None t = None
join (Some es) t = option_map (λ fs. es ++ fs) t

join-more : (es : List Entry) (s t : Option (List Entry)) → option_map (λ fs. es ++ fs) (join s t) ≡ join (option_map (λ fs. es ++ fs) s) t
join-more es None t = refl
join-more es (Some fs) None = refl
join-more es (Some fs) (Some gs) = ap Some (sym (append_assoc es fs gs))

end_to_end-append : (way : Way) (ls ms : List (Option (List Entry)))
    → end_to_end way (ls ++ ms) ≡ join (end_to_end way ls) (end_to_end way ms)
end_to_end-append way [] ms = nothing (end_to_end way ms)
  where
    nothing : (t : Option (List Entry)) → t ≡ join (Some []) t
    nothing None = refl
    nothing (Some es) = refl
end_to_end-append way (None ∷ ls) ms = refl
end_to_end-append way (Some es ∷ ls) ms = ap (λ t. cond (is_along way es) (option_map (λ fs. es ++ fs) t) None)
    (end_to_end-append way ls ms) ∙ by (is_along way es)
  where
    by : (b : Bool) → cond b (option_map (λ fs. es ++ fs) (join (end_to_end way ls) (end_to_end way ms))) None ≡ join
        (cond b (option_map (λ fs. es ++ fs) (end_to_end way ls)) None) (end_to_end way ms)
    by true = join-more es (end_to_end way ls) (end_to_end way ms)
    by false = refl

-- a merge of two merges is the merge of all their sources
pub merge_of-append : (way : Way) (ls ms : List (Option (List Entry)))
    → pair_of way (merge_of way ls) (merge_of way ms) ≡ merge_of way (ls ++ ms)
merge_of-append way ls ms = by (end_to_end way ls) (end_to_end way ms) ∙ sym (ap (option_map (merged way)) (end_to_end-append way ls ms))
  where
    untold : (b : Bool) → option_map (merged way) (cond b None None) ≡ None
    untold true = refl
    untold false = refl

    by : (s t : Option (List Entry)) → pair_of way (option_map (merged way) s) (option_map (merged way) t) ≡ option_map
        (merged way) (join s t)
    by None t = refl
    by (Some es) None = untold (is_along way (merged way es))
    by (Some es) (Some fs) =
        pair-join way (merged way es) (merged way fs) (along-is way (merged way es) (along-merged way es))
        (along-is way (merged way fs) (along-merged way fs))
        ∙ ap Some (merged-front way es (merged way fs) ∙ merged-back way es fs)

-- ---- faults of sources

module _ {C F : Type 0} (may_fail : C → F → Type 0) (fault : F) where
  fails-newer : (newer older : List C) → OneMayFail may_fail newer fault → OneMayFail may_fail (newer ++ older) fault
  fails-newer [] older fails = absurd fails
  fails-newer (c ∷ cs) older fails = elim fails [ inl f ↦ inl f | inr f ↦ inr (fails-newer cs older f) ]

  fails-older : (newer older : List C) → OneMayFail may_fail older fault → OneMayFail may_fail (newer ++ older) fault
  fails-older [] older fails = fails
  fails-older (c ∷ cs) older fails = inr (fails-older cs older fails)

-- ---- a tree that was just made

module _ {C : Type 0} where
  pub left-planted : (left : C → Option (List Entry)) (way : Way) (tree : Tree C) → IsUnread tree
      → tree_left left way tree ≡ merge_of way (map left (leaves tree))
  left-planted left way Nothing unread = refl
  left-planted left way (Source c) unread = refl
  left-planted left way (Two' p newer first q older second) unread =
      ap (λ h. pair_of way (left_of h (tree_left left way newer)) (left_of second (tree_left left way older))) unread.0
      ∙ ap (λ h. pair_of way (tree_left left way newer) (left_of h (tree_left left way older))) unread.1
      ∙ ap (λ l. pair_of way l (tree_left left way older)) (left-planted left way newer unread.2)
      ∙ ap (pair_of way (merge_of way (map left (leaves newer)))) (left-planted left way older unread.3)
      ∙ merge_of-append way (map left (leaves newer)) (map left (leaves older))
      ∙ ap (merge_of way) (sym (map-append left (leaves newer) (leaves older)))

  pub budget-planted : (budget : C → ℕ) (tree : Tree C) → IsUnread tree → tree_budget budget tree ≡ sum_by budget (leaves tree)
  budget-planted budget Nothing unread = refl
  budget-planted budget (Source c) unread = omega arith
  budget-planted budget (Two' p newer first q older second) unread =
      ap (λ h. budget_of h (tree_budget budget newer) + budget_of second (tree_budget budget older)) unread.0
      ∙ ap (λ h. tree_budget budget newer + budget_of h (tree_budget budget older)) unread.1
      ∙ ap (λ n. n + tree_budget budget older) (budget-planted budget newer unread.2)
      ∙ ap (λ n. sum_by budget (leaves newer) + n) (budget-planted budget older unread.3)
      ∙ sym (sum_by-append budget (leaves newer) (leaves older))

  -- its fault is one of its sources'
  pub fails-planted : {F : Type 0} (may_fail : C → F → Type 0) (tree : Tree C) (fault : F) → MayFailIn may_fail tree fault
      → OneMayFail may_fail (leaves tree) fault
  fails-planted may_fail Nothing fault fails = fails
  fails-planted may_fail (Source c) fault fails = inl fails
  fails-planted may_fail (Two' p newer first q older second) fault fails = elim fails [
    | inl f ↦ fails-newer may_fail fault (leaves newer) (leaves older) (fails-planted may_fail newer fault f)
    | inr f ↦ fails-older may_fail fault (leaves newer) (leaves older) (fails-planted may_fail older fault f)
  ]

-- ---- making one

low_two : (n m a b : ℕ) → n ≤ m → m ≤ n + 1 → 2 ≤ n + m → ((h : ℕ) → n ≤ 2 ^ h → a ≤ h) → ((h : ℕ) → m ≤ 2 ^ h → b ≤ h)
    → (h : ℕ) → m + n ≤ 2 ^ h → max b a + 1 ≤ h
low_two n m a b le most two older newer zero few = absurd (omega arith)
low_two n m a b le most two older newer (suc h) few =
    let twice : 2 ^ suc h ≡ 2 * 2 ^ h = omega arith in
    let first = older h (omega arith) in
    let second = newer h (omega arith) in
    omega arith

module _ {C : Type 0} (p q : Box (Unit {0}) Global) where
  two_taken : (old some new : List C) (n m : ℕ) (older newer : Tree C) → n ≤ m → m ≤ n + 1 → 2 ≤ n + m
      → TakesOff old some n older → TakesOff some new m newer → TakesOff old new (n + m) (Two' p newer Unread q older Unread)
  two_taken old some new n m older newer le most two first second = record {
    whole = first.whole ∙ ap (λ l. l ++ leaves older) second.whole ∙ append_assoc new (leaves newer) (leaves older);
    number = let a = length-append (leaves newer) (leaves older) in let b = first.number in let c = second.number in omega arith;
    unread = (refl, refl, second.unread, first.unread);
    low = λ h few.
        let a = length-append (leaves newer) (leaves older) in
        let b = first.number in
        let c = second.number in
        low_two n m (height older) (height newer) le most two
        (λ h few. first.low h (omega arith)) (λ h few. second.low h (omega arith)) h (omega arith);
  }

  -- of two halves, as the code makes it
  pub halves_taken : (old some new : List C) (count : ℕ) (older newer as_older as_newer : Tree C) → 2 ≤ count
      → TakesOff old some (count / 2) older → TakesOff some new (count - count / 2) newer → as_older ≡ older → as_newer ≡ newer
      → TakesOff old new count (Two' p as_newer Unread q as_older Unread)
  halves_taken old some new count older newer as_older as_newer two first second is_older is_newer =
      subst (λ n. TakesOff old new n (Two' p as_newer Unread q as_older Unread)) (omega arith)
      (two_taken old some new (count / 2) (count - count / 2) as_older as_newer (omega arith) (omega arith) (omega arith)
      (subst (TakesOff old some (count / 2)) (sym is_older) first) (subst (TakesOff some new (count - count / 2)) (sym is_newer) second))
