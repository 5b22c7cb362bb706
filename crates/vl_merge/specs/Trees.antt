-- What a tree of sources stands for.
use Rattle.std.specs.Prelude.{ℕ, ◌+◌, ◌⊎◌, List, [], ◌∷◌, Option, Some}
use Rattle.vl_model.specs.declared.entry.Entry.{Entry}
use Rattle.vl_model.specs.declared.way.Way.{Way}
use Rattle.vl_merge.specs.MergeOf.{merge_of, pair_of}
use Rattle.vl_merge.specs.ReadAhead.{left_of, budget_of}
use Rattle.vl_merge.specs.declared.lookahead.Lookahead.{Lookahead}
use Rattle.vl_merge.specs.declared.tree.Tree.{Tree, Nothing, Source, Two'}

module _ {C : Type 0} where
  -- what is left of a tree of sources, from what is left of each
  abbrev pub tree_left : (C → Option (List Entry)) → Way → Tree C → Option (List Entry)
  tree_left left way Nothing = Some []
  tree_left left way (Source c) = merge_of way (left c ∷ [])
  tree_left left way (Two' p newer first q older second) =
      pair_of way (left_of first (tree_left left way newer)) (left_of second (tree_left left way older))

  abbrev pub tree_budget : (C → ℕ) → Tree C → ℕ
  tree_budget budget Nothing = 0
  tree_budget budget (Source c) = budget c
  tree_budget budget (Two' p newer first q older second) =
      budget_of first (tree_budget budget newer) + budget_of second (tree_budget budget older)

  -- a fault of a tree of sources is one of theirs, from what a fault of each may be
  abbrev pub MayFailIn : {F : Type 0} → (C → F → Type 0) → Tree C → F → Type 0
  MayFailIn may_fail Nothing fault = ⊥
  MayFailIn may_fail (Source c) fault = may_fail c fault
  MayFailIn may_fail (Two' p newer first q older second) fault = MayFailIn may_fail newer fault ⊎ MayFailIn may_fail older fault

  -- what is left of a half of a tree, with its head
  abbrev pub half_left : (C → Option (List Entry)) → Way → Lookahead → Tree C → Option (List Entry)
  half_left left way head half = left_of head (tree_left left way half)

  abbrev pub half_budget : (C → ℕ) → Lookahead → Tree C → ℕ
  half_budget budget head half = budget_of head (tree_budget budget half)

  -- and of both halves
  abbrev pub two_left : (C → Option (List Entry)) → Way → Tree C → Lookahead → Tree C → Lookahead → Option (List Entry)
  two_left left way newer first older second =
      pair_of way (half_left left way first newer) (half_left left way second older)

  abbrev pub two_budget : (C → ℕ) → Tree C → Lookahead → Tree C → Lookahead → ℕ
  two_budget budget newer first older second = half_budget budget first newer + half_budget budget second older
