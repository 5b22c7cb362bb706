-- What is known of the visible entries of a merge, by what is known of its sources.
use Rattle.std.specs.Prelude.{◌⊎◌, ℕ, Bool, List, Option}
use Rattle.vl_model.specs.declared.entry.Entry.{Entry}
use Rattle.vl_merge.specs.Held.{held_budget, visible_left}
use Rattle.vl_merge.specs.Standing.{IsMetBy, IsUpward, StandsIn}
use Rattle.vl_merge.specs.Trees.{MayFailIn, tree_budget, tree_left}
use Rattle.vl_merge.specs.declared.visible.Visible.{Visible}

module _ {C : Type 0} where
  abbrev pub seen_left : (C → Option (List Entry)) → Visible C → Option (List Entry)
  seen_left left v = visible_left v.hides v.number v.held (tree_left left v.merge.way v.merge.sources)

  abbrev pub seen_budget : (C → ℕ) → Visible C → ℕ
  seen_budget budget v = held_budget v.held (tree_budget budget v.merge.sources)

  abbrev pub SeenMayFail : {F : Type 0} → (C → F → Type 0) → Visible C → F → Type 0
  SeenMayFail may_fail v fault = MayFailIn may_fail v.merge.sources fault

  abbrev pub SeenStands : (C → (Entry → Bool) → Type 0) → Visible C → (Entry → Bool) → Type 0
  SeenStands stands_to v is_met = IsMetBy is_met v.held ⊎ (IsUpward v.merge.way is_met → StandsIn stands_to is_met v.merge.sources)

  -- what is left of the merge
  abbrev pub merged_left : (C → Option (List Entry)) → Visible C → Option (List Entry)
  merged_left left v = tree_left left v.merge.way v.merge.sources
