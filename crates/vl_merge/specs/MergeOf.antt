-- What a merge gives, from what its sources have left, where that is told.
use Rattle.std.specs.Prelude.{◌⊎◌, Bool, true, not, ◌&&◌, if◌then◌else◌, List, [], ◌∷◌, ◌++◌, Option, Some, None}
use Rattle.std.specs.Option.{option_map}
use Rattle.std.specs.Ordering.{is_gt}
use Rattle.vl_model.specs.declared.entry.Entry.{Entry}
use Rattle.vl_model.specs.declared.way.Way.{Way}
use Rattle.vl_model.specs.Merging.{merged}
use Rattle.vl_model.specs.Order.{way_cmp}

abbrev pub is_first : Way → Entry → List Entry → Bool
is_first way e [] = true
is_first way e (f ∷ fs) = not (is_gt (way_cmp way e f)) && is_first way e fs

-- whether the entries stand as the way goes
abbrev pub is_along : Way → List Entry → Bool
is_along way [] = true
is_along way (e ∷ es) = is_first way e es && is_along way es

-- the entries of sources end to end, where each source is told and goes along the way
abbrev pub end_to_end : Way → List (Option (List Entry)) → Option (List Entry)
end_to_end way [] = Some []
end_to_end way (None ∷ rest) = None
end_to_end way (Some es ∷ rest) = if is_along way es then option_map (λ fs. es ++ fs) (end_to_end way rest) else None

-- what a merge of sources gives, from what is left of each
abbrev pub merge_of : Way → List (Option (List Entry)) → Option (List Entry)
merge_of way lefts = option_map (merged way) (end_to_end way lefts)

-- of two sources, the newer one first
abbrev pub pair_of : Way → Option (List Entry) → Option (List Entry) → Option (List Entry)
pair_of way newer older = merge_of way (newer ∷ older ∷ [])

-- the fault is one of some of these sources, from what a fault of each may be
abbrev pub OneMayFail : {C F : Type 0} → (C → F → Type 0) → List C → F → Type 0
OneMayFail may_fail [] fault = ⊥
OneMayFail may_fail (c ∷ cs) fault = may_fail c fault ⊎ OneMayFail may_fail cs fault
