-- What is known of the next entry of a source.
use Rattle.std.specs.Prelude.{ℕ, ◌+◌, Bool, true, false, List, [], ◌∷◌, Option, Some, None}
use Rattle.std.specs.Option.{option_map}
use Rattle.std.specs.Ordering.{is_gt}
use Rattle.vl_model.specs.declared.entry.Entry.{Entry}
use Rattle.vl_model.specs.declared.way.Way.{Way}
use Rattle.vl_model.specs.Order.{way_cmp}
use Rattle.vl_merge.specs.declared.lookahead.Lookahead.{Lookahead}
use Rattle.vl_merge.specs.declared.lookahead.Lookahead.TheVariants.{Unread, Next, End}

-- what is left of a source, by its head and what is left behind that
abbrev pub left_of : Lookahead → Option (List Entry) → Option (List Entry)
left_of Unread left = left
left_of (Next e) left = option_map (λ es. e ∷ es) left
left_of End left = option_map (λ _. []) left

abbrev pub budget_of : Lookahead → ℕ → ℕ
budget_of Unread budget = budget
budget_of (Next e) budget = budget + 1
budget_of End budget = budget

-- the next entry is known, or that there is none
abbrev pub IsKnown : Lookahead → Type 0
IsKnown Unread = ⊥
IsKnown (Next e) = Unit {0}
IsKnown End = Unit {0}

abbrev pub entry_of : Lookahead → Option Entry
entry_of Unread = None
entry_of (Next e) = Some e
entry_of End = None

-- the head once its entry was given
abbrev pub taken : Lookahead → Lookahead
taken Unread = Unread
taken (Next e) = Unread
taken End = End

-- whether an older source's head comes before a newer one's; of equal entries the newer one's does
abbrev pub takes_older : Way → Lookahead → Lookahead → Bool
takes_older way Unread older = true
takes_older way (Next e) Unread = false
takes_older way (Next e) (Next f) = is_gt (way_cmp way e f)
takes_older way (Next e) End = false
takes_older way End older = true
