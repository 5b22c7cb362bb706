-- What is left of a cursor that holds the best entry of a key whose entries it is reading.
use Rattle.std.specs.Prelude.{ℕ, ◌+◌, Bool, true, ◌&&◌, if◌then◌else◌, List, ◌∷◌, Option, Some, None}
use Rattle.std.specs.Ordering.{eq_by_cmp}
use Rattle.vl_model.specs.Keys.{key_cmp}
use Rattle.vl_model.specs.Winners.{newest_of}
use Rattle.vl_model.specs.declared.entry.Entry.{Entry}
use Rattle.vl_merge.specs.Grouped.{is_grouped}
use Rattle.vl_merge.specs.Visible.{is_counted, is_hidden, visible}
use Rattle.vl_merge.specs.declared.hides.Hides.{Hides}

-- the entry that is held, in front of others
abbrev pub held_first : Option Entry → List Entry → List Entry
held_first None es = es
held_first (Some h) es = h ∷ es

abbrev pub is_held_counted : ℕ → Option Entry → Bool
is_held_counted number None = true
is_held_counted number (Some h) = is_counted number h

-- what is visible of the entry held and those behind it, where these are told and the entries of each
-- key stand together
abbrev pub visible_left : Hides → ℕ → Option Entry → Option (List Entry) → Option (List Entry)
visible_left hides number held None = None
visible_left hides number held (Some es) =
    if is_grouped (held_first held es) && is_held_counted number held
    then Some (visible hides number (held_first held es))
    else None

abbrev pub held_budget : Option Entry → ℕ → ℕ
held_budget None budget = budget
held_budget (Some h) budget = budget + 1

-- ---- one entry more

-- the newest one of its key so far, where it counts
abbrev pub held_with : Option Entry → Entry → Option Entry
held_with None e = Some e
held_with (Some h) e = if eq_by_cmp key_cmp h.key e.key then newest_of (Some h) (Some e) else Some e

abbrev pub held_after : ℕ → Option Entry → Entry → Option Entry
held_after number held e = if is_counted number e then held_with held e else held

abbrev pub only_shown : Hides → Option Entry → Option Entry
only_shown hides None = None
only_shown hides (Some e) = if is_hidden hides e then None else Some e

-- the winner of the key before, once one of another key counts
abbrev pub passed_by : Hides → Option Entry → Entry → Option Entry
passed_by hides None e = None
passed_by hides (Some h) e = if eq_by_cmp key_cmp h.key e.key then None else only_shown hides (Some h)

abbrev pub passed : Hides → ℕ → Option Entry → Entry → Option Entry
passed hides number held e = if is_counted number e then passed_by hides held e else None
