-- Entries of which those of one key stand together.
use Rattle.std.specs.Prelude.{ℕ, Bool, true, not, ◌&&◌, if◌then◌else◌, List, [], ◌∷◌}
use Rattle.std.specs.Ordering.{eq_by_cmp}
use Rattle.vl_model.specs.Keys.{key_cmp}
use Rattle.vl_model.specs.declared.entry.Entry.{Entry}

-- whether no entry is of the key
abbrev pub is_without : List ℕ → List Entry → Bool
is_without key [] = true
is_without key (e ∷ es) = not (eq_by_cmp key_cmp key e.key) && is_without key es

-- whether the first is of the key, or none is
abbrev pub is_joined : List ℕ → List Entry → Bool
is_joined key [] = true
is_joined key (e ∷ es) = if eq_by_cmp key_cmp key e.key then true else is_without key es

-- whether the entries of each key stand together
abbrev pub is_grouped : List Entry → Bool
is_grouped [] = true
is_grouped (e ∷ es) = is_joined e.key es && is_grouped es
