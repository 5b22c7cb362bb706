-- What a reader sees of entries at a number.
use Rattle.std.specs.Prelude.{ℕ, Bool, not, nat_le, if◌then◌else◌, List, [], ◌∷◌, Option, Some, None}
use Rattle.std.specs.List.{filter, flat_map}
use Rattle.std.specs.Ordering.{eq_by_cmp}
use Rattle.vl_model.specs.Keys.{key_cmp}
use Rattle.vl_model.specs.Entries.{is_gone}
use Rattle.vl_model.specs.Winners.{winner}
use Rattle.vl_model.specs.declared.entry.Entry.{Entry}
use Rattle.vl_merge.specs.declared.hides.Hides.{Hides}
use Rattle.vl_merge.specs.declared.hides.Hides.TheVariants.{Gone, UpTo}

-- whether the version is at most the number
abbrev pub is_counted : ℕ → Entry → Bool
is_counted number e = nat_le e.version number

-- the keys of entries, each once, in the order in which they come first
abbrev pub keys_of : List Entry → List (List ℕ)
keys_of [] = []
keys_of (e ∷ es) = e.key ∷ filter (λ key. not (eq_by_cmp key_cmp e.key key)) (keys_of es)

-- which winners aren't shown: deletions; or those whose version is at most a number, where deletions are shown
abbrev pub is_hidden : Hides → Entry → Bool
is_hidden Gone e = is_gone e.body
is_hidden (UpTo since) e = nat_le e.version since

abbrev pub shown : Hides → Option Entry → List Entry
shown hides None = []
shown hides (Some e) = if is_hidden hides e then [] else e ∷ []

-- of each key that has a version of at most the number its winner, where that is shown
abbrev pub visible : Hides → ℕ → List Entry → List Entry
visible hides number es =
    flat_map (λ key. shown hides (winner es key number)) (keys_of (filter (is_counted number) es))
