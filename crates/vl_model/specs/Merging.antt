-- All entries of several sources in one list, either way.
use Rattle.std.specs.Prelude.{◌≡◌, ℕ, Bool, false, ◌&&◌, nat_lt, if◌then◌else◌, List, [], ◌∷◌}
use Rattle.std.specs.List.{AllByRecursion, list_any}
use Rattle.std.specs.Ordering.{is_gt, eq_by_cmp}
use Rattle.vl_model.specs.Keys.{key_cmp}
use Rattle.vl_model.specs.declared.entry.Entry.{Entry}
use Rattle.vl_model.specs.declared.way.Way.{Way}
use Rattle.vl_model.specs.Order.{way_cmp}

-- an entry at its place on a way, in front of those of its key and version
abbrev pub place : Way → Entry → List Entry → List Entry
place way e [] = e ∷ []
place way e (f ∷ fs) = if is_gt (way_cmp way e f) then f ∷ place way e fs else e ∷ f ∷ fs

-- all of these entries as a way goes through them; of those of one key and version the one of the
-- newest source comes first
abbrev pub merged : Way → List Entry → List Entry
merged way [] = []
merged way (e ∷ es) = place way e (merged way es)

-- none of these comes before the entry
abbrev pub IsFirst : Way → Entry → List Entry → Type 0
IsFirst way e es = AllByRecursion (λ f. is_gt (way_cmp way e f) ≡ false) es

-- as a way goes through them
abbrev pub IsAlong : Way → List Entry → Type 0
IsAlong way [] = Unit {0}
IsAlong way (e ∷ es) = IsFirst way e es × IsAlong way es

-- an entry of the key stands there at a lower version
abbrev pub has_older : List Entry → List ℕ → ℕ → Bool
has_older es key version = list_any (λ (e : Entry). eq_by_cmp key_cmp key e.key && nat_lt e.version version) es
