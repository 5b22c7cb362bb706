-- Which of some keys was moved first, which version is the greatest, and how many entries tables have.
use Rattle.std.specs.Prelude.{◌≡◌, ℕ, max, List, [], ◌∷◌, map, Contains, Option, None, Some}
use Rattle.std.specs.Arc.{arc_value}
use Rattle.std.specs.FinMap.{find}
use Rattle.std.specs.List.{sum_by}
use Rattle.vl_compact.specs.declared.files.Synced.{Synced}
use Rattle.vl_model.specs.Conflicts.{Named}
use Rattle.vl_model.specs.Keys.{key_cmp}

-- the number of a key's move with the key, or what is so of other keys
abbrev pub moved_or : List ℕ → Option ℕ → Option Named → Option Named
moved_or key None other = other
moved_or key (Some number) other = Some (key, number)

-- the first of these keys that was moved, with the number of its last move, which comes first
abbrev pub least_moved : List Named → List Named → Option Named
least_moved moved [] = None
least_moved moved (n ∷ ns) = moved_or n.0 (find key_cmp n.0 moved) (least_moved moved ns)

-- Why a key is answered, with a number: one of these has the key, it was moved, and the number is that of its last move.
pub record IsMoved (moved keys : List Named) (named : Named) : Type 0 where
  pub dropped : Contains (map (λ (n : Named). n.0) keys) named.0
  pub moved_is : Contains moved named
  -- of all moves of the key it comes first
  pub last : find key_cmp named.0 moved ≡ Some named.1

-- no move is of this one's key
abbrev pub IsUnmoved : List Named → Named → Type 0
IsUnmoved moved named = find key_cmp named.0 moved ≡ None

-- the greatest version of these, 0 where there is none
abbrev pub greatest : List Named → ℕ
greatest [] = 0
greatest (n ∷ ns) = max n.1 (greatest ns)

-- how many entries tables have, as their footers say it
abbrev pub entry_count : {W : Type 0} {g : _} → List (Synced W g) → ℕ
entry_count {W} {g} made = sum_by (λ (s : Synced W g). (arc_value s.shape).footer.count) made
