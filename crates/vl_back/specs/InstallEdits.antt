-- What an install changes of what the manifest says.
use Rattle.std.specs.Prelude.{ℕ, ◌==◌, if◌then◌else◌, not, List, [], ◌∷◌, ◌++◌, map}
use Rattle.std.specs.List.{filter}
use Rattle.vl_manifest.specs.Levels.{all_tables, is_in}
use Rattle.vl_manifest.specs.States.{level_adds}
use Rattle.vl_manifest.specs.declared.edit.Edit.TheVariants.{Drop, Gone, Next}
use Rattle.vl_manifest.specs.declared.edit.Edit.{Edit}
use Rattle.vl_manifest.specs.declared.state.ManifestState.{ManifestState}

-- Tables that a merge made take the place of others.
pub record Replacing : Type 0 where
  -- the numbers of the tables that were merged
  pub inputs : List ℕ
  -- those of the tables that were made, in key order
  pub made : List ℕ
  -- where these come once the others are gone: a level, and a position in it
  pub level : ℕ
  pub position : ℕ
  -- the least numbers that may still be given
  pub next_log : ℕ
  pub next_table : ℕ
  -- the greatest version of a deletion that was dropped for good by then
  pub gone : ℕ

-- a Drop for each of the inputs, in the order of all tables
abbrev pub drops_of : (inputs tables : List ℕ) → List Edit
drops_of inputs tables = map Drop (filter (λ (t : ℕ). is_in t inputs) tables)

-- a Gone, where it says more than is said
abbrev pub gone_since : (before after : ℕ) → List Edit
gone_since before after = if before == after then [] else Gone after ∷ []

-- The edits of its switch: the inputs are taken out, the tables are put in, each behind the one before it, and the rest is told.
abbrev pub install_switch : Replacing → ManifestState → List Edit
install_switch r s =
    drops_of r.inputs (all_tables s.levels)
    ++ (level_adds r.level r.position r.made ++ (Next r.next_log r.next_table ∷ gone_since s.gone r.gone))

-- ---- what is left of the levels without some tables

abbrev pub left_tables : List ℕ → List ℕ → List ℕ
left_tables inputs tables = filter (λ (t : ℕ). not (is_in t inputs)) tables

abbrev pub left_levels : List ℕ → List (List ℕ) → List (List ℕ)
left_levels inputs levels = map (left_tables inputs) levels
