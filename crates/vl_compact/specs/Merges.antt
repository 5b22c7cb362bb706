-- Which merge is planned of the tables of all levels.
use Rattle.std.specs.Prelude.{◌≡◌, ℕ, ◌+◌, List, [], ◌∷◌, Option}
use Rattle.std.specs.List.{flat_map}
use Rattle.std.specs.Option.{option_map}
use Rattle.vl_compact.specs.Laid.{AreBoth, AreTablesOf}
use Rattle.vl_compact.specs.declared.inputs.Inputs.{Inputs}
use Rattle.vl_engine_model.specs.Levels.{due_from, first_into, inputs_at}
use Rattle.vl_engine_model.specs.declared.job.Target.{Target}
use Rattle.vl_engine_model.specs.declared.job.Target.TheVariants.{InPlace, Level}
use Rattle.vl_engine_model.specs.declared.table.Table.{Table}

-- the tables that are merged, in the order of the sources, and where its outputs are put
pub record Merge : Type 0 where
  pub tables : List Table
  pub target : Target

-- of the least level that is due
abbrev pub plan_in : List (List Table) → Option Merge
plan_in levels =
    option_map (λ level. record { tables = inputs_at level levels; target = Level (level + 1) }) (due_from 0 levels)

-- of the first table that leads into a segment
abbrev pub drain_in : ℕ → List (List Table) → Option Merge
drain_in segment levels =
    option_map (λ t. record { tables = t ∷ []; target = InPlace }) (first_into segment (flat_map (λ level. level) levels))

module _ {H : Type 0} (bytes : H → Option (List ℕ)) where
  -- these inputs are the merge's
  pub record AreInputsOf (inputs : Inputs H) (merge : Merge) : Type 0 where
    pub tables : AreTablesOf bytes inputs.tables.items merge.tables
    pub target : inputs.target ≡ merge.target

  -- there are inputs where there is a merge, and they are its
  abbrev pub IsMerge : Option (Inputs H) → Option Merge → Type 0
  IsMerge inputs merge = AreBoth AreInputsOf inputs merge
