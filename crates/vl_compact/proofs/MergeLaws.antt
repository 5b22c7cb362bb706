-- The merge that is planned, by what was found.
use Rattle.std.specs.Prelude.{Option, Some, None}
use Rattle.std.specs.List.{flat_map}
use Rattle.std.specs.Option.{option_map}
use Rattle.std.proofs.Common.{◌≡◌, ℕ, ◌+◌, List, [], ◌∷◌, subst}
use Rattle.vl_compact.specs.Laid.{AreBoth}
use Rattle.vl_compact.specs.Merges.{AreInputsOf, drain_in, plan_in}
use Rattle.vl_compact.specs.declared.inputs.Inputs.{Inputs}
use Rattle.vl_engine_model.specs.Levels.{due_from, first_into, inputs_at}
use Rattle.vl_engine_model.specs.declared.job.Target.TheVariants.{InPlace, Level}
use Rattle.vl_engine_model.specs.declared.table.Table as laid
use Rattle.vl_table.specs.declared.table.Table.{Table}

module _ {H : Type 0} (bytes : H → Option (List ℕ)) where
  pub plan_none : (ls : List (List laid.Table)) → None ≡ due_from 0 ls → AreBoth (AreInputsOf bytes) None (plan_in ls)
  plan_none ls is =
      subst (λ (o : Option ℕ). AreBoth (AreInputsOf bytes) None
      (option_map (λ level. record { tables = inputs_at level ls; target = Level (level + 1) }) o)) is tt

  pub plan_some : (inputs : Inputs H) (ls : List (List laid.Table)) (level : ℕ) → Some level ≡ due_from 0 ls
      → AreInputsOf bytes inputs (record { tables = inputs_at level ls; target = Level (level + 1) })
      → AreBoth (AreInputsOf bytes) (Some inputs) (plan_in ls)
  plan_some inputs ls level is are =
      subst (λ (o : Option ℕ). AreBoth (AreInputsOf bytes) (Some inputs)
      (option_map (λ level. record { tables = inputs_at level ls; target = Level (level + 1) }) o)) is are

  drained_is : (inputs : Inputs H) (R : Table H → laid.Table → Type 0) (table : Table H) (o : Option laid.Table) → AreBoth R (Some table) o
      → ((t : laid.Table) → R table t → AreInputsOf bytes inputs (record { tables = t ∷ []; target = InPlace }))
      → AreBoth (AreInputsOf bytes) (Some inputs) (option_map (λ t. record { tables = t ∷ []; target = InPlace }) o)
  drained_is inputs R table None both so = absurd both
  drained_is inputs R table (Some t) both so = so t both

  pub drain_some : (inputs : Inputs H) (R : Table H → laid.Table → Type 0) (table : Table H) (segment : ℕ) (ls : List (List laid.Table))
      → AreBoth R (Some table) (first_into segment (flat_map (λ level. level) ls))
      → ((t : laid.Table) → R table t → AreInputsOf bytes inputs (record { tables = t ∷ []; target = InPlace }))
      → AreBoth (AreInputsOf bytes) (Some inputs) (drain_in segment ls)
  drain_some inputs R table segment ls both so = drained_is inputs R table (first_into segment (flat_map (λ level. level) ls)) both so
