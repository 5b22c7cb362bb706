use Rattle.std.specs.Prelude.{ℕ, Option, Some, None, ◌+◌}
use Rattle.std.specs.Option.{option_map}
use Rattle.std.proofs.Common.{◌≡◌, ◌∙◌, refl, ap, [], ◌∷◌}
use Rattle.vl_compact.specs.Ruled.{merge_ruling}
use Rattle.vl_engine_model.specs.Levels.{due_from, first_into, inputs_at}
use Rattle.vl_engine_model.specs.Rulings.Drain.{drain_of, drain_unless}
use Rattle.vl_engine_model.specs.Rulings.Plan.{plan_of, plan_unless}
use Rattle.vl_engine_model.specs.Sources.{tables}
use Rattle.vl_engine_model.specs.declared.job.OpenJob.{OpenJob}
use Rattle.vl_engine_model.specs.declared.job.Target.TheVariants.{InPlace, Level}
use Rattle.vl_engine_model.specs.declared.layout.Layout.{Layout}
use Rattle.vl_engine_model.specs.declared.table.Table.{Table}
use Rattle.vl_model.specs.History.{History}
use Rattle.vl_compact.proofs.laws.merges_are_as_ruled.Goals as goal

plan_is : (l : Layout) (h : History) (o : Option ℕ)
    → plan_of l h o ≡ merge_ruling l h (option_map (λ level. record { tables = inputs_at level l.levels; target = Level (level + 1) }) o)
plan_is l h None = refl
plan_is l h (Some level) = refl

drain_is : (l : Layout) (h : History) (o : Option Table)
    → drain_of l h o ≡ merge_ruling l h (option_map (λ t. record { tables = t ∷ []; target = InPlace }) o)
drain_is l h None = refl
drain_is l h (Some t) = refl

pub returns : goal.returns
returns c = record {
  plan = λ l h none. ap (λ (j : Option OpenJob). plan_unless j l h) none ∙ plan_is l h (due_from 0 l.levels);
  drain = λ l h segment none. ap (λ (j : Option OpenJob). drain_unless j l h segment) none ∙ drain_is l h (first_into segment (tables l));
}
