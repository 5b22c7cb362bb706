-- Where a merge is planned, and which one is begun of inputs that were chosen.
use Rattle.std.specs.Prelude.{◌≡◌, ℕ, Bool, ◌&&◌, not, List, Option, None, Some, Result, IfOk}
use Rattle.std.specs.Option.{is_some}
use Rattle.vl_compact.specs.Due.{has_due, has_leading}
use Rattle.vl_compact.specs.Laid.{by_level}
use Rattle.vl_compact.specs.Merges.{IsMerge, Merge}
use Rattle.vl_compact.specs.declared.inputs.Inputs.{Inputs}
use Rattle.vl_engine_laws.specs.Pointed.{layout_logs}
use Rattle.vl_engine_laws.specs.declared.open.OpenMerge.{OpenMerge}
use Rattle.vl_engine_laws.specs.laws.PlanSources.{IsPart}
use Rattle.vl_engine_model.specs.Ruling.{Ruling, leaving}
use Rattle.vl_engine_model.specs.Rulings.Plan.{job_of, planned}
use Rattle.vl_engine_model.specs.Sources.{tables}
use Rattle.vl_engine_model.specs.Tidy.{IsRuledTidy, IsTidy}
use Rattle.vl_engine_model.specs.declared.job.Job.{Job}
use Rattle.vl_engine_model.specs.declared.layout.Layout.{Layout}
use Rattle.vl_model.specs.History.{History}
use Rattle.vl_version.specs.Sources.{tables_in}
use Rattle.vl_version.specs.declared.version.Version.{Version}

-- ---- whatever stands in the tables

-- a level of these is due, by how long the tables' files are
abbrev pub is_due : {H : Type 0} → (H → ℕ) → Version H → Bool
is_due size version = has_due size 0 (by_level version.behind.levels)

-- one of these tables leads into a segment, by its footer
abbrev pub is_led_into : {H : Type 0} → ℕ → Version H → Bool
is_led_into segment version = has_leading segment (tables_in version)

-- A merge was planned exactly where none was open and there is one to plan.
abbrev pub PlansWhere : {J E : Type 0} → (there : Bool) → (merging : Option OpenMerge) → Result (Option J) E → Type 0
PlansWhere there merging result = IfOk result (λ job. is_some job ≡ (not (is_some merging) && there))

-- ---- over true tables

-- the ruling that begins a merge, where there is one
abbrev pub begins : Layout → History → Option Merge → Ruling (Option Job)
begins l h None = leaving None h l
begins l h (Some m) = planned l h (job_of l h m.tables m.target)

-- The inputs are those of a merge that a ruling begins, of some of all tables in the order of the sources, and there are none
-- where it begins none. What is tidy stays so.
pub record IsChosen {H : Type 0} (bytes : H → Option (List ℕ)) (inputs : Option (Inputs H)) (h : History) (l : Layout)
    (ruling : Ruling (Option Job)) : Type 0 where
  pub merge : Option Merge
  pub inputs_are : IsMerge bytes inputs merge
  pub part : (m : Merge) → merge ≡ Some m → IsPart m.tables (tables l)
  pub ruled : begins l h merge ≡ ruling
  pub tidy : IsTidy (layout_logs l) l h → IsRuledTidy (layout_logs l) ruling
