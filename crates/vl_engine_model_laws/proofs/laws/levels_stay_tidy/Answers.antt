use Rattle.std.proofs.Common.{subst}
use Rattle.vl_model.specs.History.{History}
use Rattle.vl_engine_model.specs.Rulings.Install.{install_ruling}
use Rattle.vl_engine_model.specs.TidyLevels.{AreLevels}
use Rattle.vl_engine_model.specs.declared.job.Job.{Job}
use Rattle.vl_engine_model.specs.declared.layout.Layout.{Layout}
use Rattle.vl_engine_model_laws.specs.Calls.{Abandon, Begin, BeginView, Commit, Drain, EndPass, Flush, Forget, Fresh}
use Rattle.vl_engine_model_laws.specs.Calls.{Install, Keep, Pick, Plan, Release, Relocate, Rotate, Sweep, SweepTo}
use Rattle.vl_engine_model_laws.specs.laws.EachRuling.{begin_leaves, commit_leaves, drain_leaves, fresh_leaves, keep_leaves}
use Rattle.vl_engine_model_laws.specs.laws.EachRuling.{pick_leaves, plan_leaves, relocate_leaves, rotate_leaves}
use Rattle.vl_engine_model_laws.specs.laws.EachRuling.{sweep_leaves, sweep_to_leaves}
use Rattle.vl_engine_model_laws.specs.laws.InstallTidy.{flush_levels, install_levels}
use Rattle.vl_engine_model_laws.proofs.laws.levels_stay_tidy.Goals as goal

abbrev Levelled : Layout → History → Type 0
Levelled l h = AreLevels l.levels

pub returns : goal.returns
returns c Begin l h any w are = begin_leaves Levelled l h are (λ few. are)
returns c BeginView l h any w are = begin_leaves Levelled l h are (λ few. are)
returns c (Commit t) l h any w are = commit_leaves Levelled l h are t are are
returns c (Forget t) l h any w are = are
returns c (Release v) l h any w are = are
returns c Rotate l h any w are = rotate_leaves Levelled l h are are
returns c Flush l h any w are = flush_levels l h w are
returns c (Relocate pass batch) l h any w are = relocate_leaves Levelled l h are (λ moved. are) pass batch
returns c Plan l h any w are = plan_leaves Levelled l h are (λ job. are)
returns c (Drain segment) l h any w are = drain_leaves Levelled l h are (λ job. are) segment
returns c Fresh l h any w are = fresh_leaves Levelled l h are are
returns c (Abandon job made) l h any w are = are
returns c (Install job made) l h ready w are =
    let own = ready.own in
    subst (λ (j : Job). AreLevels (install_ruling l h j made).layout.levels) own.same
    (install_levels l h own.opened own.is made w are ready.well own.outputs own.lent)
returns c (Pick percent) l h any w are = pick_leaves Levelled l h are (λ segment. are) percent
returns c (EndPass pass) l h any w are = are
returns c Sweep l h any w are = sweep_leaves Levelled l h are (λ gone. are)
returns c (SweepTo least) l h any w are = sweep_to_leaves Levelled l h are (λ gone. are) least
returns c (Keep v) l h any w are = keep_leaves Levelled l h are v are
