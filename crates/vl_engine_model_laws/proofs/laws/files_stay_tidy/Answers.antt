use Rattle.std.proofs.Common.{subst}
use Rattle.vl_engine_model.specs.Rulings.Install.{install_ruling}
use Rattle.vl_engine_model.specs.Stock.{IsWellStocked}
use Rattle.vl_engine_model.specs.declared.job.Job.{Job}
use Rattle.vl_engine_model_laws.specs.Calls.{Abandon, Begin, BeginView, Commit, Drain, EndPass, Flush, Forget, Fresh}
use Rattle.vl_engine_model_laws.specs.Calls.{Install, Keep, Pick, Plan, Release, Relocate, Rotate, Sweep, SweepTo}
use Rattle.vl_engine_model_laws.specs.laws.RulingStocked.{begin_well, commit_well, forget_well, release_well, rotate_well}
use Rattle.vl_engine_model_laws.specs.laws.RulingStocked.{flush_well, pick_well, relocate_well, end_pass_well, sweep_well}
use Rattle.vl_engine_model_laws.specs.laws.RulingStocked.{sweep_to_well, keep_well}
use Rattle.vl_engine_model_laws.specs.laws.RulingStocked.{plan_well, drain_well, fresh_well, abandon_well}
use Rattle.vl_engine_model_laws.specs.laws.InstallTidy.{install_stocked}
use Rattle.vl_engine_model_laws.proofs.laws.files_stay_tidy.Goals as goal

pub returns : goal.returns
returns c Begin l h any w = begin_well l h w
returns c BeginView l h any w = begin_well l h w
returns c (Commit t) l h any w = commit_well l h w t
returns c (Forget t) l h any w = forget_well l h w t
returns c (Release v) l h any w = release_well l h w v
returns c Rotate l h any w = rotate_well l h w
returns c Flush l h levels w = flush_well l h w levels.0 levels.1 levels.2
returns c (Relocate pass batch) l h any w = relocate_well l h w pass batch
returns c Plan l h any w = plan_well l h w
returns c (Drain segment) l h any w = drain_well l h w segment
returns c Fresh l h any w = fresh_well l h w
returns c (Abandon job made) l h are w = abandon_well l h w job made are
returns c (Install job made) l h ready w =
    let own = ready.0.own in
    subst (λ (j : Job). IsWellStocked (install_ruling l h j made).layout) own.same
    (install_stocked l h own.opened own.is made w ready.1 ready.0.well own.outputs own.lent)
returns c (Pick percent) l h any w = pick_well l h w percent
returns c (EndPass pass) l h any w = end_pass_well l h w pass
returns c Sweep l h any w = sweep_well l h w
returns c (SweepTo least) l h any w = sweep_to_well l h w least
returns c (Keep v) l h any w = keep_well l h w v
