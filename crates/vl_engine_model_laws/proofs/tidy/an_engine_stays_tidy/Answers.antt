use Rattle.std.proofs.Common.{Bool, true, false, subst}
use Rattle.std.specs.Prelude.{T, IsTrue}
use Rattle.std.specs.FinMap.{is_sorted}
use Rattle.vl_model.specs.Keys.{key_cmp}
use Rattle.vl_engine_model.specs.Rulings.Install.{install_ruling}
use Rattle.vl_engine_model.specs.Tidy.{IsRuledTidy}
use Rattle.vl_engine_model.specs.declared.job.Job.{Job}
use Rattle.vl_engine_model_laws.specs.Calls.{Abandon, Begin, BeginView, Commit, Drain, EndPass, Flush, Forget, Fresh}
use Rattle.vl_engine_model_laws.specs.Calls.{Install, Keep, Pick, Plan, Release, Relocate, Rotate, Sweep, SweepTo}
use Rattle.vl_engine_model_laws.specs.laws.TidyRulings.{abandon_tidy, begin_tidy, commit_tidy, drain_tidy, end_pass_tidy}
use Rattle.vl_engine_model_laws.specs.laws.TidyRulings.{flush_tidy, forget_tidy, fresh_tidy, install_tidy, keep_tidy}
use Rattle.vl_engine_model_laws.specs.laws.TidyRulings.{pick_tidy, plan_tidy, release_tidy, relocate_tidy, rotate_tidy}
use Rattle.vl_engine_model_laws.specs.laws.TidyRulings.{sweep_tidy, sweep_to_tidy}
use Rattle.vl_engine_model_laws.proofs.tidy.an_engine_stays_tidy.Goals as goal

as_T : (b : Bool) → IsTrue b → T b
as_T true is = tt
as_T false is = cc

pub returns : goal.returns
returns c logs Begin l h any t = begin_tidy logs l h t
returns c logs BeginView l h any t = begin_tidy logs l h t
returns c logs (Commit x) l h rising t = commit_tidy logs l h t x (as_T (is_sorted key_cmp x.writes) rising)
returns c logs (Forget x) l h any t = forget_tidy logs l h t x
returns c logs (Release v) l h any t = release_tidy logs l h t v
returns c logs Rotate l h any t = rotate_tidy logs l h t
returns c logs Flush l h found t = flush_tidy logs l h t found
returns c logs (Relocate pass batch) l h there t = relocate_tidy logs l h t pass batch there
returns c logs Plan l h any t = plan_tidy logs l h t
returns c logs (Drain segment) l h any t = drain_tidy logs l h t segment
returns c logs Fresh l h any t = fresh_tidy logs l h t
returns c logs (Abandon job made) l h are t = abandon_tidy logs l h t job made are
returns c logs (Install job made) l h own t =
    subst (λ (j : Job). IsRuledTidy logs (install_ruling l h j made)) own.same
    (install_tidy logs l h t own.opened own.is made own.outputs own.lent)
returns c logs (Pick percent) l h any t = pick_tidy logs l h t percent
returns c logs (EndPass pass) l h any t = end_pass_tidy logs l h t pass
returns c logs Sweep l h any t = sweep_tidy logs l h t
returns c logs (SweepTo least) l h any t = sweep_to_tidy logs l h t least
returns c logs (Keep v) l h any t = keep_tidy logs l h t v
