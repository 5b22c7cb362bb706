use Rattle.std.proofs.Common.{◌≡◌, refl}
use Rattle.vl_model.specs.History.{History}
use Rattle.vl_engine_model.specs.declared.layout.Layout.{Layout}
use Rattle.vl_engine_model_laws.specs.Calls.{Abandon, Begin, BeginView, Commit, Drain, EndPass, Flush, Forget, Fresh}
use Rattle.vl_engine_model_laws.specs.Calls.{Install, Keep, Pick, Plan, Release, Relocate, Rotate, Sweep, SweepTo}
use Rattle.vl_engine_model_laws.specs.laws.EachRuling.{begin_leaves, commit_leaves, drain_leaves, flush_leaves}
use Rattle.vl_engine_model_laws.specs.laws.EachRuling.{fresh_leaves, keep_leaves, pick_leaves, plan_leaves, relocate_leaves}
use Rattle.vl_engine_model_laws.specs.laws.EachRuling.{rotate_leaves, sweep_leaves, sweep_to_leaves}
use Rattle.vl_engine_model_laws.specs.laws.Gone.{install_raises}
use Rattle.vl_engine_model_laws.proofs.kept.an_install_tells_what_it_dropped.Goals as goal

-- the same as that of this layout
abbrev Same : Layout → Layout → History → Type 0
Same l x h = x.gone ≡ l.gone

pub returns-clause-install : goal.returns-clause-install
returns-clause-install c l h job made is = (install_raises l h job made).0 is

pub returns-clause-refused : goal.returns-clause-refused
returns-clause-refused c l h job made refused = (install_raises l h job made).1 refused

pub returns-clause-others : goal.returns-clause-others
returns-clause-others c Begin l h other = begin_leaves (Same l) l h refl (λ few. refl)
returns-clause-others c BeginView l h other = begin_leaves (Same l) l h refl (λ few. refl)
returns-clause-others c (Commit t) l h other = commit_leaves (Same l) l h refl t refl refl
returns-clause-others c (Forget t) l h other = refl
returns-clause-others c (Release v) l h other = refl
returns-clause-others c Rotate l h other = rotate_leaves (Same l) l h refl refl
returns-clause-others c Flush l h other = flush_leaves (Same l) l h refl (λ s. refl)
returns-clause-others c (Relocate pass batch) l h other = relocate_leaves (Same l) l h refl (λ moved. refl) pass batch
returns-clause-others c Plan l h other = plan_leaves (Same l) l h refl (λ job. refl)
returns-clause-others c (Drain segment) l h other = drain_leaves (Same l) l h refl (λ job. refl) segment
returns-clause-others c Fresh l h other = fresh_leaves (Same l) l h refl refl
returns-clause-others c (Abandon job made) l h other = refl
returns-clause-others c (Install job made) l h other = absurd other
returns-clause-others c (Pick percent) l h other = pick_leaves (Same l) l h refl (λ segment. refl) percent
returns-clause-others c (EndPass pass) l h other = refl
returns-clause-others c Sweep l h other = sweep_leaves (Same l) l h refl (λ gone. refl)
returns-clause-others c (SweepTo least) l h other = sweep_to_leaves (Same l) l h refl (λ gone. refl) least
returns-clause-others c (Keep v) l h other = keep_leaves (Same l) l h refl v refl
