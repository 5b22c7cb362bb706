use Rattle.std.proofs.Common.{◌≡◌, refl}
use Rattle.vl_model.specs.History.{History}
use Rattle.vl_engine_model.specs.declared.layout.Layout.{Layout}
use Rattle.vl_engine_model_laws.specs.Calls.{Abandon, Begin, BeginView, Commit, Drain, EndPass, Flush, Forget, Fresh}
use Rattle.vl_engine_model_laws.specs.Calls.{Install, Keep, Pick, Plan, Release, Relocate, Rotate, Sweep, SweepTo}
use Rattle.vl_engine_model_laws.specs.Kept.{IsKeptAs}
use Rattle.vl_engine_model_laws.specs.laws.EachRuling.{begin_leaves, commit_leaves, drain_leaves, flush_leaves}
use Rattle.vl_engine_model_laws.specs.laws.EachRuling.{fresh_leaves, install_leaves, pick_leaves, plan_leaves}
use Rattle.vl_engine_model_laws.specs.laws.EachRuling.{relocate_leaves, rotate_leaves, sweep_leaves, sweep_to_leaves}
use Rattle.vl_engine_model_laws.proofs.kept.other_calls_leave_what_is_kept.Goals as goal

-- as many are kept as in this layout, and as long
abbrev Same : Layout → Layout → History → Type 0
Same l x h = IsKeptAs l x

same : (l x : Layout) → x.keep ≡ l.keep → x.since ≡ l.since → IsKeptAs l x
same l x keep since = record { keep = keep; since = since }

pub returns : goal.returns
returns c Begin l h other = begin_leaves (Same l) l h (same l _ refl refl) (λ few. same l _ refl refl)
returns c BeginView l h other = begin_leaves (Same l) l h (same l _ refl refl) (λ few. same l _ refl refl)
returns c (Commit t) l h other = commit_leaves (Same l) l h (same l _ refl refl) t (same l _ refl refl) (same l _ refl refl)
returns c (Forget t) l h other = same l _ refl refl
returns c (Release v) l h other = same l _ refl refl
returns c Rotate l h other = rotate_leaves (Same l) l h (same l _ refl refl) (same l _ refl refl)
returns c Flush l h other = flush_leaves (Same l) l h (same l _ refl refl) (λ s. same l _ refl refl)
returns c (Relocate pass batch) l h other =
    relocate_leaves (Same l) l h (same l _ refl refl) (λ moved. same l _ refl refl) pass batch
returns c Plan l h other = plan_leaves (Same l) l h (same l _ refl refl) (λ job. same l _ refl refl)
returns c (Drain segment) l h other = drain_leaves (Same l) l h (same l _ refl refl) (λ job. same l _ refl refl) segment
returns c Fresh l h other = fresh_leaves (Same l) l h (same l _ refl refl) (same l _ refl refl)
returns c (Abandon job made) l h other = same l _ refl refl
returns c (Install job made) l h other =
    install_leaves (Same l) l h (same l _ refl refl) job made (same l _ refl refl) (same l _ refl refl)
returns c (Pick percent) l h other = pick_leaves (Same l) l h (same l _ refl refl) (λ segment. same l _ refl refl) percent
returns c (EndPass pass) l h other = same l _ refl refl
returns c Sweep l h other = sweep_leaves (Same l) l h (same l _ refl refl) (λ gone. same l _ refl refl)
returns c (SweepTo least) l h other = sweep_to_leaves (Same l) l h (same l _ refl refl) (λ gone. same l _ refl refl) least
returns c (Keep v) l h other = absurd other
