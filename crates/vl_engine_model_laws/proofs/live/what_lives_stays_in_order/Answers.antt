use Rattle.std.proofs.Common.{refl, arith}
use Rattle.std.specs.FinMap.{from_sorted}
use Rattle.vl_engine_model.specs.Ruling.{ended}
use Rattle.vl_engine_model_laws.specs.Calls.{Abandon, Begin, BeginView, Commit, Drain, EndPass, Flush, Forget, Fresh}
use Rattle.vl_engine_model_laws.specs.Calls.{Install, Keep, Pick, Plan, Release, Relocate, Rotate, Sweep, SweepTo}
use Rattle.vl_engine_model_laws.specs.Live.{IsLivedIn}
use Rattle.vl_engine_model_laws.specs.laws.EachRuling.{begin_leaves, commit_leaves, drain_leaves, flush_leaves}
use Rattle.vl_engine_model_laws.specs.laws.EachRuling.{fresh_leaves, install_leaves, keep_leaves, pick_leaves, plan_leaves}
use Rattle.vl_engine_model_laws.specs.laws.EachRuling.{relocate_leaves, rotate_leaves, sweep_leaves, sweep_to_leaves}
use Rattle.vl_engine_model_laws.specs.laws.Lives.{live-begun, live-committed, live-ended, live-same}
use Rattle.vl_engine_model_laws.proofs.live.what_lives_stays_in_order.Goals as goal

pub returns-clause-start : goal.returns-clause-start
returns-clause-start c h room found = record { rising = tt; known = tt; few = omega arith }

pub returns-clause-each : goal.returns-clause-each
returns-clause-each c Begin l h w = begin_leaves IsLivedIn l h w (λ few. live-begun l h w few)
returns-clause-each c BeginView l h w = begin_leaves IsLivedIn l h w (λ few. live-begun l h w few)
returns-clause-each c (Commit t) l h w = commit_leaves IsLivedIn l h w t (live-ended l h w t.ticket)
    (live-committed (ended t.ticket l) _ h (from_sorted t.writes) refl (live-ended l h w t.ticket))
returns-clause-each c (Forget t) l h w = live-ended l h w t.ticket
returns-clause-each c (Release v) l h w = live-ended l h w v.ticket
returns-clause-each c Rotate l h w = rotate_leaves IsLivedIn l h w (live-same l _ h refl w)
returns-clause-each c Flush l h w = flush_leaves IsLivedIn l h w (λ s. live-same l _ h refl w)
returns-clause-each c (Relocate pass batch) l h w = relocate_leaves IsLivedIn l h w (λ moved. live-same l _ h refl w) pass batch
returns-clause-each c Plan l h w = plan_leaves IsLivedIn l h w (λ job. live-same l _ h refl w)
returns-clause-each c (Drain segment) l h w = drain_leaves IsLivedIn l h w (λ job. live-same l _ h refl w) segment
returns-clause-each c Fresh l h w = fresh_leaves IsLivedIn l h w (live-same l _ h refl w)
returns-clause-each c (Abandon job made) l h w = live-same l _ h refl w
returns-clause-each c (Install job made) l h w =
    install_leaves IsLivedIn l h w job made (live-same l _ h refl w) (live-same l _ h refl w)
returns-clause-each c (Pick percent) l h w = pick_leaves IsLivedIn l h w (λ segment. live-same l _ h refl w) percent
returns-clause-each c (EndPass pass) l h w = live-same l _ h refl w
returns-clause-each c Sweep l h w = sweep_leaves IsLivedIn l h w (λ gone. live-same l _ h refl w)
returns-clause-each c (SweepTo least) l h w = sweep_to_leaves IsLivedIn l h w (λ gone. live-same l _ h refl w) least
returns-clause-each c (Keep v) l h w = keep_leaves IsLivedIn l h w v (live-same l _ h refl w)
