use Rattle.std.specs.FinMap.{from_sorted}
use Rattle.vl_engine_model.specs.Tickets.{free_ticket, tickets_of}
use Rattle.vl_engine_model_laws.specs.Calls.{Abandon, Begin, BeginView, Commit, Drain, EndPass, Flush, Forget, Fresh}
use Rattle.vl_engine_model_laws.specs.Calls.{Install, Keep, Pick, Plan, Release, Relocate, Rotate, Sweep, SweepTo}
use Rattle.vl_engine_model_laws.specs.Kept.{IsFloorUp}
use Rattle.vl_engine_model_laws.specs.laws.EachRuling.{begin_leaves, commit_leaves, drain_leaves, flush_leaves}
use Rattle.vl_engine_model_laws.specs.laws.EachRuling.{fresh_leaves, install_leaves, keep_leaves, pick_leaves, plan_leaves}
use Rattle.vl_engine_model_laws.specs.laws.EachRuling.{relocate_leaves, rotate_leaves, sweep_leaves, sweep_to_leaves}
use Rattle.vl_engine_model_laws.specs.laws.Floors.{floor-committed, floor-ended, floor-same, floor-with}
use Rattle.vl_engine_model_laws.proofs.kept.the_floor_never_falls.Goals as goal

pub returns : goal.returns
returns c Begin l h =
    begin_leaves (IsFloorUp l h) l h (floor-same l h) (λ few. floor-with l h (free_ticket (tickets_of l.live)))
returns c BeginView l h =
    begin_leaves (IsFloorUp l h) l h (floor-same l h) (λ few. floor-with l h (free_ticket (tickets_of l.live)))
returns c (Commit t) l h = commit_leaves (IsFloorUp l h) l h (floor-same l h) t (floor-ended l h t.ticket)
    (floor-committed l h t.ticket (from_sorted t.writes))
returns c (Forget t) l h = floor-ended l h t.ticket
returns c (Release v) l h = floor-ended l h v.ticket
returns c Rotate l h = rotate_leaves (IsFloorUp l h) l h (floor-same l h) (floor-same l h)
returns c Flush l h = flush_leaves (IsFloorUp l h) l h (floor-same l h) (λ s. floor-same l h)
returns c (Relocate pass batch) l h = relocate_leaves (IsFloorUp l h) l h (floor-same l h) (λ moved. floor-same l h) pass batch
returns c Plan l h = plan_leaves (IsFloorUp l h) l h (floor-same l h) (λ job. floor-same l h)
returns c (Drain segment) l h = drain_leaves (IsFloorUp l h) l h (floor-same l h) (λ job. floor-same l h) segment
returns c Fresh l h = fresh_leaves (IsFloorUp l h) l h (floor-same l h) (floor-same l h)
returns c (Abandon job made) l h = floor-same l h
returns c (Install job made) l h =
    install_leaves (IsFloorUp l h) l h (floor-same l h) job made (floor-same l h) (floor-same l h)
returns c (Pick percent) l h = pick_leaves (IsFloorUp l h) l h (floor-same l h) (λ segment. floor-same l h) percent
returns c (EndPass pass) l h = floor-same l h
returns c Sweep l h = sweep_leaves (IsFloorUp l h) l h (floor-same l h) (λ gone. floor-same l h)
returns c (SweepTo least) l h = sweep_to_leaves (IsFloorUp l h) l h (floor-same l h) (λ gone. floor-same l h) least
returns c (Keep v) l h = keep_leaves (IsFloorUp l h) l h (floor-same l h) v (floor-same l h)
