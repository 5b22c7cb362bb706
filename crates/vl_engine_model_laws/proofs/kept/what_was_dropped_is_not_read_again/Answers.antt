use Rattle.std.specs.FinMap.{from_sorted}
use Rattle.vl_model.specs.History.{History}
use Rattle.vl_engine_model.specs.Sources.{floor}
use Rattle.vl_engine_model.specs.Tickets.{free_ticket, tickets_of}
use Rattle.vl_engine_model.specs.declared.layout.Layout.{Layout}
use Rattle.vl_engine_model_laws.specs.Calls.{Abandon, Begin, BeginView, Commit, Drain, EndPass, Flush, Forget, Fresh}
use Rattle.vl_engine_model_laws.specs.Calls.{Install, Keep, Pick, Plan, Release, Relocate, Rotate, Sweep, SweepTo}
use Rattle.vl_engine_model_laws.specs.Kept.{IsLowUp}
use Rattle.vl_engine_model_laws.specs.laws.EachRuling.{begin_leaves, commit_leaves, drain_leaves, flush_leaves}
use Rattle.vl_engine_model_laws.specs.laws.EachRuling.{fresh_leaves, install_leaves, keep_leaves, pick_leaves, plan_leaves}
use Rattle.vl_engine_model_laws.specs.laws.EachRuling.{relocate_leaves, rotate_leaves, sweep_leaves, sweep_to_leaves}
use Rattle.vl_engine_model_laws.specs.laws.Floors.{floor-committed, floor-ended, floor-same, floor-with, low-committed, low-keeping, low-with}
use Rattle.vl_engine_model_laws.proofs.kept.what_was_dropped_is_not_read_again.Goals as goal

same : (l : Layout) (h : History) → IsLowUp l h l h
same l h = low-with l h (floor l h) (floor-same l h)

pub returns : goal.returns
returns c Begin l h = begin_leaves (IsLowUp l h) l h (same l h)
    (λ few. low-with l h _ (floor-with l h (free_ticket (tickets_of l.live))))
returns c BeginView l h = begin_leaves (IsLowUp l h) l h (same l h)
    (λ few. low-with l h _ (floor-with l h (free_ticket (tickets_of l.live))))
returns c (Commit t) l h = commit_leaves (IsLowUp l h) l h (same l h) t (low-with l h _ (floor-ended l h t.ticket))
    (low-committed l h _ (from_sorted t.writes) (floor-committed l h t.ticket (from_sorted t.writes)))
returns c (Forget t) l h = low-with l h _ (floor-ended l h t.ticket)
returns c (Release v) l h = low-with l h _ (floor-ended l h v.ticket)
returns c Rotate l h = rotate_leaves (IsLowUp l h) l h (same l h) (same l h)
returns c Flush l h = flush_leaves (IsLowUp l h) l h (same l h) (λ s. same l h)
returns c (Relocate pass batch) l h = relocate_leaves (IsLowUp l h) l h (same l h) (λ moved. same l h) pass batch
returns c Plan l h = plan_leaves (IsLowUp l h) l h (same l h) (λ job. same l h)
returns c (Drain segment) l h = drain_leaves (IsLowUp l h) l h (same l h) (λ job. same l h) segment
returns c Fresh l h = fresh_leaves (IsLowUp l h) l h (same l h) (same l h)
returns c (Abandon job made) l h = same l h
returns c (Install job made) l h = install_leaves (IsLowUp l h) l h (same l h) job made (same l h) (same l h)
returns c (Pick percent) l h = pick_leaves (IsLowUp l h) l h (same l h) (λ segment. same l h) percent
returns c (EndPass pass) l h = same l h
returns c Sweep l h = sweep_leaves (IsLowUp l h) l h (same l h) (λ gone. same l h)
returns c (SweepTo least) l h = sweep_to_leaves (IsLowUp l h) l h (same l h) (λ gone. same l h) least
returns c (Keep v) l h = keep_leaves (IsLowUp l h) l h (same l h) v (low-keeping l h v)
