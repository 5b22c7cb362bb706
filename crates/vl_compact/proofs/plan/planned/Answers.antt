use Rattle.std.proofs.Common.{refl}
use Rattle.vl_compact.proofs.MergeLaws.{plan_none, plan_some}
use Rattle.vl_compact.proofs.plan.planned.Goals as goal

pub returns-in-None-clause-merge : goal.returns-in-None-clause-merge
returns-in-None-clause-merge g c = λ ls are. plan_none g.H.HeldFile.bytes ls (c.in-None.ensures.due ls are)

pub returns-in_ok-inputs_at-in-Some-clause-merge : goal.returns-in_ok-inputs_at-in-Some-clause-merge
returns-in_ok-inputs_at-in-Some-clause-merge g c = λ ls are.
    plan_some g.H.HeldFile.bytes _ ls c.in-Some.level (c.in-Some.ensures.due ls are)
    (record { tables = c.in_ok-inputs_at-in-Some.ensures ls are; target = refl })
