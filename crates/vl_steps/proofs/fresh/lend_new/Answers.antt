use Rattle.vl_disk.specs.laws.Counting.{new_count_since}
use Rattle.std.proofs.lemmas.Result.{IfOk-weaker}
use Rattle.vl_steps.proofs.LendsNew.{ends_at_create, ends_at_lend, just_made}
use Rattle.vl_steps.proofs.fresh.lend_new.Goals as goal

pub returns-in_err-create-clause-lends : goal.returns-in_err-create-clause-lends
returns-in_err-create-clause-lends g c =
    ends_at_create g.D.Watched _ _ _ _ c.from_residual.result c.from_residual.ensures.0 c.in_err-create.ensures

pub returns-clause-lends : goal.returns-clause-lends
returns-clause-lends g c = ends_at_lend g.D.Watched _ _ _ _ c.in_ok-create.ensures _ c.lend.result c.lend.ensures.lends

pub lend-requires-clause-just_made : goal.lend-requires-clause-just_made
lend-requires-clause-just_made g c = just_made _ _ _ c.in_ok-create.ensures.created

pub returns-clause-faults : goal.returns-clause-faults
returns-clause-faults g c = IfOk-weaker c.lend.result _ _
    (λ writer new. new_count_since _ _ _ (c.in_ok-create.ensures.as_call.time.steady) new) c.lend.ensures.faults
