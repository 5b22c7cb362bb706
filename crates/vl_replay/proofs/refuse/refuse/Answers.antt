use Rattle.std.proofs.Common.{◌∙◌, subst, List, ℕ}
use Rattle.vl_script_model.specs.Steps.{Finishes}
use Rattle.vl_script_model.specs.declared.ending.Ending.TheVariants.{Refused}
use Rattle.vl_replay.proofs.Refused.{refused_so}
use Rattle.vl_replay.proofs.refuse.refuse.Goals as goal

pub returns-in-Ok : goal.returns-in-Ok
returns-in-Ok g c =
    refused_so g.K.Sink c.args.sink.now c.finish.new.sink c.args.refusal c.finish.result
    (subst (λ (line : List ℕ). Finishes g.K.Sink c.args.sink.now c.finish.new.sink line (Refused c.args.refusal) c.finish.result)
    (c.deref.ensures.value ∙ c.in-Ok.ensures) c.finish.ensures)
