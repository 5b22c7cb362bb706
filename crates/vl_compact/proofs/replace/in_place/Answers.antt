use Rattle.std.proofs.lemmas.Result.{IfOk-weaker}
use Rattle.vl_compact.proofs.PlaceLaws.{place_in_place}
use Rattle.vl_engine_model.specs.declared.job.Target.TheVariants.{InPlace}
use Rattle.vl_compact.proofs.replace.in_place.Goals as goal

pub returns-clause-ready : goal.returns-clause-ready
returns-clause-ready g c =
    IfOk-weaker c.ready_at.result _ _
    (λ ready so first ls are has.
    so InPlace first ls are (place_in_place c.args.inputs.now first ls has c.input_place-level.result (c.input_place-level.ensures ls are)))
    c.ready_at.ensures.ready
