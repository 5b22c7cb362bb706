use Rattle.std.specs.Option.{option_copied}
use Rattle.std.proofs.Common.{[], sym, subst}
use Rattle.std.proofs.lemmas.Result.{IfOk-weaker}
use Rattle.vl_compact.specs.Places.{HasPlace}
use Rattle.vl_compact.specs.Replacing.{AreReady}
use Rattle.vl_engine_model.specs.declared.job.Target.{Target}
use Rattle.vl_compact.proofs.replace.ready_levels.Goals as goal

pub returns-in-InPlace-clause-ready : goal.returns-in-InPlace-clause-ready
returns-in-InPlace-clause-ready g c =
    IfOk-weaker c.in_place.result _ _
    (λ ready so ls are has.
    let first = option_copied c.args.first in
    subst (λ (t : Target). AreReady g.H.HeldFile.bytes t c.args.inputs.now first ls [] ready) (sym c.in-InPlace.is)
    (so first ls are (subst (λ (t : Target). HasPlace t c.args.inputs.now ls) c.in-InPlace.is has)))
    c.in_place.ensures.ready
