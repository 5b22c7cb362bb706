use Rattle.std.proofs.lemmas.Result.{IfOk-weaker}
use Rattle.vl_space.specs.laws.CollectLaws.{keeps_readied, leads_some, on_err}
use Rattle.vl_space.proofs.kept.Collecting.live_with.Goals as goal

pub returns-in-Some-clause-live : goal.returns-in-Some-clause-live
returns-in-Some-clause-live g c =
    IfOk-weaker c.with.result _ _ (λ live is. leads_some c.ready.new.self.tally c.in-Some.tally live _ _ c.in-Some.is is) c.with.ensures

pub returns-in-Some-clause-refused : goal.returns-in-Some-clause-refused
returns-in-Some-clause-refused g c =
    on_err c.with.result _
    (keeps_readied g.H.HeldFile.bytes c.args.core.now c.args.self.now c.ready.new.self c.in_ok-ready.ensures.readied)
