use Rattle.vl_steps.specs.Answers.{begin_outcome}
use Rattle.vlstore.proofs.Shopping.{begins_so, if_ok, new_writes}
use Rattle.vlstore.proofs.shop.calls.SureSessionSureDiskShop.begin.Goals as goal

pub returns-clause-steps : goal.returns-clause-steps
returns-clause-steps g c =
    begins_so c.args.self.now.session c.begin.new.self c.begin.ensures.on (begin_outcome c.begin.result) _ c.as_begin.ensures.outcome
    (c.begin.ensures.steps c.args.self.now.tells)

pub returns-clause-own : goal.returns-clause-own
returns-clause-own g c = if_ok _ c.as_begin.result c.begin.result c.as_begin.ensures.ok (c.begin.ensures.own c.args.self.now.tells)

pub returns-clause-sees : goal.returns-clause-sees
returns-clause-sees g c = if_ok _ c.as_begin.result c.begin.result c.as_begin.ensures.ok (c.begin.ensures.sees c.args.self.now.tells)

pub returns-clause-new : goal.returns-clause-new
returns-clause-new g c =
    if_ok _ c.as_begin.result c.begin.result c.as_begin.ensures.ok (new_writes c.begin.result c.begin.ensures.fresh)
