use Rattle.std.proofs.Common.{ap, sym, ◌∙◌}
use Rattle.std.specs.Prelude.{Bool, ◌&&◌, not}
use Rattle.vl_compact.specs.Due.{has_due}
use Rattle.vl_compact.specs.Laid.{by_level}
use Rattle.vl_steps.specs.Planning.{is_due}
use Rattle.vl_engine.proofs.BegunRemoved.{stock_planned}
use Rattle.vl_steps.specs.laws.Planning.{plan_chosen, planned_where}
use Rattle.vl_engine.proofs.engine.Engine.plan.Goals as goal
use Rattle.vl_engine_model.specs.Rulings.Plan.{plan_ruling}

pub returns-in-Ok-clause-stands : goal.returns-in-Ok-clause-stands
returns-in-Ok-clause-stands g c h l is =
    c.begin_chosen.ensures.stands h l (plan_ruling l h) is
    (plan_chosen g.D.Held.HeldFile.bytes c.args.self.now.core c.args.self.now.merging h l (sym c.is_some.ensures ∙ c.if-is_some.false)
    is c.levels.result.now c.levels.ensures c.in-Ok.inputs c.in-Ok.ensures.merge)

pub returns-in-Ok-clause-represents : goal.returns-in-Ok-clause-represents
returns-in-Ok-clause-represents g c h l represents is =
    c.begin_chosen.ensures.represents h l (plan_ruling l h) represents
    (plan_chosen g.D.Held.HeldFile.bytes c.args.self.now.core c.args.self.now.merging h l (sym c.is_some.ensures ∙ c.if-is_some.false)
    is c.levels.result.now c.levels.ensures c.in-Ok.inputs c.in-Ok.ensures.merge)

pub returns-in-Ok-clause-fits : goal.returns-in-Ok-clause-fits
returns-in-Ok-clause-fits g c h l is fits =
    c.begin_chosen.ensures.fits h l (plan_ruling l h) fits
    (plan_chosen g.D.Held.HeldFile.bytes c.args.self.now.core c.args.self.now.merging h l (sym c.is_some.ensures ∙ c.if-is_some.false)
    is c.levels.result.now c.levels.ensures c.in-Ok.inputs c.in-Ok.ensures.merge)

pub returns-in-Ok-clause-job : goal.returns-in-Ok-clause-job
returns-in-Ok-clause-job g c h l is =
    c.begin_chosen.ensures.job h l (plan_ruling l h) is.stands
    (plan_chosen g.D.Held.HeldFile.bytes c.args.self.now.core c.args.self.now.merging h l (sym c.is_some.ensures ∙ c.if-is_some.false)
    is c.levels.result.now c.levels.ensures c.in-Ok.inputs c.in-Ok.ensures.merge)

pub returns-in-Ok-clause-removes : goal.returns-in-Ok-clause-removes
returns-in-Ok-clause-removes g c h l is removes =
    c.begin_chosen.ensures.removes h l (plan_ruling l h) is.stands.fronts removes
    (plan_chosen g.D.Held.HeldFile.bytes c.args.self.now.core c.args.self.now.merging h l (sym c.is_some.ensures ∙ c.if-is_some.false)
    is c.levels.result.now c.levels.ensures c.in-Ok.inputs c.in-Ok.ensures.merge)

pub returns-in-Ok-clause-stock : goal.returns-in-Ok-clause-stock
returns-in-Ok-clause-stock g c =
    stock_planned c.args.self.now.core.back.epoch c.args.self.now.removing c.begin_chosen.new.self.removing
    c.begin_chosen.result c.begin_chosen.ensures.removing

pub returns-in-Ok-clause-due : goal.returns-in-Ok-clause-due
returns-in-Ok-clause-due g c =
    let there = c.in-Ok.ensures.due ∙ ap (λ ls. has_due g.D.Held.HeldFile.size 0 (by_level ls)) c.levels.ensures in
    planned_where c.begin_chosen.result c.in-Ok.inputs (is_due g.D.Held.HeldFile.size c.args.self.now.core.version)
    c.args.self.now.merging (sym c.is_some.ensures ∙ c.if-is_some.false) there c.begin_chosen.ensures.begins

pub returns-then-is_some-clause-due : goal.returns-then-is_some-clause-due
returns-then-is_some-clause-due g c = ap (λ (b : Bool). not b && is_due g.D.Held.HeldFile.size c.args.self.now.core.version) (sym c.if-is_some.true ∙ c.is_some.ensures)
