use Rattle.std.proofs.Common.{ap, sym, ◌∙◌}
use Rattle.std.specs.Prelude.{Bool, ◌&&◌, not}
use Rattle.vl_compact.specs.Due.{has_leading}
use Rattle.vl_steps.specs.Planning.{is_led_into}
use Rattle.vl_version.specs.levels.LevelsLooked.{tables_of}
use Rattle.vl_engine.proofs.BegunRemoved.{stock_planned}
use Rattle.vl_steps.specs.laws.Planning.{drain_chosen, planned_where}
use Rattle.vl_engine.proofs.engine.Engine.drain.Goals as goal
use Rattle.vl_engine_model.specs.Rulings.Drain.{drain_ruling}

pub returns-in-Ok-clause-stands : goal.returns-in-Ok-clause-stands
returns-in-Ok-clause-stands g c h l is =
    c.begin_chosen.ensures.stands h l (drain_ruling l h c.args.segment) is
    (drain_chosen g.D.Held.HeldFile.bytes c.args.self.now.core c.args.self.now.merging h l (sym c.is_some.ensures ∙ c.if-is_some.false)
    is c.levels.result.now c.levels.ensures c.in-Ok.inputs c.args.segment c.in-Ok.ensures.merge)

pub returns-in-Ok-clause-represents : goal.returns-in-Ok-clause-represents
returns-in-Ok-clause-represents g c h l represents is =
    c.begin_chosen.ensures.represents h l (drain_ruling l h c.args.segment) represents
    (drain_chosen g.D.Held.HeldFile.bytes c.args.self.now.core c.args.self.now.merging h l (sym c.is_some.ensures ∙ c.if-is_some.false)
    is c.levels.result.now c.levels.ensures c.in-Ok.inputs c.args.segment c.in-Ok.ensures.merge)

pub returns-in-Ok-clause-fits : goal.returns-in-Ok-clause-fits
returns-in-Ok-clause-fits g c h l is fits =
    c.begin_chosen.ensures.fits h l (drain_ruling l h c.args.segment) fits
    (drain_chosen g.D.Held.HeldFile.bytes c.args.self.now.core c.args.self.now.merging h l (sym c.is_some.ensures ∙ c.if-is_some.false)
    is c.levels.result.now c.levels.ensures c.in-Ok.inputs c.args.segment c.in-Ok.ensures.merge)

pub returns-in-Ok-clause-job : goal.returns-in-Ok-clause-job
returns-in-Ok-clause-job g c h l is =
    c.begin_chosen.ensures.job h l (drain_ruling l h c.args.segment) is.stands
    (drain_chosen g.D.Held.HeldFile.bytes c.args.self.now.core c.args.self.now.merging h l (sym c.is_some.ensures ∙ c.if-is_some.false)
    is c.levels.result.now c.levels.ensures c.in-Ok.inputs c.args.segment c.in-Ok.ensures.merge)

pub returns-in-Ok-clause-removes : goal.returns-in-Ok-clause-removes
returns-in-Ok-clause-removes g c h l is removes =
    c.begin_chosen.ensures.removes h l (drain_ruling l h c.args.segment) is.stands.fronts removes
    (drain_chosen g.D.Held.HeldFile.bytes c.args.self.now.core c.args.self.now.merging h l (sym c.is_some.ensures ∙ c.if-is_some.false)
    is c.levels.result.now c.levels.ensures c.in-Ok.inputs c.args.segment c.in-Ok.ensures.merge)

pub returns-in-Ok-clause-stock : goal.returns-in-Ok-clause-stock
returns-in-Ok-clause-stock g c =
    stock_planned c.args.self.now.core.back.epoch c.args.self.now.removing c.begin_chosen.new.self.removing
    c.begin_chosen.result c.begin_chosen.ensures.removing

pub returns-in-Ok-clause-leads : goal.returns-in-Ok-clause-leads
returns-in-Ok-clause-leads g c =
    let there = c.in-Ok.ensures.leads ∙ ap (λ ls. has_leading c.args.segment (tables_of ls)) c.levels.ensures in
    planned_where c.begin_chosen.result c.in-Ok.inputs (is_led_into c.args.segment c.args.self.now.core.version)
    c.args.self.now.merging (sym c.is_some.ensures ∙ c.if-is_some.false) there c.begin_chosen.ensures.begins

pub returns-then-is_some-clause-leads : goal.returns-then-is_some-clause-leads
returns-then-is_some-clause-leads g c = ap (λ (b : Bool). not b && is_led_into c.args.segment c.args.self.now.core.version) (sym c.if-is_some.true ∙ c.is_some.ensures)
