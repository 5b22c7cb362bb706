use Rattle.std.proofs.Common.{ap, arith, refl, set, sym, ◌∙◌}
use Rattle.vl_table.proofs.KeptSteps.{brings_here, brings_on}
use Rattle.vl_table.specs.declared.slot.Slot.{Slot}
use Rattle.vl_table.proofs.block_reader.bring.Goals as goal

pub returns-then-has-clause-slots : goal.returns-then-has-clause-slots
returns-then-has-clause-slots c =
    brings_here c.args.id.now c.args.front.now c.args.others.now c.args.front.now c.args.others.now 0
    (sym c.has.ensures ∙ c.if-has.true) refl

pub returns-then-has-2-clause-slots : goal.returns-then-has-2-clause-slots
returns-then-has-2-clause-slots c =
    brings_here c.args.id.now c.args.front.now c.args.others.now c.swap.new.x _ _ (sym c.has-in-loop-i.ensures ∙ c.if-has-2.true)
    (brings_on c.args.id.now c.args.front.now c.args.others.now c.loop-i.front c.loop-i.others c.loop-i.i c.swap.new.x
    c.index-others-i.result _ (omega (arith, c.loop-i-test.true, c.loop-i.auto.others))
    c.loop-i.invariant.0 c.swap.ensures.x_after
    (ap (λ (s : Slot). set c.loop-i.others c.loop-i.i s) c.swap.ensures.y_after) c.loop-i.invariant.1)

pub loop-i-preserved : goal.loop-i-preserved
loop-i-preserved c = (
  sym c.has-in-loop-i.ensures ∙ c.if-has-2.false,
  brings_on c.args.id.now c.args.front.now c.args.others.now c.loop-i.front c.loop-i.others c.loop-i.i c.swap.new.x
      c.index-others-i.result _ (omega (arith, c.loop-i-test.true, c.loop-i.auto.others))
      c.loop-i.invariant.0 c.swap.ensures.x_after
      (ap (λ (s : Slot). set c.loop-i.others c.loop-i.i s) c.swap.ensures.y_after) c.loop-i.invariant.1,
)
