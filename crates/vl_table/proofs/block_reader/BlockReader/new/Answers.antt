use Rattle.std.proofs.Common.{arith, length-append, ap, length}
use Rattle.vl_table.proofs.KeptSteps.{empty-kept, kept-push}
use Rattle.vl_table.specs.declared.slot.Slot.{Slot}
use Rattle.vl_table.proofs.block_reader.BlockReader.new.Goals as goal

pub loop-preserved : goal.loop-preserved
loop-preserved g c = record {
  kept = λ files.
      rw c.in_ok-push.ensures.items
      (kept-push files c.loop.others.items c.in_ok-new.field-0 (c.loop.invariant.kept files)
      (empty-kept files c.in_ok-new.field-0 c.in_ok-new.ensures));
  slots = omega (arith, ap length c.in_ok-push.ensures.items, length-append {A = Slot}, c.loop.invariant.slots);
  within = omega (arith, ap length c.in_ok-push.ensures.items, length-append {A = Slot}, c.loop.invariant.slots, c.loop-test.true);
}

pub returns-clause-kept : goal.returns-clause-kept
returns-clause-kept g c = λ files. record
    { front = empty-kept files c.in_ok-front.front c.in_ok-front.ensures; others = c.loop.invariant.kept files }

pub returns-clause-slots : goal.returns-clause-slots
returns-clause-slots g c = omega (arith, c.loop.invariant.slots, c.loop.invariant.within, c.loop-test.false)
