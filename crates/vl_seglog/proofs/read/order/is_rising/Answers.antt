use Rattle.std.proofs.Common.{sym, ◌∙◌, arith}
use Rattle.vl_seglog.proofs.Order.{up_at, up_to_end}
use Rattle.vl_seglog.proofs.read.order.is_rising.Goals as goal

pub loop-i-preserved : goal.loop-i-preserved
loop-i-preserved c = (
  omega arith,
  up_at c.args.records.now c.loop-i.i c.index-records-i.result c.index-records-i-in-loop-i.result c.loop-i.invariant.0
      c.loop-i-test.true c.index-records-i.is c.index-records-i-in-loop-i.is
      (sym c.is_below.ensures ∙ c.if-not-is_below.false) c.loop-i.invariant.1,
)

pub returns : goal.returns
returns c = sym (up_to_end c.args.records.now c.loop-i.i c.loop-i-test.false c.loop-i.invariant.1)
