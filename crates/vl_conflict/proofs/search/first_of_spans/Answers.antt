use Rattle.std.proofs.Common.{sym, arith}
use Rattle.vl_conflict.specs.Notes.{lent}
use Rattle.vl_conflict.proofs.Lesser.{nothing-found, one_span_more}
use Rattle.vl_conflict.proofs.search.first_of_spans.Goals as goal

pub loop-span-init : goal.loop-span-init
loop-span-init c = sym (nothing-found c.args.notes.now.named)

pub loop-span-preserved : goal.loop-span-preserved
loop-span-preserved c =
    one_span_more c.args.number c.args.notes.now.named c.requires (lent c.loop-span.first) (lent c.first_within.result)
    (lent c.lesser-first.result) c.lesser-first.ensures c.args.spans.now c.loop-span.span-index c.span-item.result
    (let test = c.loop-span-test.true in omega arith) c.span-item.is c.loop-span.invariant c.first_within.ensures
