use Rattle.std.proofs.Common.{◌+◌, ◌∙◌, arith}
use Rattle.vl_model.proofs.KeyOrders.{by_lengths, fewer_alike, words_alike, words_decide}
use Rattle.vl_model.proofs.keys.long_order.Goals as goal

pub returns-then-x-y : goal.returns-then-x-y
returns-then-x-y c =
    c.cmp.ensures
    ∙ words_decide 8 c.loop-at.at c.args.a.now c.args.b.now (omega arith) (omega arith) (λ k. (c.type_inv.a k).fits) (λ k. (c.type_inv.b k).fits)
    c.loop-at.invariant.alike c.word_at-x.result c.word_at-y.result c.word_at-x.ensures c.word_at-y.ensures c.if-x-y.true

pub loop-at-preserved : goal.loop-at-preserved
loop-at-preserved c = record {
  within = omega arith;
  alike = words_alike 8 c.loop-at.at c.args.a.now c.args.b.now (omega arith) (omega arith) (λ k. (c.type_inv.a k).fits) (λ k. (c.type_inv.b k).fits)
      c.loop-at.invariant.alike c.word_at-x.result c.word_at-y.result c.word_at-x.ensures c.word_at-y.ensures c.if-x-y.false;
}

pub returns-then-x-y-2 : goal.returns-then-x-y-2
returns-then-x-y-2 c =
    let front = fewer_alike c.args.last c.loop-at.at c.args.a.now c.args.b.now (omega arith) c.loop-at.invariant.alike in
    c.cmp-then-x-y-2.ensures
    ∙ words_decide 8 c.args.last c.args.a.now c.args.b.now (omega arith) (omega arith) (λ k. (c.type_inv.a k).fits) (λ k. (c.type_inv.b k).fits)
    front c.word_at-x-2.result c.word_at-y-2.result c.word_at-x-2.ensures c.word_at-y-2.ensures c.if-x-y-2.true

pub returns : goal.returns
returns c =
    let front = fewer_alike c.args.last c.loop-at.at c.args.a.now c.args.b.now (omega arith) c.loop-at.invariant.alike in
    c.cmp-2.ensures
    ∙ by_lengths (c.args.last + 8) c.args.a.now c.args.b.now c.requires
    (words_alike 8 c.args.last c.args.a.now c.args.b.now (omega arith) (omega arith) (λ k. (c.type_inv.a k).fits) (λ k. (c.type_inv.b k).fits)
    front c.word_at-x-2.result c.word_at-y-2.result c.word_at-x-2.ensures c.word_at-y-2.ensures c.if-x-y-2.false)
