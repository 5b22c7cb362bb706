use Rattle.std.proofs.Common.{◌≡◌, ◌∙◌, length, min, arith}
use Rattle.vl_model.proofs.KeyOrders.{by_lengths, byte_word, words_alike, words_decide}
use Rattle.vl_model.proofs.keys.few_order.Goals as goal

pub returns-then-a-at : goal.returns-then-a-at
returns-then-a-at c =
    c.cmp.ensures
    ∙ words_decide 1 c.loop-at.at c.args.a.now c.args.b.now (omega arith) (omega arith) (λ k. (c.type_inv.a k).fits) (λ k. (c.type_inv.b k).fits)
    c.loop-at.invariant _ _ (byte_word c.loop-at.at c.args.a.now) (byte_word c.loop-at.at c.args.b.now) c.if-a-at.true

pub loop-at-preserved : goal.loop-at-preserved
loop-at-preserved c =
    words_alike 1 c.loop-at.at c.args.a.now c.args.b.now (omega arith) (omega arith) (λ k. (c.type_inv.a k).fits) (λ k. (c.type_inv.b k).fits)
    c.loop-at.invariant _ _ (byte_word c.loop-at.at c.args.a.now) (byte_word c.loop-at.at c.args.b.now) c.if-a-at.false

pub returns : goal.returns
returns c =
    let ends : c.loop-at.at ≡ min (length c.args.a.now) (length c.args.b.now) = omega arith in
    c.cmp-2.ensures ∙ by_lengths c.loop-at.at c.args.a.now c.args.b.now ends c.loop-at.invariant
