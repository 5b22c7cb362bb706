use Rattle.std.proofs.Common.{◌+◌, ◌∙◌, refl, arith}
use Rattle.vl_model.proofs.KeyOrders.{by_lengths, fewer_alike, words_alike, words_decide}
use Rattle.vl_model.proofs.keys.short_order.Goals as goal

pub returns-then-x-y : goal.returns-then-x-y
returns-then-x-y c =
    c.cmp.ensures
    ∙ words_decide 4 0 c.args.a.now c.args.b.now (omega arith) (omega arith) (λ k. (c.type_inv.a k).fits) (λ k. (c.type_inv.b k).fits)
    refl c.half_at-x.result c.half_at-y.result c.half_at-x.ensures c.half_at-y.ensures c.if-x-y.true

pub returns-then-x-y-2 : goal.returns-then-x-y-2
returns-then-x-y-2 c =
    let first = words_alike 4 0 c.args.a.now c.args.b.now (omega arith) (omega arith) (λ k. (c.type_inv.a k).fits) (λ k. (c.type_inv.b k).fits)
    refl c.half_at-x.result c.half_at-y.result c.half_at-x.ensures c.half_at-y.ensures c.if-x-y.false in
    let front = fewer_alike c.args.last 4 c.args.a.now c.args.b.now (omega arith) first in
    c.cmp-then-x-y-2.ensures
    ∙ words_decide 4 c.args.last c.args.a.now c.args.b.now (omega arith) (omega arith) (λ k. (c.type_inv.a k).fits) (λ k. (c.type_inv.b k).fits)
    front c.half_at-x-2.result c.half_at-y-2.result c.half_at-x-2.ensures c.half_at-y-2.ensures c.if-x-y-2.true

pub returns : goal.returns
returns c =
    let first = words_alike 4 0 c.args.a.now c.args.b.now (omega arith) (omega arith) (λ k. (c.type_inv.a k).fits) (λ k. (c.type_inv.b k).fits)
    refl c.half_at-x.result c.half_at-y.result c.half_at-x.ensures c.half_at-y.ensures c.if-x-y.false in
    let front = fewer_alike c.args.last 4 c.args.a.now c.args.b.now (omega arith) first in
    c.cmp-2.ensures
    ∙ by_lengths (c.args.last + 4) c.args.a.now c.args.b.now c.requires.length
    (words_alike 4 c.args.last c.args.a.now c.args.b.now (omega arith) (omega arith) (λ k. (c.type_inv.a k).fits) (λ k. (c.type_inv.b k).fits)
    front c.half_at-x-2.result c.half_at-y-2.result c.half_at-x-2.ensures c.half_at-y-2.ensures c.if-x-y-2.false)
