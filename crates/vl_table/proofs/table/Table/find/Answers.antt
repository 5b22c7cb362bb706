use Rattle.std.proofs.Common.{◌∙◌, sym, None}
use Rattle.vl_table.proofs.AnswerSteps.{gives, weaker}
use Rattle.vl_table.proofs.Results.{true_false}
use Rattle.vl_table.specs.laws.KeyRanges.{winner-none}
use Rattle.vl_table.specs.laws.RangeLaws.{holds_none}
use Rattle.vl_table.proofs.Lookups.{found-blocks}
use Rattle.vl_table.specs.Tables.{number_of, shape_of}
use Rattle.vl_table.proofs.table.Table.find.Goals as goal

pub returns-clause-answers : goal.returns-clause-answers
returns-clause-answers g c = λ files reads.
    weaker _ _ (number_of c.args.self.now) _ _ _ _ _ c.seek.result
    (λ bytes told x good es is. good es is ∙ found-blocks (shape_of c.args.self.now).format c.args.key.now c.args.number
    es is.shape.table.tabled.ordered)
    (λ bytes told damage bad. bad) (c.seek.ensures.answers files reads)

pub returns-clause-looks : goal.returns-clause-looks
returns-clause-looks g c = λ files reads holds. c.seek.ensures.looks files reads

pub returns-clause-unread : goal.returns-clause-unread
returns-clause-unread g c = λ no. absurd (true_false (sym (sym c.may_hold.ensures ∙ c.if-not-may_hold.false) ∙ no))

pub returns-then-not-may_hold-clause-answers : goal.returns-then-not-may_hold-clause-answers
returns-then-not-may_hold-clause-answers g c = λ files reads.
    let t = c.args.self.now in
    let no = sym c.may_hold.ensures ∙ c.if-not-may_hold.true in
    gives _ (number_of t) _ _ _ None
    (λ bytes told es is. sym
    (winner-none c.args.key.now c.args.number es (holds_none (number_of t) c.args.key.now (shape_of t) es is.shape no)))

pub returns-then-not-may_hold-clause-looks : goal.returns-then-not-may_hold-clause-looks
returns-then-not-may_hold-clause-looks g c = λ files reads holds. absurd
    (true_false (sym holds ∙ (sym c.may_hold.ensures ∙ c.if-not-may_hold.true)))
