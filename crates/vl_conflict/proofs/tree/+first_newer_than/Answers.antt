use Rattle.std.proofs.Common.{ap, sym, ◌∙◌, arith, rules}
use Rattle.std.specs.Option.{option_copied}
use Rattle.vl_model.specs.Reads.{is_from, is_up_to}
use Rattle.vl_conflict.specs.Notes.{span_of}
use Rattle.vl_conflict.proofs.TreeLaws.{left_sorted, right_sorted, node-none, node-right, node-left, node-before}
use Rattle.vl_conflict.proofs.TreeLaws.{node-here, node-behind, some-copied}
use Rattle.vl_conflict.proofs.tree.+first_newer_than.Goals as goal

pub first_newer_than_below-returns-then-node-number : goal.first_newer_than_below-returns-then-node-number
first_newer_than_below-returns-then-node-number t c =
    sym (node-none c.args.number
    (span_of (option_copied c.args.lo) (option_copied c.args.hi) c.args.closed) c.args.node.now c.requires.whole
    (let test = c.if-node-number.true in omega arith))

pub first_newer_than_below-first_newer_than-requires : goal.first_newer_than_below-first_newer_than-requires
first_newer_than_below-first_newer_than-requires t c = (
  search rules,
  (right_sorted c.args.node.now c.requires.sorted, c.requires.whole.5),
)

pub first_newer_than_below-returns-then-not-is_from : goal.first_newer_than_below-returns-then-not-is_from
first_newer_than_below-returns-then-not-is_from t c =
    c.first_newer_than.ensures
    ∙ sym (node-right c.args.number (span_of (option_copied c.args.lo) (option_copied c.args.hi) c.args.closed)
    c.args.node.now c.requires.sorted
    (sym (ap (is_from (option_copied c.args.lo)) c.as_slice.ensures) ∙ sym c.is_from.ensures ∙ c.if-not-is_from.true))

pub first_newer_than_below-first_newer_than-requires-then-not-is_up_to :
    goal.first_newer_than_below-first_newer_than-requires-then-not-is_up_to
first_newer_than_below-first_newer_than-requires-then-not-is_up_to t c = (
  search rules,
  (left_sorted c.args.node.now c.requires.sorted, c.requires.whole.4),
)

pub first_newer_than_below-returns-then-not-is_up_to : goal.first_newer_than_below-returns-then-not-is_up_to
first_newer_than_below-returns-then-not-is_up_to t c =
    c.first_newer_than-then-not-is_up_to.ensures
    ∙ sym (node-left c.args.number (span_of (option_copied c.args.lo) (option_copied c.args.hi) c.args.closed)
    c.args.node.now c.requires.sorted
    (sym (ap (is_up_to (option_copied c.args.hi) c.args.closed) c.as_slice-2.ensures) ∙ sym c.is_up_to.ensures ∙ c.if-not-is_up_to.true))

pub first_newer_than_below-first_newer_than-lesser-requires : goal.first_newer_than_below-first_newer_than-lesser-requires
first_newer_than_below-first_newer_than-lesser-requires t c = (
  search rules,
  (left_sorted c.args.node.now c.requires.sorted, c.requires.whole.4),
)

pub first_newer_than_below-returns-then-is_some : goal.first_newer_than_below-returns-then-is_some
first_newer_than_below-returns-then-is_some t c =
    node-before c.args.number (span_of (option_copied c.args.lo) (option_copied c.args.hi) c.args.closed)
    c.args.node.now (option_copied c.first_newer_than-lesser.result) c.first_newer_than-lesser.ensures
    (some-copied c.first_newer_than-lesser.result ∙ sym c.is_some.ensures ∙ c.if-is_some.true)

pub first_newer_than_below-returns-then-node-number-2 : goal.first_newer_than_below-returns-then-node-number-2
first_newer_than_below-returns-then-node-number-2 t c =
    sym (node-here c.args.number (span_of (option_copied c.args.lo) (option_copied c.args.hi) c.args.closed)
    c.args.node.now (option_copied c.first_newer_than-lesser.result) c.first_newer_than-lesser.ensures
    (some-copied c.first_newer_than-lesser.result ∙ sym c.is_some.ensures ∙ c.if-is_some.false)
    (sym (ap (is_from (option_copied c.args.lo)) c.as_slice.ensures) ∙ sym c.is_from.ensures ∙ c.if-not-is_from.false)
    (sym (ap (is_up_to (option_copied c.args.hi) c.args.closed) c.as_slice-2.ensures) ∙ sym c.is_up_to.ensures
    ∙ c.if-not-is_up_to.false) (let test = c.if-node-number-2.true in omega arith))

pub first_newer_than_below-first_newer_than-requires-2 : goal.first_newer_than_below-first_newer_than-requires-2
first_newer_than_below-first_newer_than-requires-2 t c = (
  search rules,
  (right_sorted c.args.node.now c.requires.sorted, c.requires.whole.5),
)

pub first_newer_than_below-returns : goal.first_newer_than_below-returns
first_newer_than_below-returns t c =
    c.first_newer_than-2.ensures
    ∙ sym (node-behind c.args.number (span_of (option_copied c.args.lo) (option_copied c.args.hi) c.args.closed)
    c.args.node.now (option_copied c.first_newer_than-lesser.result) c.first_newer_than-lesser.ensures
    (some-copied c.first_newer_than-lesser.result ∙ sym c.is_some.ensures ∙ c.if-is_some.false)
    (let test = c.if-node-number-2.false in omega arith))
