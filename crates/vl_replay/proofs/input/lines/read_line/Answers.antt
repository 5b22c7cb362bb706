use Rattle.std.proofs.Common.{arith, sym, ap, ◌∙◌, ◌++◌, length, length-append}
use Rattle.vl_script_model.specs.laws.Ends.{keeps_up_within}
use Rattle.std.proofs.lemmas.Bool.{eqb-false}
use Rattle.vl_script_model.specs.laws.ReadLines.{read_to_end, read_all, more_given, unended-append, too_long, last_line_read}
use Rattle.vl_replay.proofs.input.lines.read_line.Goals as goal

pub returns-then-branch-clause-line : goal.returns-then-branch-clause-line
returns-then-branch-clause-line g c left told =
    let was = c.loop-line.invariant.told left told in
    let taken = rw c.if-branch.true at c.in_ok-take_line.ensures in
    let all = read_to_end _ _ _ _ _ _ was.2 c.loop-line.invariant.unended taken in
    (was.0, was.1, all.0, all.1)

pub returns-then-len-gt-MAX_LINE_BYTES-clause-line :
    goal.returns-then-len-gt-MAX_LINE_BYTES-clause-line
returns-then-len-gt-MAX_LINE_BYTES-clause-line g c left told =
    let was = c.loop-line.invariant.told left told in
    let taken = rw c.if-branch.false at c.in_ok-take_line.ensures in
    let all = read_all _ _ _ _ _ _ was.2 c.loop-line.invariant.unended taken in
    too_long _ _ _ _ all.0 all.1 (omega arith)

pub returns-else-is_empty-clause-line : goal.returns-else-is_empty-clause-line
returns-else-is_empty-clause-line g c left told =
    let was = c.loop-line.invariant.told left told in
    let taken = rw c.if-branch.false at c.in_ok-take_line.ensures in
    let all = read_all _ _ _ _ _ _ was.2 c.loop-line.invariant.unended taken in
    let filled = rw (c.if-not-branch.true, was.1) at c.in_ok-refill.ensures.bytes in
    let last = last_line_read _ _ _ _ _ all.0 filled in
    (last.0, last.1, all.1, omega (arith, c.take_line.new.line.ok.0, eqb-false _ _ (sym c.if-is_empty.ensures)))

pub returns-in_err-refill-clause-keeps_up : goal.returns-in_err-refill-clause-keeps_up
returns-in_err-refill-clause-keeps_up g c left told kept_up =
    let was = c.loop-line.invariant.told left told in
    let taken = rw c.if-branch.false at c.in_ok-take_line.ensures in
    let all = read_all _ _ _ _ _ _ was.2 c.loop-line.invariant.unended taken in
    keeps_up_within (c.args.buffer.now ++ left) c.take_line.new.line.items was.0 (g.S.Source.asked c.refill.new.source)
    all.0 all.1 (c.refill.ensures.asked ∙ was.1)

pub returns-else-is_empty-clause-keeps_up : goal.returns-else-is_empty-clause-keeps_up
returns-else-is_empty-clause-keeps_up g c left told kept_up =
    let was = c.loop-line.invariant.told left told in
    let taken = rw c.if-branch.false at c.in_ok-take_line.ensures in
    let all = read_all _ _ _ _ _ _ was.2 c.loop-line.invariant.unended taken in
    keeps_up_within (c.args.buffer.now ++ left) c.take_line.new.line.items was.0 (g.S.Source.asked c.refill.new.source)
    all.0 all.1 (c.refill.ensures.asked ∙ was.1)

pub loop-line-preserved : goal.loop-line-preserved
loop-line-preserved g c =
    let taken = rw c.if-branch.false at c.in_ok-take_line.ensures in
    record {
      told = λ had told.
          let was = c.loop-line.invariant.told had told in
          let all = read_all _ _ _ _ _ _ was.2 c.loop-line.invariant.unended taken in
          let filled = rw (c.if-not-branch.false, was.1) at c.in_ok-refill.ensures.bytes in
          more_given (c.args.buffer.now ++ had) c.take_line.new.line.items was.0 c.refill.new.self
          (g.S.Source.left c.refill.new.source) all.0 filled;
      unended = rw taken.2 (unended-append c.loop-line.line.items c.loop-line.buffer c.loop-line.invariant.unended taken.1);
      keeps_up = λ had told kept_up.
          let was = c.loop-line.invariant.told had told in
          let all = read_all _ _ _ _ _ _ was.2 c.loop-line.invariant.unended taken in
          keeps_up_within (c.args.buffer.now ++ had) c.take_line.new.line.items was.0
          (g.S.Source.asked c.refill.new.source) all.0 all.1 (c.refill.ensures.asked ∙ was.1);
      spent = omega (
        arith,
        ap length taken.2,
        length-append c.loop-line.line.items c.loop-line.buffer,
        c.in_ok-refill.ensures.budget,
        c.loop-line.invariant.spent,
      );
      steady = c.in_ok-refill.ensures.cause.steady (λ e. cc) ∙ c.loop-line.invariant.steady;
    }

-- ---- what is told of the source stays told

pub returns-then-branch-clause-still_told : goal.returns-then-branch-clause-still_told
returns-then-branch-clause-still_told g c left told = let was = c.loop-line.invariant.told left told in (was.0, was.1)

pub returns-then-len-gt-MAX_LINE_BYTES-clause-still_told : goal.returns-then-len-gt-MAX_LINE_BYTES-clause-still_told
returns-then-len-gt-MAX_LINE_BYTES-clause-still_told g c left told = let was = c.loop-line.invariant.told left told in (was.0, was.1)

pub returns-in_err-refill-clause-still_told : goal.returns-in_err-refill-clause-still_told
returns-in_err-refill-clause-still_told g c left told =
    let was = c.loop-line.invariant.told left told in
    (was.0, c.in_err-refill.ensures.kept ∙ was.1)
