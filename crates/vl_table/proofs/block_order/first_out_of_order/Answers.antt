use Rattle.std.proofs.Common.{◌∙◌, ℕ, ap, arith, length, refl, subst, sym, [], ◌∷◌, Option}
use Rattle.std.specs.Prelude.{Result, Err}
use Rattle.std.specs.Result.{IfErr}
use Rattle.std.proofs.lemmas.Result.{err_from_is_err_and}
use Rattle.vl_disk.specs.declared.read_fault.ReadFault.{ReadFault}
use Rattle.vl_table.specs.BlockOrder.{SaysOrder}
use Rattle.vl_table.specs.CursorParts.{MayFailOn}
use Rattle.vl_table.specs.declared.body.shape.TableShape.{TableShape}
use Rattle.vl_table.specs.declared.slot.BlockId.{BlockId}
use Rattle.vl_table.proofs.CursorSteps.{fails_at, stands_at}
use Rattle.vl_table.proofs.OrderSteps.{all_passed, fails_here, goes_on, is_out}
use Rattle.vl_table.proofs.block_order.first_out_of_order.Goals as goal

pub returns-in_err-load-clause-order : goal.returns-in_err-load-clause-order
returns-in_err-load-clause-order g c =
    let bytes = g.H.HeldFile.bytes in
    let t = c.args.table.now in
    let p = err_from_is_err_and c.from_residual-in_err-load.result c.from_residual-in_err-load.ensures.1 in
    subst (λ (r : Result (Option ℕ) ReadFault). SaysOrder bytes t r) (sym (p.1 ∙ ap Err p.2))
    (fails_here bytes t c.shape-shape.result.now c.shape-shape.ensures c.loop-at.at c.loop-at.last c.index.result.now
    (omega (arith, c.loop-at-test.true, c.len-at-end.ensures)) c.index.ensures c.loop-at.invariant.so
    c.held.result.now c.of-id.result _ _ _ c.in_err-load.field-0.0 c.held.ensures c.of-id.ensures c.in_err-load.ensures.answers)

pub returns-in_err-load-clause-may_fail : goal.returns-in_err-load-clause-may_fail
returns-in_err-load-clause-may_fail g c =
    let bytes = g.H.HeldFile.bytes in
    let t = c.args.table.now in
    let p = err_from_is_err_and c.from_residual-in_err-load.result c.from_residual-in_err-load.ensures.1 in
    subst (λ (r : Result (Option ℕ) ReadFault). IfErr r (λ fault. MayFailOn bytes (t ∷ []) fault)) (sym (p.1 ∙ ap Err p.2))
    (fails_at bytes (t ∷ []) 0 t c.shape-shape.result.now c.held.result.now c.of-id.result c.index.result.now c.loop-at.at _ _ _
    c.in_err-load.field-0.0 refl c.shape-shape.ensures c.held.ensures c.of-id.ensures c.index.ensures
    (omega (arith, c.loop-at-test.true, c.len-at-end.ensures)) c.in_err-load.ensures.answers)

pub returns-then-not-may_follow-clause-order : goal.returns-then-not-may_follow-clause-order
returns-then-not-may_follow-clause-order g c =
    let bytes = g.H.HeldFile.bytes in
    let t = c.args.table.now in
    let s = c.shape-shape.result.now in
    let p = c.index.result.now in
    is_out bytes t s c.shape-shape.ensures c.loop-at.at c.loop-at.last p
    (omega (arith, c.loop-at-test.true, c.len-at-end.ensures)) c.index.ensures c.loop-at.invariant.so
    c.of-id.result.place c.load.new.self (ap (λ (x : BlockId). x.place) c.of-id.ensures)
    (stands_at bytes t s c.held.result.now c.of-id.result p c.load.new.self c.shape-shape.ensures c.held.ensures c.of-id.ensures
    c.in_ok-load.ensures.answers.answer)
    (sym c.may_follow.ensures ∙ c.if-not-may_follow.true)

pub loop-at-preserved : goal.loop-at-preserved
loop-at-preserved g c =
    let bytes = g.H.HeldFile.bytes in
    let t = c.args.table.now in
    let s = c.shape-shape.result.now in
    let p = c.index.result.now in
    record {
      so = goes_on bytes t s c.shape-shape.ensures c.loop-at.at c.loop-at.last p
          (omega (arith, c.loop-at-test.true, c.len-at-end.ensures)) c.index.ensures c.loop-at.invariant.so
          c.load.new.self c.in_ok-last.last
          (stands_at bytes t s c.held.result.now c.of-id.result p c.load.new.self c.shape-shape.ensures c.held.ensures
          c.of-id.ensures c.in_ok-load.ensures.answers.answer)
          (sym c.may_follow.ensures ∙ c.if-not-may_follow.false) c.in_ok-last.ensures;
      steady = c.in_ok-load.ensures.answers.cause.steady (λ no. no) ∙ c.loop-at.invariant.steady;
    }

pub returns-clause-order : goal.returns-clause-order
returns-clause-order g c =
    all_passed g.H.HeldFile.bytes c.args.table.now c.loop-at.at c.loop-at.last
    (omega (
      arith,
      c.loop-at-test.false,
      c.len-at-end.ensures,
      ap (λ (s : TableShape). length s.blocks.items) c.shape-shape.ensures,
    )) c.loop-at.invariant.so
