use Rattle.std.proofs.Common.{◌≡◌, ◌-◌, ◌∙◌, ℕ, ap, arith, get_or, length, subst, sym}
use Rattle.vl_model.specs.declared.entry.Entry.{Entry}
use Rattle.vl_table.specs.body.Entries.{entry_of}
use Rattle.vl_table.proofs.OrderSteps.{last_here}
use Rattle.vl_table.proofs.block_order.last_behind.Goals as goal

pub returns : goal.returns
returns c = λ passed is.
    let count = c.len-count.ensures.exact in
    let e = c.in_ok-to_entry.field-0 in
    last_here passed c.args.block.now e (omega (arith, count, c.if-count-eq0.false))
    (subst (λ (x : Entry). x ≡ get_or c.args.block.now (length c.args.block.now - 1) x) (sym c.in_ok-to_entry.ensures)
    (c.get.ensures ∙ ap (λ (n : ℕ). get_or c.args.block.now (n - 1) (entry_of c.get.result)) count))
