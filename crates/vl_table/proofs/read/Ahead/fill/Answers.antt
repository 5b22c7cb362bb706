use Rattle.std.proofs.Common.{◌≤◌, ◌+◌, ◌-◌, ◌∙◌, ap, arith, length, List, ℕ}
use Rattle.std.specs.Prelude.{drop, take}
use Rattle.vl_table.proofs.Parts.{part_of}
use Rattle.vl_table.proofs.read.Ahead.fill.Goals as goal

pub returns-clause-filled : goal.returns-clause-filled
returns-clause-filled c = λ yes bytes has.
    let from = c.args.self.now.place in
    let past = c.args.place - from in
    let n = length c.args.out.now in
    let items = c.args.self.now.bytes.items in
    let le : from ≤ c.args.place = omega (arith, c.if-place-self.false) in
    let within : past + n ≤ length items = omega (arith, c.if-past-len.false, c.if-out-len.false, c.len-len.ensures) in
    c.copy_from_slice.ensures.after ∙ ap (λ (k : ℕ). take k (drop past c.deref.result.now)) (omega arith)
    ∙ ap (λ (l : List ℕ). take n (drop past l)) c.deref.ensures.value ∙ part_of c.args.place from n bytes items has.0 le within has.1
