use Rattle.std.proofs.Common.{◌≡◌, ◌^◌, ◌<◌, ⊎_elim, inl, inr, ◌∙◌, sym, true, false, arith}
use Rattle.vl_script.proofs.Spelling.{no_number, other_number, this_number}
use Rattle.vl_script.proofs.numbers.spelled.Goals as goal

pub returns-in_err-number : goal.returns-in_err-number
returns-in_err-number c =
    let small : c.args.most < 2 ^ 64 = omega (arith, c.ranges.most.fits) in
    let none = no_number c.args.word.now c.args.most small c.parse.result c.parse.ensures.value.0 in
    c.from_residual.ensures ∙ sym (none c.in_err-number.ensures.value)

pub returns-then-ne : goal.returns-then-ne
returns-then-ne c =
    let small : c.args.most < 2 ^ 64 = omega (arith, c.ranges.most.fits) in
    sym (other_number c.args.word.now c.args.most small c.parse.result c.parse.ensures.value.0
    c.in_ok-number.number c.in_ok-number.ensures.value
    c.as_bytes.result.now c.as_bytes-2.result.now (c.as_bytes.ensures.value ∙ c.format.ensures.text) c.as_bytes-2.ensures.value
    (⊎_elim
    (λ (apart : c.ne.result ≡ true). inl (sym apart ∙ c.ne.ensures))
    (λ (past : (c.ne.result ≡ false) × (c.args.most < c.in_ok-number.number)). inr past.1)
    c.then-ne.either))

pub returns : goal.returns
returns c =
    let small : c.args.most < 2 ^ 64 = omega (arith, c.ranges.most.fits) in
    sym (this_number c.args.word.now c.args.most small c.parse.result c.parse.ensures.value.0
    c.in_ok-number.number c.in_ok-number.ensures.value
    c.as_bytes.result.now c.as_bytes-2.result.now (c.as_bytes.ensures.value ∙ c.format.ensures.text) c.as_bytes-2.ensures.value
    (sym c.if-ne.false ∙ c.ne.ensures) c.if-number-most.false)
