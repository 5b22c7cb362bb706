use Rattle.std.proofs.Common.{ap, sym, subst, ◌∙◌}
use Rattle.std.specs.Prelude.{Err, Ok}
use Rattle.std.proofs.lemmas.Result.{err_from_is_err_and}
use Rattle.vl_seglog.specs.Sealed.{IsFilled}
use Rattle.vl_seglog.specs.declared.sealed.Filled.{Filled}
use Rattle.vl_version.specs.Sources.{stored_in}
use Rattle.vl_version.specs.Values.{FillsFar}
use Rattle.vl_version.proofs.LogLaws.{answers_in}
use Rattle.vl_version.proofs.resolve.read_far_into.Goals as goal

pub returns-in_err-len-clause-answers : goal.returns-in_err-len-clause-answers
returns-in_err-len-clause-answers g c told =
    let logs = c.args.logs.now in
    let pointer = c.args.pointer in
    let key = c.args.key.now in
    let p = err_from_is_err_and c.from_residual.result c.from_residual.ensures.1 in
    subst (FillsFar (stored_in g.H.HeldFile.bytes logs pointer key) pointer c.args.out.now c.read_into.new.out) (sym (p.1 ∙ ap Err p.2))
    (answers_in g.H.HeldFile.bytes logs pointer key told c.in-Some.log.now (c.in-Some.ensures.found told.rising)
    (λ stored filled. IsFilled stored c.args.out.now c.read_into.new.out filled) _ _ (Err c.in_err-len.field-0.0)
    c.in-Some.ensures.number c.in_err-len.ensures.answers)

pub returns-in-Here-clause-answers : goal.returns-in-Here-clause-answers
returns-in-Here-clause-answers g c told =
    let stored = stored_in g.H.HeldFile.bytes c.args.logs.now c.args.pointer c.args.key.now in
    let good = answers_in g.H.HeldFile.bytes c.args.logs.now c.args.pointer c.args.key.now told c.in-Some.log.now
    (c.in-Some.ensures.found told.rising)
    (λ stored filled. IsFilled stored c.args.out.now c.read_into.new.out filled) _ _ (Ok c.in_ok-len.field-0)
    c.in-Some.ensures.number c.in_ok-len.ensures.answers in
    subst (λ (filled : Filled). IsFilled stored c.args.out.now c.read_into.new.out filled) c.in-Here.is good

pub returns-in-Small-clause-answers : goal.returns-in-Small-clause-answers
returns-in-Small-clause-answers g c told =
    let stored = stored_in g.H.HeldFile.bytes c.args.logs.now c.args.pointer c.args.key.now in
    let good = answers_in g.H.HeldFile.bytes c.args.logs.now c.args.pointer c.args.key.now told c.in-Some.log.now
    (c.in-Some.ensures.found told.rising)
    (λ stored filled. IsFilled stored c.args.out.now c.read_into.new.out filled) _ _ (Ok c.in_ok-len.field-0)
    c.in-Some.ensures.number c.in_ok-len.ensures.answers in
    subst (λ (filled : Filled). IsFilled stored c.args.out.now c.read_into.new.out filled) c.in-Small.is good
