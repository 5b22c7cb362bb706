use Rattle.std.proofs.Common.{◌≡◌, ap, sym, subst, ◌∙◌, Some}
use Rattle.std.specs.Prelude.{Err, Ok}
use Rattle.std.proofs.lemmas.Result.{err_from_is_err_and}
use Rattle.vl_model.specs.Keys.{Stored}
use Rattle.vl_version.specs.Naming.{IsLogFault}
use Rattle.vl_version.specs.Sources.{stored_in}
use Rattle.vl_version.specs.Values.{GivesFar}
use Rattle.vl_version.proofs.LogLaws.{answers_in}
use Rattle.vl_version.proofs.NamingLaws.{err_is, far_fault}
use Rattle.vl_version.proofs.resolve.read_far.Goals as goal

pub returns-in_err-read_at-clause-answers : goal.returns-in_err-read_at-clause-answers
returns-in_err-read_at-clause-answers g c told =
    let logs = c.args.logs.now in
    let pointer = c.args.pointer in
    let key = c.args.key.now in
    let p = err_from_is_err_and c.from_residual.result c.from_residual.ensures.1 in
    subst (GivesFar (stored_in g.H.HeldFile.bytes logs pointer key) pointer) (sym (p.1 ∙ ap Err p.2))
    (answers_in g.H.HeldFile.bytes logs pointer key told c.in-Some.log.now (c.in-Some.ensures.found told.rising)
    (λ stored value. stored ≡ Some value) _ _ (Err c.in_err-read_at.field-0.0)
    c.in-Some.ensures.number c.in_err-read_at.ensures.answers)

pub returns-clause-answers : goal.returns-clause-answers
returns-clause-answers g c told =
    answers_in g.H.HeldFile.bytes c.args.logs.now c.args.pointer c.args.key.now told c.in-Some.log.now
    (c.in-Some.ensures.found told.rising) (λ stored value. stored ≡ Some value) _ _ (Ok c.in_ok-read_at.field-0)
    c.in-Some.ensures.number c.in_ok-read_at.ensures.answers

pub returns-in_err-read_at-clause-fault : goal.returns-in_err-read_at-clause-fault
returns-in_err-read_at-clause-fault g c =
    let p = err_from_is_err_and c.from_residual.result c.from_residual.ensures.1 in
    err_is {T = Stored} (IsLogFault c.args.logs.now) c.in_err-read_at.field-0.0 c.from_residual.result (p.1 ∙ ap Err p.2)
    (far_fault c.args.logs.now c.in-Some.log.now c.in_err-read_at.field-0.0 c.in-Some.ensures.among
    c.in_err-read_at.ensures.answers.named)
