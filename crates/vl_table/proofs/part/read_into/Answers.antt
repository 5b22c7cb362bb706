use Rattle.std.proofs.Common.{◌≡◌, ◌∙◌, ap, sym, refl, length, arith}
use Rattle.std.proofs.lemmas.Result.{err_from_is_err_and}
use Rattle.vl_table.proofs.AnswerSteps.{and_then, gives, none_needed, refuses}
use Rattle.vl_table.proofs.Parts.{fills, length-cut, spelled_of, stands}
use Rattle.vl_table.proofs.part.read_into.Goals as goal

pub returns-in_err-fill-clause-no_memory : goal.returns-in_err-fill-clause-no_memory
returns-in_err-fill-clause-no_memory g c =
    let p = err_from_is_err_and c.from_residual.result c.from_residual.ensures.1 in
    none_needed (Unit {0}) c.in_err-fill.field-0.0 p.0 c.from_residual.result p.1 p.2 c.in_err-fill.ensures.no_memory

pub returns-then-not-is_frame-clause-answers : goal.returns-then-not-is_frame-clause-answers
returns-then-not-is_frame-clause-answers g c =
    let size = length c.args.frame.now in
    and_then _ _ _ c.args.number _ _ _ _ _ (λ bytes damage. damage ≡ c.args.place) _ c.in_ok-fill.field-0 _ (λ bytes told read x good. good)
    (λ bytes told read p bad. (
      λ body at.
          let one = spelled_of c.args.number c.args.place size c.args.kind bytes c.fill.new.out body read at in
          let yes = c.is_frame.ensures.whole body one.0 one.1 in
          let no = c.if-not-is_frame.true in cc,
      bad,
    ))
    c.in_ok-fill.ensures.answers
    (refuses _ c.args.number c.args.place _ _ _ c.damaged.result c.damaged.ensures (λ bytes told. refl))

pub returns-clause-answers : goal.returns-clause-answers
returns-clause-answers g c =
    let size = length c.args.frame.now in
    let found = c.is_frame.ensures.found c.if-not-is_frame.false in
    and_then _ _ _ c.args.number _ _ (λ bytes done. Unit {0}) _ _ (λ bytes damage. ⊥) _ c.in_ok-fill.field-0 _
    (λ bytes told read x good.
    let at = stands c.args.number c.args.place size c.args.kind bytes c.fill.new.out found.0 read found.1 found.2
    (sym (ap length read ∙ length-cut c.args.place size bytes
    (omega (arith, c.requires, g.met.H.HeldFile.sized c.args.held.now bytes told)))) in
    (found.0, at, fills c.args.number c.args.place c.fill.new.out c.args.kind found.0 found.1 found.2))
    (λ bytes told read p bad. absurd bad)
    c.in_ok-fill.ensures.answers
    (gives _ c.args.number _ _ _ tt (λ bytes told. tt))

pub returns-clause-framed : goal.returns-clause-framed
returns-clause-framed g c =
    let found = c.is_frame.ensures.found c.if-not-is_frame.false in
    (found.0, fills c.args.number c.args.place c.fill.new.out c.args.kind found.0 found.1 found.2)
