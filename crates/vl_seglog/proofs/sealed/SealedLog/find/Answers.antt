use Rattle.std.proofs.Common.{refl, arith}
use Rattle.vl_seglog.proofs.AnswerSteps.{refuses}
use Rattle.vl_seglog.proofs.Found.{gives_none, leads_inside}
use Rattle.vl_seglog.proofs.sealed.SealedLog.find.Goals as goal

-- no record of the key has the pointer's length
pub returns-in_default-clause-answers : goal.returns-in_default-clause-answers
returns-in_default-clause-answers g c =
    refuses _ c.args.self.now.number c.args.pointer.place _ _ _ c.damaged.result c.damaged.ensures
    (λ bytes told. (
      gives_none c.args.self.now.format bytes c.args.pointer c.args.key.now
          (λ value leads. c.in_default.ensures.none value leads.stands.lawful.key_length leads.stands.lawful.value_length leads.length),
      refl,
    ))

-- it leads out of the file
pub returns-then-not-is_inside-clause-answers : goal.returns-then-not-is_inside-clause-answers
returns-then-not-is_inside-clause-answers g c =
    refuses _ c.args.self.now.number c.args.pointer.place _ _ _ c.damaged-then-not-is_inside.result c.damaged-then-not-is_inside.ensures
    (λ bytes told. (
      gives_none c.args.self.now.format bytes c.args.pointer c.args.key.now
          (λ value leads.
          let inside = leads_inside c.args.self.now.format bytes c.args.pointer c.args.key.now value leads in
          let yes = c.is_inside.ensures.is.1 (omega (arith, inside, g.met.H.HeldFile.sized c.args.self.now.held bytes told)) in
          let no = c.if-not-is_inside.true in cc),
      refl,
    ))
