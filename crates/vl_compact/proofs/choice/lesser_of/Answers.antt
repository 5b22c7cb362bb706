use Rattle.std.specs.Prelude.{Some}
use Rattle.std.proofs.Common.{◌∙◌, ap, subst}
use Rattle.vl_table.specs.declared.body.shape.TableShape.{TableShape}
use Rattle.vl_compact.proofs.Choices.{lesser_here, lesser_there}
use Rattle.vl_compact.specs.Laid.{AreBoth, IsTableOf}
use Rattle.vl_compact.proofs.choice.lesser_of.Goals as goal

pub returns-then-others-number : goal.returns-then-others-number
returns-then-others-number g c = λ t u is_t is_u.
    subst (AreBoth (IsTableOf g.H.HeldFile.bytes) (Some c.args.other.now))
    (lesser_there t u c.shape-2.result.now.number c.shape.result.now.number
    (ap (λ (s : TableShape). s.number) c.shape-2.ensures ∙ is_u.number)
    (ap (λ (s : TableShape). s.number) c.shape.ensures ∙ is_t.number) c.if-others-number.true) is_u

pub returns-else-others-number : goal.returns-else-others-number
returns-else-others-number g c = λ t u is_t is_u.
    subst (AreBoth (IsTableOf g.H.HeldFile.bytes) (Some c.args.table.now))
    (lesser_here t u c.shape-2.result.now.number c.shape.result.now.number
    (ap (λ (s : TableShape). s.number) c.shape-2.ensures ∙ is_u.number)
    (ap (λ (s : TableShape). s.number) c.shape.ensures ∙ is_t.number) c.if-others-number.false) is_t
