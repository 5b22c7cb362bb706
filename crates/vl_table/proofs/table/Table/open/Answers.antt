use Rattle.std.proofs.Common.{◌≡◌, ◌∙◌, ap, sym, refl, subst}
use Rattle.std.specs.Prelude.{Ok, Err}
use Rattle.std.proofs.lemmas.Result.{err_from_is_err_and}
use Rattle.vl_table.specs.declared.body.shape.TableShape.{TableShape}
use Rattle.vl_table.specs.Opening.{IsRead, said_by}
use Rattle.vl_table.specs.Tables.{OpensAs, shape_of}
use Rattle.vl_table.specs.declared.table.Table.{Table}
use Rattle.vl_table.proofs.AnswerSteps.{and_then, fails, gives}
use Rattle.vl_table.proofs.TrueTables.{opens_as}
use Rattle.vl_table.proofs.table.Table.open.Goals as goal

pub returns-in-Ok-clause-answers : goal.returns-in-Ok-clause-answers
returns-in-Ok-clause-answers g c =
    let table = c.of.result in
    and_then _ _ _ c.args.number _ _ (λ bytes (t : Table g.row.H.Denot). t ≡ table) _ _ (λ bytes damage. ⊥) _ c.in_ok-shape.shape _
    (λ bytes told read t is. subst (λ (u : Table g.row.H.Denot). IsRead c.args.number bytes (said_by (shape_of u))) (sym is)
    (subst (λ (s : TableShape). IsRead c.args.number bytes (said_by s)) (sym (c.of.ensures.shape ∙ c.in-Ok.ensures.ok)) read))
    (λ bytes told read damage none. absurd none)
    c.in_ok-shape.ensures.answers
    (gives _ c.args.number _ _ _ table (λ bytes told. refl))

pub returns-in-Ok-clause-opens : goal.returns-in-Ok-clause-opens
returns-in-Ok-clause-opens g c = λ format es first readable is told.
    let table = c.of.result in
    opens_as g.H.HeldFile.bytes _ _ c.args.number c.args.held format es (Ok table) (returns-in-Ok-clause-answers g c)
    (ap (λ (s : TableShape). s.number) (c.of.ensures.shape ∙ c.in-Ok.ensures.ok) ∙ c.in_ok-shape.ensures.number)
    c.of.ensures.held first readable is told

pub returns-in_err-shape-clause-opens : goal.returns-in_err-shape-clause-opens
returns-in_err-shape-clause-opens g c = λ format es first readable is told.
    let p = err_from_is_err_and c.from_residual.result c.from_residual.ensures.1 in
    subst (OpensAs g.H.HeldFile.bytes es) (sym (p.1 ∙ ap Err p.2))
    (opens_as {H = g.row.H.Denot} g.H.HeldFile.bytes _ _ c.args.number c.args.held format es (Err c.in_err-shape.field-0.0)
    (fails _ _ c.args.number _ _ _ _ _ c.in_err-shape.field-0.0 (λ bytes told damage bad. bad)
    c.in_err-shape.ensures.answers) tt tt first readable is told)
