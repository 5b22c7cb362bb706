use Rattle.std.proofs.Common.{◌≡◌, ◌∙◌, refl, ap, sym, subst}
use Rattle.std.specs.Prelude.{Result, Err}
use Rattle.std.proofs.lemmas.Result.{err_from_is_err_and}
use Rattle.vl_table.specs.Answers.{Answers}
use Rattle.vl_table.proofs.AnswerSteps.{and_then, behind, fails, gives}
use Rattle.vl_table.specs.Opening.{IsDamaged, IsRead, said_by}
use Rattle.vl_table.specs.OpeningParts.{HasParts}
use Rattle.vl_table.proofs.OpeningSteps.{is_read, opened}
use Rattle.vl_table.proofs.PartFaults.{place_fails}
use Rattle.vl_disk.specs.declared.read_fault.ReadFault.{ReadFault}
use Rattle.vl_table.specs.declared.body.shape.TableShape.{TableShape}
use Rattle.vl_table.proofs.open.read_shape.Goals as goal

pub returns-in_err-place-clause-answers : goal.returns-in_err-place-clause-answers
returns-in_err-place-clause-answers g c =
    let p = err_from_is_err_and c.from_residual-in_err-place.result c.from_residual-in_err-place.ensures.1 in
    subst (λ (r : Result (TableShape) ReadFault). Answers (g.R.Reader.faults c.args.reader.now)
    (g.R.Reader.faults c.read_place.new.reader) c.args.number (g.H.HeldFile.bytes c.args.held.now)
    (λ bytes table. IsRead c.args.number bytes (said_by table)) (IsDamaged c.args.number) r) (sym (p.1 ∙ ap Err p.2))
    (place_fails _ _ _ c.in_ok-format.format c.args.number (g.H.HeldFile.bytes c.args.held.now) c.in_err-place.field-0.0
    _ c.in_ok-format.ensures.answers
    (behind _ _ _ c.args.number _ _ _ _ c.in_ok-end.end _ c.in_ok-end.ensures c.in_err-place.ensures.answers))

pub returns-in_err-parts-clause-answers : goal.returns-in_err-parts-clause-answers
returns-in_err-parts-clause-answers g c =
    let p = err_from_is_err_and c.from_residual-in_err-parts.result c.from_residual-in_err-parts.ensures.1 in
    subst (λ (r : Result (TableShape) ReadFault). Answers (g.R.Reader.faults c.args.reader.now)
    (g.R.Reader.faults c.read_parts.new.reader) c.args.number (g.H.HeldFile.bytes c.args.held.now)
    (λ bytes table. IsRead c.args.number bytes (said_by table)) (IsDamaged c.args.number) r) (sym (p.1 ∙ ap Err p.2))
    (fails _ _ c.args.number (g.H.HeldFile.bytes c.args.held.now) _ _ (IsDamaged c.args.number)
    (IsDamaged c.args.number) c.in_err-parts.field-0.0 (λ bytes told damage is. is)
    (opened c.in_ok-format.format c.args.number (g.H.HeldFile.bytes c.args.held.now) _ _ _ _ c.in_ok-place.place
    (HasParts c.in_ok-format.format c.args.number c.in_ok-place.place) _
    c.in_ok-format.ensures.answers (behind _ _ _ c.args.number _ _ _ _ c.in_ok-end.end _ c.in_ok-end.ensures c.in_ok-place.ensures.answers)
    c.in_err-parts.ensures))

pub returns-clause-answers : goal.returns-clause-answers
returns-clause-answers g c =
    let format = c.in_ok-format.format in
    let parts = c.in_ok-parts.parts in
    let table : TableShape = record {
      format = format;
      number = c.args.number;
      footer = parts.footer;
      footer_place = c.in_ok-place.place;
      blocks = parts.blocks;
      filter = parts.filter;
    } in
    and_then _ _ _ c.args.number (g.H.HeldFile.bytes c.args.held.now) _ (λ bytes (t : TableShape). t ≡ table) _ _
    (λ bytes damage. ⊥) _ parts _
    (λ bytes told read t is. subst (λ (u : TableShape). IsRead c.args.number bytes (said_by u)) (sym is)
    (is_read format c.args.number bytes c.in_ok-place.place parts read.0 read.1 read.2))
    (λ bytes told read damage none. absurd none)
    (opened format c.args.number (g.H.HeldFile.bytes c.args.held.now) _ _ _ _ c.in_ok-place.place
    (HasParts format c.args.number c.in_ok-place.place) _
    c.in_ok-format.ensures.answers (behind _ _ _ c.args.number _ _ _ _ c.in_ok-end.end _ c.in_ok-end.ensures c.in_ok-place.ensures.answers)
    c.in_ok-parts.ensures)
    (gives _ c.args.number _ _ _ table (λ bytes told. refl))
