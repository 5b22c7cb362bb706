use Rattle.std.proofs.Common.{◌∙◌, sym, subst, ap}
use Rattle.std.specs.Prelude.{Result, Err}
use Rattle.std.proofs.lemmas.Result.{err_from_is_err_and}
use Rattle.vl_table.specs.Answers.{Answers}
use Rattle.vl_table.specs.OpeningParts.{HasParts, NoParts}
use Rattle.vl_disk.specs.declared.read_fault.ReadFault.{ReadFault}
use Rattle.vl_table.specs.declared.open.Parts.{Parts}
use Rattle.vl_table.proofs.PartFaults.{led_fails}
use Rattle.vl_table.proofs.open.read_parts.Goals as goal

pub returns-in_err-blocks : goal.returns-in_err-blocks
returns-in_err-blocks g c =
    let p = err_from_is_err_and c.from_residual-in_err-blocks.result c.from_residual-in_err-blocks.ensures.1 in
    subst (λ (r : Result Parts ReadFault). Answers (g.R.Reader.faults c.args.reader.now)
    (g.R.Reader.faults c.read_led_to.new.reader) c.args.number (g.H.HeldFile.bytes c.args.held.now)
    (HasParts c.args.format c.args.number c.args.place) (NoParts c.args.format c.args.number c.args.place) r) (sym (p.1 ∙ ap Err p.2))
    (led_fails _ _ _ c.args.format c.args.number c.args.place (g.H.HeldFile.bytes c.args.held.now) c.in_ok-footer.footer
    c.in_err-blocks.field-0.0
    _ _ c.in_ok-footer.ensures c.in_err-blocks.ensures)
