use Rattle.std.proofs.Common.{◌∙◌, sym, subst, ap, ℕ, Vec, Global}
use Rattle.std.specs.Prelude.{Result, Err}
use Rattle.std.proofs.lemmas.Result.{err_from_is_err_and}
use Rattle.vl_table.specs.body.Footer.{foot_of}
use Rattle.vl_table.specs.declared.body.index.BlockPlace.{BlockPlace}
use Rattle.vl_table.specs.Answers.{Answers}
use Rattle.vl_table.specs.OpeningParts.{LedTo, NotLedTo}
use Rattle.vl_disk.specs.declared.read_fault.ReadFault.{ReadFault}
use Rattle.vl_table.proofs.PartFaults.{filter_fails}
use Rattle.vl_table.proofs.open.read_named.Goals as goal

pub returns-in_err-filter-in-Some : goal.returns-in_err-filter-in-Some
returns-in_err-filter-in-Some g c =
    let f = foot_of c.args.footer.now in
    let p = err_from_is_err_and c.from_residual-in_err-filter-in-Some.result c.from_residual-in_err-filter-in-Some.ensures.1 in
    subst (λ (r : Result (Vec BlockPlace Global × Vec ℕ Global) ReadFault). Answers
    (g.R.Reader.faults c.args.reader.now) (g.R.Reader.faults c.read_filter.new.reader) c.args.number (g.H.HeldFile.bytes c.args.held.now)
    (λ bytes parts. LedTo c.args.number f bytes parts.0.items parts.1.items) (NotLedTo c.args.number f) r) (sym (p.1 ∙ ap Err p.2))
    (filter_fails (λ (v : Vec BlockPlace Global). v.items) _ _ _ c.args.number (g.H.HeldFile.bytes c.args.held.now) f
    c.in-Some.at c.in_ok-blocks.blocks c.in_err-filter-in-Some.field-0.0
    _ _ c.in-Some.is c.in_ok-blocks.ensures c.in_err-filter-in-Some.ensures)
