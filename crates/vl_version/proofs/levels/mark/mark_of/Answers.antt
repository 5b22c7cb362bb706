use Rattle.std.specs.Prelude.{Err}
use Rattle.std.specs.Option.{option_map}
use Rattle.std.proofs.Common.{◌∙◌, ap, sym}
use Rattle.std.proofs.lemmas.Result.{err_from_is_err_and}
use Rattle.vl_table.specs.body.Founds.{found_of}
use Rattle.vl_version.specs.levels.Marks.{mark_if}
use Rattle.vl_version.proofs.marking.TellLaws.{failed_in, looked_in, passed}
use Rattle.vl_version.proofs.levels.mark.mark_of.Goals as goal

pub returns-then-passes : goal.returns-then-passes
returns-then-passes g c =
    passed g.H.HeldFile.bytes g.R.Reader.faults c.args.asked c.args.table.now c.args.reader.now c.is_input-input.result c.passes.result
    c.is_input-input.ensures c.passes.ensures c.if-passes.true

pub returns-in_err-look_in : goal.returns-in_err-look_in
returns-in_err-look_in g c =
    let p = err_from_is_err_and c.from_residual.result c.from_residual.ensures.1 in
    failed_in g.H.HeldFile.bytes g.R.Reader.faults c.args.asked c.args.table.now c.args.reader.now c.look_in.new.reader
    c.is_input-input.result c.passes.result
    c.is_input-input.ensures c.passes.ensures c.if-passes.false c.in_err-look_in.ensures.kept c.in_err-look_in.field-0.0
    c.from_residual.result
    (p.1 ∙ ap Err p.2) c.in_err-look_in.ensures.cause c.in_err-look_in.ensures.answers

pub returns-in-Some : goal.returns-in-Some
returns-in-Some g c =
    looked_in g.H.HeldFile.bytes g.R.Reader.faults c.args.asked c.args.table.now c.args.reader.now c.look_in.new.reader
    c.is_input-input.result c.passes.result
    c.is_input-input.ensures c.passes.ensures c.if-passes.false c.in_ok-look_in.ensures.kept c.in_ok-look_in.field-0 _
    c.in_ok-look_in.ensures.cause
    c.in_ok-look_in.ensures.answers
    (sym (ap (λ o. mark_if c.is_input-input.result (option_map (found_of c.args.asked.key.now) o)) c.in-Some.is))

pub returns-in-None : goal.returns-in-None
returns-in-None g c =
    looked_in g.H.HeldFile.bytes g.R.Reader.faults c.args.asked c.args.table.now c.args.reader.now c.look_in.new.reader
    c.is_input-input.result c.passes.result
    c.is_input-input.ensures c.passes.ensures c.if-passes.false c.in_ok-look_in.ensures.kept c.in_ok-look_in.field-0 _
    c.in_ok-look_in.ensures.cause
    c.in_ok-look_in.ensures.answers
    (sym (ap (λ o. mark_if c.is_input-input.result (option_map (found_of c.args.asked.key.now) o)) c.in-None.is))
