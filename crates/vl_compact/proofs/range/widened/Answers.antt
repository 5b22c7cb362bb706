use Rattle.std.specs.Option.{option_map}
use Rattle.std.proofs.Common.{◌∙◌, ap}
use Rattle.vl_table.specs.declared.body.shape.TableShape.{TableShape}
use Rattle.vl_compact.proofs.Choices.{range_alone, range_more}
use Rattle.vl_compact.proofs.Of.{first_is, last_is}
use Rattle.vl_compact.specs.Ranges.{range_in}
use Rattle.vl_compact.proofs.range.widened.Goals as goal

pub returns-in-None : goal.returns-in-None
returns-in-None g c = λ t is.
    let bytes = g.H.HeldFile.bytes in
    let first = c.as_slice-first.ensures ∙ ap (λ (s : TableShape). s.footer.first) c.shape.ensures ∙ first_is bytes c.args.table.now t is in
    let last = c.as_slice-last.ensures ∙ ap (λ (s : TableShape). s.footer.last) c.shape.ensures ∙ last_is bytes c.args.table.now t is in
    range_alone t (option_map range_in c.args.range) c.as_slice-first.result.now c.as_slice-last.result.now first last
    (ap (option_map range_in) c.in-None.is)

pub returns-in-Some : goal.returns-in-Some
returns-in-Some g c = λ t is.
    let bytes = g.H.HeldFile.bytes in
    let first = c.as_slice-first.ensures ∙ ap (λ (s : TableShape). s.footer.first) c.shape.ensures ∙ first_is bytes c.args.table.now t is in
    let last = c.as_slice-last.ensures ∙ ap (λ (s : TableShape). s.footer.last) c.shape.ensures ∙ last_is bytes c.args.table.now t is in
    range_more t (option_map range_in c.args.range) (range_in c.in-Some.range) c.as_slice-first.result.now c.as_slice-last.result.now
    c.lesser_key.result.now c.greater_key.result.now first last (ap (option_map range_in) c.in-Some.is)
    c.lesser_key.ensures c.greater_key.ensures
