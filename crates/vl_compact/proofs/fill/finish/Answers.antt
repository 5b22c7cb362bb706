use Rattle.std.proofs.Common.{ap, sym, ◌∙◌}
use Rattle.std.specs.Arc.{arc_value}
use Rattle.vl_compact.proofs.Pieces.{last_said, whole_out}
use Rattle.vl_table.specs.declared.body.shape.TableShape.{TableShape}
use Rattle.vl_compact.proofs.fill.finish.Goals as goal

pub returns-in-Ok-clause-whole : goal.returns-in-Ok-clause-whole
returns-in-Ok-clause-whole g c = λ es written.
    let number = c.args.lent.now.number in
    whole_out g.W.Writer c.args.lent.now c.append_tail.new.lent es written.given c.in_ok-tail.tail (arc_value c.in-Ok.shape)
    (c.in_ok-tail.ensures.tail number es written.given written.writing) (c.in_ok-tail.ensures.whole number es written.given written.writing)
    c.append_tail.ensures.number (c.in_ok-append_tail.ensures.bytes written.given written.file) c.in-Ok.ensures.ok

pub returns-in-Ok-clause-last : goal.returns-in-Ok-clause-last
returns-in-Ok-clause-last g c = λ key is.
    c.in_ok-last.ensures ∙ last_said is.number is.entries c.in_ok-tail.tail.shape
    (c.in_ok-tail.ensures.tail is.number is.entries is.given is.writing).shape ∙ is.last

pub returns-in-Ok-clause-ends : goal.returns-in-Ok-clause-ends
returns-in-Ok-clause-ends g c =
    c.in_ok-last.ensures ∙ ap (λ (s : TableShape). s.footer.last) (sym c.in-Ok.ensures.ok)
