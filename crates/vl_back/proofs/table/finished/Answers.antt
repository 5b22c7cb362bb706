use Rattle.std.proofs.Common.{ap, subst, sym, ◌∙◌}
use Rattle.vl_back.proofs.table.finished.Goals as goal
use Rattle.vl_table.specs.body.Shapes.{IsShapeOf}
use Rattle.vl_table.specs.declared.body.shape.TableShape.{TableShape}

pub returns-clause-spelled : goal.returns-clause-spelled
returns-clause-spelled c = λ number es writing.
    let tail = c.in_ok-tail.ensures.tail number es _ writing in
    record {
      bytes = c.in_ok-append_to.ensures ∙ c.in_ok-tail.ensures.whole number es _ writing;
      format = ap (λ (s : TableShape). s.format) c.in_ok-shape.ensures.ok ∙ tail.written;
      shape = subst (IsShapeOf number es) (sym c.in_ok-shape.ensures.ok) tail.shape;
    }
