use Rattle.std.specs.Prelude.{◌==◌}
use Rattle.std.specs.List.{list_any}
use Rattle.std.proofs.Common.{◌∙◌, ap, List}
use Rattle.vl_model.specs.declared.point.Point.{Point}
use Rattle.vl_table.specs.declared.body.shape.TableShape.{TableShape}
use Rattle.vl_compact.proofs.Of.{points_are}
use Rattle.vl_compact.proofs.choice.has_point.Goals as goal

pub returns-clause-laid : goal.returns-clause-laid
returns-clause-laid g c = λ t is.
    c.is_led_by.ensures
    ∙ ap (λ (l : List Point). list_any (λ (p : Point). p.segment == c.args.segment) l)
    (c.deref.ensures.value ∙ ap (λ (s : TableShape). s.footer.points.items) c.shape.ensures
    ∙ points_are g.H.HeldFile.bytes c.args.table.now t is)

pub returns-clause-leads : goal.returns-clause-leads
returns-clause-leads g c =
    c.is_led_by.ensures
    ∙ ap (λ (l : List Point). list_any (λ (p : Point). p.segment == c.args.segment) l)
    (c.deref.ensures.value ∙ ap (λ (s : TableShape). s.footer.points.items) c.shape.ensures)
