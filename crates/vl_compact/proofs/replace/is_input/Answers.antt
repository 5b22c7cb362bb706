use Rattle.std.specs.Prelude.{◌==◌}
use Rattle.std.specs.List.{list_any}
use Rattle.std.proofs.Common.{◌∙◌, ℕ, ap}
use Rattle.vl_table.specs.declared.body.shape.TableShape.{TableShape}
use Rattle.vl_compact.proofs.replace.is_input.Goals as goal

pub returns : goal.returns
returns g c = λ t is.
    c.has.ensures
    ∙ ap (λ (number : ℕ). list_any (λ (n : ℕ). n == number) c.args.inputs.now)
    (ap (λ (s : TableShape). s.number) c.shape.ensures ∙ is.number)
