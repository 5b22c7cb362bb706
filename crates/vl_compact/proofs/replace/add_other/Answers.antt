use Rattle.std.specs.Prelude.{not}
use Rattle.std.proofs.Common.{◌∙◌, ap, sym, subst}
use Rattle.vl_compact.proofs.Choices.{kept_one, passed_one}
use Rattle.vl_compact.specs.Laid.{AreTablesOf}
use Rattle.vl_engine_model.specs.Levels.{is_among}
use Rattle.vl_compact.proofs.replace.add_other.Goals as goal

pub returns-then-is_input : goal.returns-then-is_input
returns-then-is_input g c = λ ts t are is.
    subst (AreTablesOf g.H.HeldFile.bytes c.args.all.now.items)
    (passed_one (λ u. not (is_among c.args.inputs.now u)) ts t (ap not (sym (c.is_input.ensures t is) ∙ c.if-is_input.true))) are

pub returns : goal.returns
returns g c = λ ts t are is.
    subst (AreTablesOf g.H.HeldFile.bytes c.add.new.all.items)
    (kept_one (λ u. not (is_among c.args.inputs.now u)) ts t (ap not (sym (c.is_input.ensures t is) ∙ c.if-is_input.false)))
    (c.in_ok-add.ensures ts t are is)
