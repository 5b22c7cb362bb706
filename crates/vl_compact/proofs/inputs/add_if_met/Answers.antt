use Rattle.std.specs.Option.{option_map}
use Rattle.std.proofs.Common.{◌∙◌, sym, subst}
use Rattle.vl_compact.proofs.Choices.{kept_one, passed_one}
use Rattle.vl_compact.specs.Laid.{AreTablesOf}
use Rattle.vl_compact.specs.Ranges.{range_in}
use Rattle.vl_engine_model.specs.Levels.{meets}
use Rattle.vl_compact.proofs.inputs.add_if_met.Goals as goal

pub returns-then-not-meets : goal.returns-then-not-meets
returns-then-not-meets g c = λ ts t are is.
    subst (AreTablesOf g.H.HeldFile.bytes c.args.all.now.items)
    (passed_one (meets (option_map range_in c.args.range)) ts t (sym (c.meets.ensures t is) ∙ c.if-not-meets.true)) are

pub returns : goal.returns
returns g c = λ ts t are is.
    subst (AreTablesOf g.H.HeldFile.bytes c.add.new.all.items)
    (kept_one (meets (option_map range_in c.args.range)) ts t (sym (c.meets.ensures t is) ∙ c.if-not-meets.false))
    (c.in_ok-add.ensures ts t are is)
