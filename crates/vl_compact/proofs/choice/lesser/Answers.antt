use Rattle.std.specs.Prelude.{Option, Some, None}
use Rattle.std.proofs.Common.{ap, sym, subst}
use Rattle.std.specs.Option.{option_copied}
use Rattle.vl_table.specs.declared.table.Table.{Table}
use Rattle.vl_compact.proofs.Choices.{of_some}
use Rattle.vl_compact.proofs.Into.{none_both}
use Rattle.vl_compact.specs.Laid.{AreBoth, IsTableOf}
use Rattle.vl_engine_model.specs.Levels.{lesser_table}
use Rattle.vl_engine_model.specs.declared.table.Table as laid
use Rattle.vl_compact.proofs.choice.lesser.Goals as goal

pub returns-in-Some : goal.returns-in-Some
returns-in-Some g c = λ t u is both.
    let R = IsTableOf g.H.HeldFile.bytes in
    let there : AreBoth R (Some c.in-Some.other.now) u =
    subst (λ (o : Option (Table g.row.H.Denot)). AreBoth R o u) (ap option_copied c.in-Some.is) both in
    of_some R (λ (o : Option laid.Table). AreBoth R (Some c.lesser_of.result.now) (lesser_table t o)) c.in-Some.other.now u there
    (λ v is_v. c.lesser_of.ensures t v is is_v)

pub returns-in-None : goal.returns-in-None
returns-in-None g c = λ t u is both.
    let R = IsTableOf g.H.HeldFile.bytes in
    let none : AreBoth R None u = subst (λ (o : Option (Table g.row.H.Denot)). AreBoth R o u) (ap option_copied c.in-None.is) both in
    subst (λ (o : Option laid.Table). AreBoth R (Some c.args.table.now) (lesser_table t o)) (sym (none_both R u none)) is
