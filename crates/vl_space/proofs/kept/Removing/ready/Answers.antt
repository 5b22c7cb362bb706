use Rattle.std.proofs.Common.{Some, ◌∙◌, sym, refl}
use Rattle.vl_space.specs.laws.Retired.Changing.{has_made, has_used, none_there, some_there}
use Rattle.vl_space.proofs.kept.Removing.ready.Goals as goal

pub returns-then-is_some-clause-has : goal.returns-then-is_some-clause-has
returns-then-is_some-clause-has g c =
    let found = some_there c.args.self.now.stock.in_use (sym c.is_some.ensures ∙ c.if-is_some.true) in
    has_used c.args.core.now c.args.self.now.stock found.0 found.1

pub returns-clause-has : goal.returns-clause-has
returns-clause-has g c =
    has_made c.args.core.now c.args.self.now.stock (record c.args.self.now.stock { in_use = Some c.in_ok-in_use.in_use })
    c.in_ok-in_use.in_use (none_there c.args.self.now.stock.in_use (sym c.is_some.ensures ∙ c.if-is_some.false)) refl refl
    c.in_ok-in_use.ensures.tables c.in_ok-in_use.ensures.logs
