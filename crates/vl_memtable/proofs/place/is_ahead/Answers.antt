use Rattle.std.proofs.Common.{sym, ◌∙◌}
use Rattle.std.specs.declared.cmp.Ordering.TheVariants.{Less, Greater}
use Rattle.std.proofs.lemmas.Cmp.{ranked}
use Rattle.vl_memtable.specs.laws.HeadLaws.{higher_behind, lower_ahead}
use Rattle.vl_memtable.proofs.place.is_ahead.Goals as goal

pub returns-in-Less : goal.returns-in-Less
returns-in-Less c =
    let sought = c.args.sought.now in
    let less = ranked c.args.head sought.head Less (sym c.in-Less.is ∙ c.cmp.ensures) in
    sym (lower_ahead sought.key.now sought.version sought.head c.requires.sought c.args.entry.now c.args.head c.requires.head less)

pub returns-in-Greater : goal.returns-in-Greater
returns-in-Greater c =
    let sought = c.args.sought.now in
    let less = ranked c.args.head sought.head Greater (sym c.in-Greater.is ∙ c.cmp.ensures) in
    sym (higher_behind sought.key.now sought.version sought.head c.requires.sought c.args.entry.now c.args.head c.requires.head less)
