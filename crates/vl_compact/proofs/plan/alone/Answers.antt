use Rattle.std.proofs.Common.{List, [], sym, subst}
use Rattle.vl_compact.specs.Laid.{AreTablesOf}
use Rattle.vl_table.specs.declared.table.Table.{Table}
use Rattle.vl_compact.proofs.plan.alone.Goals as goal

pub returns : goal.returns
returns g c = λ t is.
    c.in_ok-add.ensures [] t
    (subst (λ (l : List (Table g.row.H.Denot)). AreTablesOf g.H.HeldFile.bytes l []) (sym c.new-all.ensures.items) tt) is
