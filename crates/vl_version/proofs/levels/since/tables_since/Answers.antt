use Rattle.std.proofs.Common.{List, sym, subst, take}
use Rattle.vl_table.specs.declared.table.Table.{Table}
use Rattle.vl_version.specs.Changes.{AreTablesSince}
use Rattle.vl_version.proofs.looking.Parts.{take_next}
use Rattle.vl_version.proofs.levels.since.tables_since.Goals as goal

pub loop-table-preserved : goal.loop-table-preserved
loop-table-preserved g c =
    let i = c.loop-table.table-index in
    subst (λ (ts : List (Table g.row.H.Denot)). AreTablesSince g.H.HeldFile.bytes c.args.since ts c.add_if_since.new.all.items)
    (sym (take_next c.args.tables.now i c.table-item.result c.loop-table-test.true c.table-item.is))
    (c.in_ok-add_if_since.ensures (take i c.args.tables.now) c.loop-table.invariant)
