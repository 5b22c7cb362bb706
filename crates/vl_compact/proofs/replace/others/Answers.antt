use Rattle.std.specs.Prelude.{not}
use Rattle.std.proofs.Common.{List, [], ◌+◌, subst, sym, take}
use Rattle.vl_compact.proofs.Choices.{kept_next}
use Rattle.vl_compact.proofs.Zips.{zip_all, zip_at}
use Rattle.vl_compact.specs.Laid.{AreTablesOf, IsTableOf}
use Rattle.vl_engine_model.specs.Levels.{is_among, without}
use Rattle.vl_engine_model.specs.declared.table.Table as laid
use Rattle.vl_table.specs.declared.table.Table.{Table}
use Rattle.vl_compact.proofs.replace.others.Goals as goal

pub loop-table-init : goal.loop-table-init
loop-table-init g c = λ ts are.
    subst (λ (l : List (Table g.row.H.Denot)). AreTablesOf g.H.HeldFile.bytes l []) (sym c.new-all.ensures.items) tt

pub loop-table-preserved : goal.loop-table-preserved
loop-table-preserved g c = λ ts are.
    let i = c.loop-table.table-index in
    let at = zip_at (IsTableOf g.H.HeldFile.bytes) c.args.tables.now ts i c.table-item.result are c.loop-table-test.true c.table-item.is in
    let test = λ (u : laid.Table). not (is_among c.args.inputs.now u) in
    subst (AreTablesOf g.H.HeldFile.bytes c.add_other.new.all.items) (kept_next test [] (take i ts) (take (i + 1) ts) at.item at.taken)
    (c.in_ok-add_other.ensures (without c.args.inputs.now (take i ts)) at.item (c.loop-table.invariant ts are) at.is)

pub returns : goal.returns
returns g c = λ ts are.
    subst (λ (l : List laid.Table). AreTablesOf g.H.HeldFile.bytes c.loop-table.all.items (without c.args.inputs.now l))
    (zip_all (IsTableOf g.H.HeldFile.bytes) c.args.tables.now ts c.loop-table.table-index are c.loop-table-test.false)
    (c.loop-table.invariant ts are)
