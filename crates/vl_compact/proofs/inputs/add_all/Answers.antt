use Rattle.std.proofs.Common.{List, ◌+◌, ◌++◌, sym, subst, take}
use Rattle.vl_compact.proofs.Choices.{put_next}
use Rattle.vl_compact.proofs.Zips.{zip_all, zip_at}
use Rattle.vl_compact.specs.Laid.{AreTablesOf, IsTableOf}
use Rattle.vl_engine_model.specs.declared.table.Table as laid
use Rattle.vl_compact.proofs.inputs.add_all.Goals as goal

pub loop-table-preserved : goal.loop-table-preserved
loop-table-preserved g c = λ ts us old are.
    let i = c.loop-table.table-index in
    let at = zip_at (IsTableOf g.H.HeldFile.bytes) c.args.tables.now us i c.table-item.result are c.loop-table-test.true c.table-item.is in
    subst (AreTablesOf g.H.HeldFile.bytes c.add.new.all.items) (sym (put_next ts (take i us) (take (i + 1) us) at.item at.taken))
    (c.in_ok-add.ensures (ts ++ take i us) at.item (c.loop-table.invariant ts us old are) at.is)

pub returns : goal.returns
returns g c = λ ts us old are.
    subst (λ (l : List laid.Table). AreTablesOf g.H.HeldFile.bytes c.loop-table.all.items (ts ++ l))
    (zip_all (IsTableOf g.H.HeldFile.bytes) c.args.tables.now us c.loop-table.table-index are c.loop-table-test.false)
    (c.loop-table.invariant ts us old are)
