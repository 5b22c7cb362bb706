use Rattle.std.specs.Option.{option_map}
use Rattle.std.specs.List.{filter}
use Rattle.std.proofs.Common.{List, ◌+◌, ◌++◌, subst, take}
use Rattle.vl_compact.proofs.Choices.{kept_next}
use Rattle.vl_compact.proofs.Zips.{zip_all, zip_at}
use Rattle.vl_compact.specs.Laid.{AreTablesOf, IsTableOf}
use Rattle.vl_compact.specs.Ranges.{range_in}
use Rattle.vl_engine_model.specs.Levels.{meets}
use Rattle.vl_engine_model.specs.declared.table.Table as laid
use Rattle.vl_compact.proofs.inputs.add_meeting.Goals as goal

pub loop-table-preserved : goal.loop-table-preserved
loop-table-preserved g c = λ ts us old are.
    let i = c.loop-table.table-index in
    let at = zip_at (IsTableOf g.H.HeldFile.bytes) c.args.tables.now us i c.table-item.result are c.loop-table-test.true c.table-item.is in
    let test = meets (option_map range_in c.args.range) in
    subst (AreTablesOf g.H.HeldFile.bytes c.add_if_met.new.all.items) (kept_next test ts (take i us) (take (i + 1) us) at.item at.taken)
    (c.in_ok-add_if_met.ensures (ts ++ filter test (take i us)) at.item (c.loop-table.invariant ts us old are) at.is)

pub returns : goal.returns
returns g c = λ ts us old are.
    subst (λ (l : List laid.Table). AreTablesOf g.H.HeldFile.bytes c.loop-table.all.items
    (ts ++ filter (meets (option_map range_in c.args.range)) l))
    (zip_all (IsTableOf g.H.HeldFile.bytes) c.args.tables.now us c.loop-table.table-index are c.loop-table-test.false)
    (c.loop-table.invariant ts us old are)
