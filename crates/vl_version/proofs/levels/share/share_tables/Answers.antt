use Rattle.vl_version.specs.Shared.{IsSameTable}
use Rattle.vl_version.proofs.SharedLaws.{same_next}
use Rattle.vl_version.proofs.levels.share.share_tables.Goals as goal

pub loop-table-preserved : goal.loop-table-preserved
loop-table-preserved g c =
    let table = c.table-item.result in
    same_next (IsSameTable g.H.HeldFile.bytes) c.args.tables.now c.loop-table.all.items _ c.loop-table.table-index table _
    c.loop-table-test.true c.table-item.is c.loop-table.invariant
    (record { shape = c.in_ok-share.ensures.shape; bytes = c.in_ok-share.ensures.bytes })
    c.in_ok-push.ensures.items
