use Rattle.std.proofs.Common.{arith, inl}
use Rattle.vl_disk.specs.Crash.{WhileCutting, WhileSyncing}
use Rattle.vl_disk.specs.DiskState.{cut_to, synced}
use Rattle.vl_disk.specs.declared.name.Name.TheVariants.{Log}
use Rattle.vl_recover.specs.repairing.Repairing.{Cut, WhileLast, behind_last}
use Rattle.vl_disk.specs.laws.Performing.{cut_performs, performs_stop, performs_then, sync_performs}
use Rattle.vl_recover.proofs.last.cut.Goals as goal

pub returns-in_err-cut-clause-repaired : goal.returns-in_err-cut-clause-repaired
returns-in_err-cut-clause-repaired g c =
    let name = Log c.args.number in
    let len = c.args.length in
    performs_stop g.D.Watched _ _ (cut_to name len len) (WhileCutting name len) (WhileLast (Cut c.args.number len)) 1 2
    (λ disk now is. inl is)
    (behind_last (Cut c.args.number len)) _ c.from_residual.result c.from_residual.ensures.0 (omega arith)
    (cut_performs g.D.Watched _ _ name len _ c.in_err-cut.ensures)

pub returns-clause-repaired : goal.returns-clause-repaired
returns-clause-repaired g c =
    let name = Log c.args.number in
    let len = c.args.length in
    performs_then g.D.Watched (cut_to name len len) (synced name) (WhileCutting name len) (WhileSyncing name) 1 1 _ _ _ _ c.sync.result
    (cut_performs g.D.Watched _ _ name len _ c.in_ok-cut.ensures)
    (sync_performs g.D.Watched _ _ name c.sync.result c.sync.ensures)
