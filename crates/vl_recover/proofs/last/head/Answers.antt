use Rattle.std.proofs.Common.{arith, inl}
use Rattle.vl_disk.specs.Crash.{WhileAppending, WhileSyncing}
use Rattle.vl_disk.specs.DiskState.{synced}
use Rattle.vl_disk.specs.declared.name.Name.TheVariants.{Log}
use Rattle.vl_recover.specs.repairing.Repairing.{Headed, WhileLast, behind_last, headed}
use Rattle.vl_disk.specs.laws.Performing.{append_as, performs_stop, performs_then, sync_performs}
use Rattle.vl_model.specs.Formats.{log_format}
use Rattle.vl_seglog.specs.Frames.{log_header}
use Rattle.vl_recover.proofs.last.head.Goals as goal

pub returns-in_err-append-clause-repaired : goal.returns-in_err-append-clause-repaired
returns-in_err-append-clause-repaired g c =
    let name = Log c.args.number in
    performs_stop g.D.Watched _ _ (headed c.args.number) (WhileAppending name (log_header log_format c.args.number))
    (WhileLast (Headed c.args.number)) 1 2 (λ disk now is. inl is)
    (behind_last (Headed c.args.number)) _ c.from_residual.result c.from_residual.ensures.0 (omega arith)
    (append_as g.D.Watched _ _ name _ (log_header log_format c.args.number) _ c.log_header.ensures c.in_err-append.ensures)

pub returns-clause-repaired : goal.returns-clause-repaired
returns-clause-repaired g c =
    let name = Log c.args.number in
    performs_then g.D.Watched (headed c.args.number) (synced name) (WhileAppending name (log_header log_format c.args.number))
    (WhileSyncing name) 1 1 _ _ _ _ c.sync.result
    (append_as g.D.Watched _ _ name _ (log_header log_format c.args.number) _ c.log_header.ensures c.in_ok-append.ensures)
    (sync_performs g.D.Watched _ _ name c.sync.result c.sync.ensures)
