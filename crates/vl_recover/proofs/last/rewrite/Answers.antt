use Rattle.std.proofs.Common.{arith, inl}
use Rattle.vl_disk.specs.Crash.{WhileCutting}
use Rattle.vl_disk.specs.DiskState.{cut_to}
use Rattle.vl_disk.specs.declared.name.Name.TheVariants.{Log}
use Rattle.vl_recover.specs.repairing.Repairing.{Headed, Rewritten, WhileLast, behind_last}
use Rattle.vl_disk.specs.laws.Performing.{cut_performs, performs_stop, performs_then}
use Rattle.vl_recover.proofs.last.rewrite.Goals as goal

pub returns-in_err-cut-clause-repaired : goal.returns-in_err-cut-clause-repaired
returns-in_err-cut-clause-repaired g c =
    let name = Log c.args.number in
    performs_stop g.D.Watched _ _ (cut_to name 0 0) (WhileCutting name 0) (WhileLast (Rewritten c.args.number)) 1 3 (λ disk now is. inl is)
    (behind_last (Rewritten c.args.number)) _ c.from_residual.result c.from_residual.ensures.0 (omega arith)
    (cut_performs g.D.Watched _ _ name 0 _ c.in_err-cut.ensures)

pub returns-clause-repaired : goal.returns-clause-repaired
returns-clause-repaired g c =
    let name = Log c.args.number in
    performs_then g.D.Watched (cut_to name 0 0) (behind_last (Headed c.args.number)) (WhileCutting name 0)
    (WhileLast (Headed c.args.number)) 1 2 _ _ _ _ c.head.result
    (cut_performs g.D.Watched _ _ name 0 _ c.in_ok-cut.ensures)
    c.head.ensures.repaired
