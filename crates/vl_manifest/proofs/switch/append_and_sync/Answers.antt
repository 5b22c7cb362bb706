use Rattle.vl_manifest.proofs.Switches.{ends_at_append, ends_at_sync}
use Rattle.vl_manifest.proofs.switch.append_and_sync.Goals as goal

pub returns-in_err-append : goal.returns-in_err-append
returns-in_err-append g c =
    ends_at_append g.D.Watched c.args.number c.args.piece.now _ _ _ c.from_residual.result c.from_residual.ensures.0 c.in_err-append.ensures

pub returns : goal.returns
returns g c =
    ends_at_sync g.D.Watched c.args.number c.args.piece.now _ _ _ c.in_ok-append.ensures _ c.sync.result c.sync.ensures
