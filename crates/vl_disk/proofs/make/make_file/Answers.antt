use Rattle.vl_disk.proofs.MadeFiles.{ends_at_create, ends_at_append, ends_at_sync}
use Rattle.vl_disk.proofs.make.make_file.Goals as goal

pub returns-in_err-create : goal.returns-in_err-create
returns-in_err-create g c = ends_at_create g.D.Watched _ _ _ _ _ c.from_residual.result c.from_residual.ensures.0 c.in_err-create.ensures

pub returns-in_err-append : goal.returns-in_err-append
returns-in_err-append g c =
    ends_at_append g.D.Watched _ _ _ _ _ c.in_ok-create.ensures _ _ c.from_residual-in_err-append.result
    c.from_residual-in_err-append.ensures.0 c.in_err-append.ensures

pub returns : goal.returns
returns g c = ends_at_sync g.D.Watched _ _ _ _ _ c.in_ok-create.ensures _ _ c.in_ok-append.ensures _ c.sync.result c.sync.ensures
