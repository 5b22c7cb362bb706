use Rattle.vl_disk.specs.declared.name.Name.TheVariants as names
use Rattle.vl_engine_laws.specs.laws.Appending.{sync_stops, tells_all, tells_part}
use Rattle.vl_steps.specs.laws.Lending.{leaves_append, leaves_sync, leaves_then, no_log}
use Rattle.vl_steps.proofs.append.append_durably.Goals as goal

pub returns-in_err-append-clause-tells : goal.returns-in_err-append-clause-tells
returns-in_err-append-clause-tells g c state is =
    tells_part (names.Log c.args.log.now.number) c.args.staged.now.frame.items _ _ state is c.in_err-append.ensures.appended.failed

pub returns-clause-tells : goal.returns-clause-tells
returns-clause-tells g c state is =
    tells_all (names.Log c.args.log.now.number) (names.Log c.append.new.self.number) c.args.staged.now.frame.items _ _ _ state is
    c.in_ok-append.ensures.appended.appended c.sync.result c.sync.ensures.synced.synced c.sync.ensures.synced.failed

pub returns-clause-stopped : goal.returns-clause-stopped
returns-clause-stopped g c clean =
    sync_stops g.D.Watched (names.Log c.args.log.now.number) (names.Log c.append.new.self.number)
    c.args.staged.now.frame.items _ c.append.new.disk _ _
    c.in_ok-append.ensures.appended c.sync.result c.sync.ensures.synced

pub returns-in_err-append-clause-lent : goal.returns-in_err-append-clause-lent
returns-in_err-append-clause-lent g c =
    leaves_append g.D.Watched c.args.disk.now c.append.new.disk (names.Log c.args.log.now.number) c.args.staged.now.frame.items
    (no_log c.args.log.now.number) _ c.in_err-append.ensures.appended

pub returns-clause-lent : goal.returns-clause-lent
returns-clause-lent g c next =
    leaves_then g.D.Watched next c.args.disk.now c.append.new.disk c.sync.new.disk
    (leaves_append g.D.Watched c.args.disk.now c.append.new.disk (names.Log c.args.log.now.number) c.args.staged.now.frame.items
    (no_log c.args.log.now.number) _ c.in_ok-append.ensures.appended next)
    (leaves_sync g.D.Watched c.append.new.disk c.sync.new.disk (names.Log c.append.new.self.number)
    (no_log c.append.new.self.number) c.sync.result c.sync.ensures.synced next)
