use Rattle.std.specs.Prelude.{Some}
use Rattle.vl_engine.proofs.Sweeps.Answered.{sweeps}
use Rattle.vl_space.specs.Sweeping.{at}
use Rattle.vl_engine.proofs.engine.Engine.sweep_to.Goals as goal

pub returns : goal.returns
returns g c =
    let old = c.args.self.now in
    let new = c.sweep_up_to.new.self in
    sweeps g.D.Watched g.D.Writer.Writer (at old.disk old.core old.merging old.removing old.collecting)
    (at new.disk new.core new.merging new.removing new.collecting) old.there (Some c.args.least)
    (record { only_now = g.met.D.Disk.only_now; counts_now = g.met.D.Disk.counts_now }) g.met.D.Disk.lawful g.D.Held.HeldFile.bytes
    c.sweep_up_to.result c.sweep_up_to.ensures.as_swept c.sweep_up_to.ensures.cause c.sweep_up_to.ensures.merging
    c.sweep_up_to.ensures.collecting
