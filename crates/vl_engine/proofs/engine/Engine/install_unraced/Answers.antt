use Rattle.std.proofs.Common.{refl}
use Rattle.vl_space.specs.laws.Retired.Changing.{stays_itself}
use Rattle.vl_engine.proofs.Switching.{installs_then}
use Rattle.vl_engine.proofs.engine.Engine.install_unraced.Goals as goal

pub put_in-requires-clause-tallied : goal.put_in-requires-clause-tallied
put_in-requires-clause-tallied g c = c.in-Ok.ensures.readied.made

pub put_in-requires-clause-live : goal.put_in-requires-clause-live
put_in-requires-clause-live g c = c.in-Ok.ensures.live

pub returns-clause-collected : goal.returns-clause-collected
returns-clause-collected g c =
    installs_then g.D.Held.HeldFile.bytes g.D.Writer.Writer c.args.job c.args.self.now.core c.put_in.new.self.core
    c.args.self.now.collecting c.live_installed.new.self c.put_in.new.self.collecting c.in-Ok.ensures.readied c.put_in.result
    c.put_in.ensures.collected

pub returns-in_default-clause-retires : goal.returns-in_default-clause-retires
returns-in_default-clause-retires g c = (refl, stays_itself c.args.self.now.core c.args.self.now.removing.stock)
