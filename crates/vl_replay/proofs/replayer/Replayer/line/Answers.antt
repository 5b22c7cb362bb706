-- Behind a line the replayer stands for the state that the line leaves.
use Rattle.vl_replay_laws.specs.laws.Names.Returning.{stands_after}
use Rattle.vl_replay.proofs.replayer.Replayer.line.Goals as goal

pub returns-in-Ok-clause-after : goal.returns-in-Ok-clause-after
returns-in-Ok-clause-after g c s stands = record {
  serves = stands_after g.D.Held.HeldFile.bytes (g.D.Watched.told c.carry_out.new.served.engine.disk) c.carry_out.new.served.engine.core
      c.carry_out.new.served.opens.items s c.args.line (c.in-Ok.ensures.makes s stands).1;
  merges = c.in-Ok.ensures.merges s stands;
  passes = c.in-Ok.ensures.passes s stands;
  removes = c.in-Ok.ensures.removes s stands;
}

pub returns-in-Err-clause-carries : goal.returns-in-Err-clause-carries
returns-in-Err-clause-carries g c running s stands =
    c.in-Err.ensures.carries s stands

pub returns-in-Ok-clause-sure : goal.returns-in-Ok-clause-sure
returns-in-Ok-clause-sure g c running s stands was = c.in-Ok.ensures.sure s stands was
