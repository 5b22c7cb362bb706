use Rattle.vl_steps.specs.Stepping.{step_outcome}
use Rattle.vlstore.proofs.Shopping.{no_fault_counted, flush_sound, flushes_aside}
use Rattle.vlstore.proofs.SureDisks.{sure_disks}
use Rattle.vlstore.proofs.shop.calls.SureSessionSureDiskShop.flush.Goals as goal

pub as_step-requires : goal.as_step-requires
as_step-requires g c =
    flush_sound c.args.self.now.session c.flush.new.self sure_disks c.args.self.now.runs c.flush.result
    (c.flush.ensures.steps c.args.self.now.tells)

pub returns-clause-steps : goal.returns-clause-steps
returns-clause-steps g c =
    flushes_aside c.args.self.now.session c.flush.new.self c.flush.ensures.on (step_outcome c.flush.result)
    (c.flush.ensures.steps c.args.self.now.tells)

pub returns-clause-faults : goal.returns-clause-faults
returns-clause-faults g c = no_fault_counted _ c.args.self.now.session c.flush.new.self c.as_step.ensures
