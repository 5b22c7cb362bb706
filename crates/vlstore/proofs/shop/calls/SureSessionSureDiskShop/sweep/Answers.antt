use Rattle.vl_space.specs.Sweeping.{sweep_outcome}
use Rattle.vlstore.proofs.Shopping.{no_fault_counted, sweep_sound, sweeps_aside}
use Rattle.vlstore.proofs.SureDisks.{sure_disks}
use Rattle.vlstore.proofs.shop.calls.SureSessionSureDiskShop.sweep.Goals as goal

pub as_sweep-requires : goal.as_sweep-requires
as_sweep-requires g c =
    let s = c.sweep.ensures.steps c.args.self.now.tells in
    sweep_sound c.args.self.now.session c.sweep.new.self sure_disks c.args.self.now.runs s.0 c.sweep.result s.1

pub returns-clause-steps : goal.returns-clause-steps
returns-clause-steps g c =
    let s = c.sweep.ensures.steps c.args.self.now.tells in
    sweeps_aside c.args.self.now.session c.sweep.new.self c.sweep.ensures.on s.0 (sweep_outcome c.sweep.result) s.1

pub returns-clause-faults : goal.returns-clause-faults
returns-clause-faults g c = no_fault_counted _ c.args.self.now.session c.sweep.new.self c.as_sweep.ensures
