use Rattle.std.proofs.Common.{ap}
use Rattle.vl_pins.specs.declared.pins.Pins.{Pins}
use Rattle.vl_space.specs.laws.Pinned.{same_beside}
use Rattle.vl_engine.proofs.engine.Engine.bound.Goals as goal

pub invariant_of-self-clause-pinned : goal.invariant_of-self-clause-pinned
invariant_of-self-clause-pinned g c =
    let was = c.args.self.now in
    same_beside was.core.front.oracle was.removing.pins c.bound-bound.new.self was.pinned
    (ap (λ (p : Pins). p.live.tickets) c.bound-bound.ensures.pins)
