use Rattle.vl_compact.specs.laws.TrueInputs.{no_damage}
use Rattle.vl_compact.proofs.laws.true_inputs_are_not_damaged.Goals as goal

pub returns : goal.returns
returns g c = no_damage g.H.HeldFile.bytes
