use Rattle.std.proofs.Common.{◌-◌, length}
use Rattle.vl_replay_laws.specs.laws.Names.Lookups.{PlaceFrom}
use Rattle.vl_replay_laws.proofs.open.place.Given as goal

abbrev pub invariant-opens : goal.invariant-opens
invariant-opens g l = PlaceFrom l.name l.opens l.at

abbrev pub decreases-opens : goal.decreases-opens
decreases-opens g l = length l.opens - l.at
