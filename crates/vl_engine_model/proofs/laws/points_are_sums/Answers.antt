use Rattle.vl_engine_model.proofs.GarbageLaws.{points_are_sums}
use Rattle.vl_engine_model.proofs.laws.points_are_sums.Goals as goal

pub returns : goal.returns
returns c segment es = points_are_sums segment es
