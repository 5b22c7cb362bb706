use Rattle.vl_engine_model.proofs.GarbageLaws.{best_is_greatest}
use Rattle.vl_engine_model.proofs.laws.best_has_the_greatest_share.Goals as goal

pub returns : goal.returns
returns c xs x some is = best_is_greatest xs x some is
