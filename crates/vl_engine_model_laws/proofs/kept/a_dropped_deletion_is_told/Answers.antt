use Rattle.std.proofs.Common.{refl}
use Rattle.vl_engine_model_laws.proofs.kept.a_dropped_deletion_is_told.Goals as goal

pub returns : goal.returns
returns c = refl
