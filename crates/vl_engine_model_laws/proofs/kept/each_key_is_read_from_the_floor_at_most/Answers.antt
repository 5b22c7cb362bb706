use Rattle.std.proofs.Common.{refl}
use Rattle.vl_model.specs.Versions.{versions}
use Rattle.vl_model.specs.laws.NumberLaws.{low-floor}
use Rattle.vl_engine_model_laws.proofs.kept.each_key_is_read_from_the_floor_at_most.Goals as goal

pub returns-clause-one : goal.returns-clause-one
returns-clause-one c h floor since key = refl

pub returns-clause-more : goal.returns-clause-more
returns-clause-more c h floor keep since key = low-floor (versions h key) floor keep since
