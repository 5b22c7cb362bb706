use Rattle.vl_engine_model_laws.specs.laws.Floors.{keep_is}
use Rattle.vl_engine_model_laws.proofs.kept.raising_what_is_kept_tells_the_last_number.Goals as goal

pub returns-clause-taken : goal.returns-clause-taken
returns-clause-taken c l h v kept = (keep_is l h v).told kept

pub returns-clause-raised : goal.returns-clause-raised
returns-clause-raised c l h v kept less = (keep_is l h v).raised kept less

pub returns-clause-lowered : goal.returns-clause-lowered
returns-clause-lowered c l h v kept le = (keep_is l h v).lowered kept le

pub returns-clause-refused : goal.returns-clause-refused
returns-clause-refused c l h v refused = (keep_is l h v).refused refused
