use Rattle.vl_engine_model_laws.specs.laws.Starting.{fresh_tidy, start_stocked}
use Rattle.vl_engine_model_laws.proofs.tidy.a_start_is_tidy.Goals as goal

pub returns-clause-new : goal.returns-clause-new
returns-clause-new c logs room = fresh_tidy logs room

pub returns-clause-opened : goal.returns-clause-opened
returns-clause-opened c room found is = start_stocked room found is
