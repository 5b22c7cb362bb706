use Rattle.vl_model.specs.History.{no_history}
use Rattle.vl_engine_model_laws.specs.laws.RulingStocked.{removed_are_loose}
use Rattle.vl_engine_model_laws.proofs.laws.a_sweep_removes_what_nothing_needs.Goals as goal

pub returns : goal.returns
returns c l least w = removed_are_loose l no_history w least
