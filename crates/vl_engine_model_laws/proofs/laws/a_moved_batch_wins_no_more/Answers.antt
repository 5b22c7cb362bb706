use Rattle.vl_engine_model_laws.specs.laws.Moves.{batch_settled}
use Rattle.vl_engine_model_laws.proofs.laws.a_moved_batch_wins_no_more.Goals as goal

pub returns : goal.returns
returns c segment last l batch low = batch_settled segment last l batch low
