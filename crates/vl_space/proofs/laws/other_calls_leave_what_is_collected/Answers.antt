use Rattle.vl_engine_model_laws.specs.Calls.{ruling_on}
use Rattle.vl_space.proofs.laws.other_calls_leave_what_is_collected.Goals as goal
use Rattle.vl_space.specs.laws.Unchanged.{space_stays, still_collects}

pub returns : goal.returns
returns g c before after kept l h call leaves logs =
    still_collects before after logs l (ruling_on call l h).layout (space_stays l h call leaves) kept
