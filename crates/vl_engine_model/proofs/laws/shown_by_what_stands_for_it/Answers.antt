use Rattle.vl_engine_model.specs.laws.ShowsLaws.{shows_replaced}
use Rattle.vl_engine_model.proofs.laws.shown_by_what_stands_for_it.Goals as goal

pub returns : goal.returns
returns c logs others es fs h from to zip shows = shows_replaced logs others es fs h from to zip shows
