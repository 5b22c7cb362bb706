use Rattle.vl_engine_model.specs.laws.RulingShows.{rotate_ruling-shows}
use Rattle.vl_engine_model.proofs.laws.shown_after_a_rotation.Goals as goal

pub returns : goal.returns
returns c logs from l h shows = rotate_ruling-shows logs from l h shows
