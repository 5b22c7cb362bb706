use Rattle.vl_engine_model.specs.laws.RulingShows.{flush_ruling-shows}
use Rattle.vl_engine_model.proofs.laws.shown_after_a_flush.Goals as goal

pub returns : goal.returns
returns c logs from l h level deeper are found shows = flush_ruling-shows logs from l h shows level deeper are found
