use Rattle.vl_engine_model.specs.laws.RulingShows.{relocate_ruling-shows}
use Rattle.vl_engine_model.proofs.laws.shown_after_a_relocation.Goals as goal

pub returns : goal.returns
returns c logs from l h pass batch there shows = relocate_ruling-shows logs from l h shows pass batch there
