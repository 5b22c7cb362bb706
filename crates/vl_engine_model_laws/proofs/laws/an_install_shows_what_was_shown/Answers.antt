use Rattle.vl_engine_model_laws.specs.laws.Beside.{open_installs_low}
use Rattle.vl_engine_model_laws.proofs.laws.an_install_shows_what_was_shown.Goals as goal

pub returns : goal.returns
returns c logs l h o made are all k shows = open_installs_low logs l h o are made all k shows
