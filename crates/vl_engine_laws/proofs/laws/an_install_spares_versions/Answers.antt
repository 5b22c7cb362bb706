use Rattle.vl_engine_laws.specs.laws.InstallSpares.{install_spares}
use Rattle.vl_engine_laws.proofs.laws.an_install_spares_versions.Goals as goal

pub returns : goal.returns
returns c l h o made well all spares = install_spares l h spares o made well all
