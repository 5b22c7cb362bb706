use Rattle.vl_steps.specs.laws.LaidInstall.{laid_behind}
use Rattle.vl_steps.proofs.laws.a_version_has_what_is_installed.Goals as goal

pub returns : goal.returns
returns g c before after b l h o made disk base tidy holds can has levels active frozen logs =
    laid_behind g.H.HeldFile.bytes before after b l h o made disk base tidy holds can has levels active frozen logs
