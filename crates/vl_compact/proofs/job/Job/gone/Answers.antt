use Rattle.std.proofs.Common.{ap, ◌∙◌}
use Rattle.vl_compact.proofs.Greatest.{greatest_gone}
use Rattle.vl_compact.specs.Racing.{greatest}
use Rattle.vl_compact.proofs.job.Job.gone.Goals as goal

pub returns : goal.returns
returns g c = λ j has. c.greatest_gone.ensures ∙ ap greatest has.needless_are ∙ greatest_gone j
