use Rattle.std.proofs.Common.{refl}
use Rattle.vl_compact.proofs.Making.{begun}
use Rattle.vl_compact.proofs.job.Job.new.Goals as goal

pub returns-clause-has : goal.returns-clause-has
returns-clause-has g c = λ j is.
    begun g.W.Writer g.H.HeldFile.bytes g.V.Sources.has _ j is c.new.ensures.items c.new-3.ensures.items refl refl
