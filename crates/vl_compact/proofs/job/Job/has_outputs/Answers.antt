use Rattle.vl_compact.proofs.Making.{all_made}
use Rattle.vl_compact.proofs.job.Job.has_outputs.Goals as goal

pub returns : goal.returns
returns g c = λ j has. all_made g.W.Writer g.H.HeldFile.bytes g.V.Sources.has c.args.self.now j has
