use Rattle.vl_engine_laws.specs.laws.TableFiles.{looks_told}
use Rattle.vl_engine.proofs.engine.Engine.reader.Goals as goal

pub returns-in-Ok-clause-fits : goal.returns-in-Ok-clause-fits
returns-in-Ok-clause-fits g c h l is =
    looks_told g.D.Held.HeldFile.bytes c.args.self.now.core h l is c.in-Ok.looks c.in-Ok.ensures.kept
