use Rattle.vl_disk.specs.laws.Lending.{adopted_stays}
use Rattle.vl_disk.proofs.laws.what_was_adopted_stays.Goals as goal

pub returns : goal.returns
returns c = λ name disk image bytes left. adopted_stays name disk bytes image left
