use Rattle.vl_memtable.proofs.FactLaws.{few}
use Rattle.vl_memtable.proofs.laws.runs_are_few.Goals as goal

pub returns : goal.returns
returns c = few
