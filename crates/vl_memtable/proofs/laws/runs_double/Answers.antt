use Rattle.vl_memtable.proofs.RunLists.{doubles-with}
use Rattle.vl_memtable.proofs.laws.runs_double.Goals as goal

pub returns : goal.returns
returns c = doubles-with
