use Rattle.std.proofs.Common.{refl}
use Rattle.vl_script.proofs.laws.a_worked_benchmark.Goals as goal

pub returns : goal.returns
returns c = refl
