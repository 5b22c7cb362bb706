use Rattle.vl_filter.proofs.WorkedRow.{worked}
use Rattle.vl_filter.proofs.laws.a_worked_filter.Goals as goal

pub returns : goal.returns
returns c = worked
