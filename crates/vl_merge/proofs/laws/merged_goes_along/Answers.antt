use Rattle.vl_merge.proofs.MergeLaws.{along-merged, length-merged}
use Rattle.vl_merge.proofs.laws.merged_goes_along.Goals as goal

pub returns-clause-along : goal.returns-clause-along
returns-clause-along c = along-merged

pub returns-clause-all : goal.returns-clause-all
returns-clause-all c = length-merged
