use Rattle.vl_merge.proofs.MergeLaws.{winner-merged, exact-merged}
use Rattle.vl_merge.proofs.laws.merged_has_the_same_winners.Goals as goal

pub returns-clause-winners : goal.returns-clause-winners
returns-clause-winners c = winner-merged

pub returns-clause-exact : goal.returns-clause-exact
returns-clause-exact c = exact-merged
