use Rattle.vl_merge.proofs.TreeLaws.{merge_of_all}
use Rattle.vl_merge.proofs.laws.merge_of_told_sources.Goals as goal

pub returns : goal.returns
returns c = merge_of_all
