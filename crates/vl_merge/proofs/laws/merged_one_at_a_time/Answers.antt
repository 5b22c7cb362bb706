use Rattle.vl_merge.proofs.MergeLaws.{merged-first}
use Rattle.vl_merge.proofs.laws.merged_one_at_a_time.Goals as goal

pub returns : goal.returns
returns c = merged-first
