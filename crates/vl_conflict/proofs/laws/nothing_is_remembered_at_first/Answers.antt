use Rattle.vl_conflict.specs.laws.RecentLaws.{nothing_yet}
use Rattle.vl_conflict.proofs.laws.nothing_is_remembered_at_first.Goals as goal

pub returns : goal.returns
returns c = nothing_yet
