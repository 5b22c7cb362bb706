use Rattle.vl_conflict.specs.laws.RecentLaws.{with_noted}
use Rattle.vl_conflict.proofs.laws.commits_are_remembered.Goals as goal

pub returns : goal.returns
returns c = with_noted
