use Rattle.vl_model.specs.laws.HistoryLaws.{value_at-with_commit}
use Rattle.vl_model.proofs.laws.value_after_one_more_commit.Goals as goal

pub returns-clause-at : goal.returns-clause-at
returns-clause-at c h writes key = value_at-with_commit h writes key
