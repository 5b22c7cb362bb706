use Rattle.vl_model.specs.laws.HistoryLaws.{value_at-first}
use Rattle.vl_model.proofs.laws.value_without_commits.Goals as goal

pub returns : goal.returns
returns c h n key le = value_at-first h n key le
