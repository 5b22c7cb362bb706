use Rattle.vl_model.specs.laws.HistoryLaws.{get-contents_at}
use Rattle.vl_model.proofs.laws.contents_agree_with_values.Goals as goal

pub returns : goal.returns
returns c h n key = get-contents_at h n key
