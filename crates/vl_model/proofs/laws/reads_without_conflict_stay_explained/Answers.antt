use Rattle.vl_model.proofs.ReadLaws.{explained_without_conflict}
use Rattle.vl_model.proofs.laws.reads_without_conflict_stay_explained.Goals as goal

pub returns : goal.returns
returns c h n reads least none explained = explained_without_conflict h n reads least none explained
