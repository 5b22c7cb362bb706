use Rattle.vl_model.specs.laws.ConflictLaws.{find-overwritten, overwritten-rises}
use Rattle.vl_model.proofs.laws.overwritten_keys_are_read_and_named_later.Goals as goal

pub returns-clause-found : goal.returns-clause-found
returns-clause-found c h n reads key = find-overwritten h n reads key

pub returns-clause-rising : goal.returns-clause-rising
returns-clause-rising c h n reads = overwritten-rises h n reads
