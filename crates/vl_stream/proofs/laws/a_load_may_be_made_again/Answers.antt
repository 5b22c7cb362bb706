use Rattle.vl_stream.specs.laws.BackupLaws.{restores_again}
use Rattle.vl_stream.proofs.laws.a_load_may_be_made_again.Goals as goal

pub returns : goal.returns
returns c = restores_again
