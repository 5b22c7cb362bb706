use Rattle.vl_stream.specs.laws.BackupLaws.{restores}
use Rattle.vl_stream.proofs.laws.a_backup_restores.Goals as goal

pub returns : goal.returns
returns c = restores
