use Rattle.vl_disk.proofs.Torn.{created_missing, appended_torn}
use Rattle.vl_disk.proofs.laws.what_is_unsynced_may_be_torn.Goals as goal

pub returns-clause-missing : goal.returns-clause-missing
returns-clause-missing c = created_missing

pub returns-clause-torn : goal.returns-clause-torn
returns-clause-torn c = appended_torn
