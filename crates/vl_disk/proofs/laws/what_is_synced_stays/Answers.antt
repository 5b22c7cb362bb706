use Rattle.vl_disk.specs.laws.Lawful.{synced_again}
use Rattle.vl_disk.proofs.Torn.{synced_stays}
use Rattle.vl_disk.proofs.laws.what_is_synced_stays.Goals as goal

pub returns-clause-left : goal.returns-clause-left
returns-clause-left c = synced_stays

pub returns-clause-again : goal.returns-clause-again
returns-clause-again c = synced_again
