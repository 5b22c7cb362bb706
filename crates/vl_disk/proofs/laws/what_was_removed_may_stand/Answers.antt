use Rattle.vl_disk.proofs.Torn.{removed_again, removed_away}
use Rattle.vl_disk.proofs.laws.what_was_removed_may_stand.Goals as goal

pub returns-clause-again : goal.returns-clause-again
returns-clause-again c = removed_again

pub returns-clause-away : goal.returns-clause-away
returns-clause-away c = removed_away
