use Rattle.vlstore.proofs.Lasting.{pass_on}
use Rattle.vlstore.proofs.laws.what_was_picked_stays_own.Goals as goal

pub returns : goal.returns
returns c = pass_on
