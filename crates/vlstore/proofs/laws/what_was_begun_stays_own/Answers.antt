use Rattle.vlstore.proofs.Lasting.{own_on}
use Rattle.vlstore.proofs.laws.what_was_begun_stays_own.Goals as goal

pub returns : goal.returns
returns c = own_on
