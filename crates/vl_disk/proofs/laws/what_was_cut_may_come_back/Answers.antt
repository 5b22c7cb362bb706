use Rattle.vl_disk.proofs.Torn.{cut_back}
use Rattle.vl_disk.proofs.laws.what_was_cut_may_come_back.Goals as goal

pub returns : goal.returns
returns c = cut_back
