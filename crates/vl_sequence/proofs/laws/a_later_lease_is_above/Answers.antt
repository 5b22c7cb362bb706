use Rattle.vl_sequence.specs.laws.TakingLaws.{later_above}
use Rattle.vl_sequence.proofs.laws.a_later_lease_is_above.Goals as goal

pub returns : goal.returns
returns c o key = later_above key o
