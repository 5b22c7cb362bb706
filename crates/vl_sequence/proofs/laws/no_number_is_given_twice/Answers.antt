use Rattle.vl_sequence.specs.laws.TakingLaws.{given_once}
use Rattle.vl_sequence.proofs.laws.no_number_is_given_twice.Goals as goal

pub returns : goal.returns
returns c o list key = given_once key o list
