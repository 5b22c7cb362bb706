use Rattle.vl_sequence.specs.laws.TakingLaws.{given_before}
use Rattle.vl_sequence.proofs.laws.no_number_is_given_again_behind_an_opening.Goals as goal

pub returns : goal.returns
returns c o later list more image key = given_before key o later list more image
