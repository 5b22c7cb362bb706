use Rattle.vl_drive.specs.laws.TurnLaws.{turn_begun, turn_more, turn_values}
use Rattle.vl_drive.proofs.laws.a_turn_goes_on.Goals as goal

pub returns-clause-begun : goal.returns-clause-begun
returns-clause-begun c = turn_begun

pub returns-clause-more : goal.returns-clause-more
returns-clause-more c = turn_more

pub returns-clause-values : goal.returns-clause-values
returns-clause-values c = turn_values
