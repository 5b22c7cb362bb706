use Rattle.vl_drive.specs.laws.TurnLaws.{turns_ended, turns_more, turns_none}
use Rattle.vl_drive.proofs.laws.turns_go_on.Goals as goal

pub returns-clause-none : goal.returns-clause-none
returns-clause-none c = turns_none

pub returns-clause-more : goal.returns-clause-more
returns-clause-more c = turns_more

pub returns-clause-ended : goal.returns-clause-ended
returns-clause-ended c = turns_ended
