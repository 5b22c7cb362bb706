use Rattle.vl_collect.proofs.laws.batches_stand_in_their_log.Goals as goal
use Rattle.vl_collect.specs.laws.StandingLaws.{given, given_later, there_in_logs}

pub returns-clause-given : goal.returns-clause-given
returns-clause-given c = given

pub returns-clause-later : goal.returns-clause-later
returns-clause-later c = given_later

pub returns-clause-there : goal.returns-clause-there
returns-clause-there c = there_in_logs
