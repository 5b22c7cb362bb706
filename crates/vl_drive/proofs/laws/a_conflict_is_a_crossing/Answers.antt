use Rattle.vl_drive.specs.laws.TurnLaws.{crossing_none, crossing_some}
use Rattle.vl_drive.proofs.laws.a_conflict_is_a_crossing.Goals as goal

pub returns-clause-none : goal.returns-clause-none
returns-clause-none c = crossing_none

pub returns-clause-some : goal.returns-clause-some
returns-clause-some c = crossing_some
