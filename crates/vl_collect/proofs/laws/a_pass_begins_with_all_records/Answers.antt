use Rattle.vl_collect.proofs.laws.a_pass_begins_with_all_records.Goals as goal
use Rattle.vl_collect.specs.laws.StandingLaws.{all_left}

pub returns : goal.returns
returns c = all_left
