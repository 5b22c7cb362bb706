use Rattle.vl_oracle.proofs.LiveLaws.{floor_of-le, floor_of-le_last, floor_of-attained}
use Rattle.vl_oracle.proofs.laws.floor_is_the_least.Goals as goal

pub returns-clause-live : goal.returns-clause-live
returns-clause-live c = floor_of-le

pub returns-clause-last : goal.returns-clause-last
returns-clause-last c = floor_of-le_last

pub returns-clause-attained : goal.returns-clause-attained
returns-clause-attained c = floor_of-attained
