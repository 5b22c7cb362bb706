use Rattle.vl_sequence.specs.laws.LeaseLaws.{apart_over_openings}
use Rattle.vl_sequence.proofs.laws.leases_are_apart_over_openings.Goals as goal

pub returns : goal.returns
returns c h image later key n more stands told only then_ = apart_over_openings key h image later n more stands told only then_
