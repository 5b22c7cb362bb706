use Rattle.vl_model.specs.laws.WinnerLaws.{winner-of_key, winner-in_order}
use Rattle.vl_model.proofs.laws.winners_of_a_key.Goals as goal

pub returns-clause-own : goal.returns-clause-own
returns-clause-own c es key n = winner-of_key key n es

pub returns-clause-order : goal.returns-clause-order
returns-clause-order c es key n = winner-in_order key n es
