use Rattle.vl_model.specs.laws.HistoryLaws.{value_at-extends, last_number-extends}
use Rattle.vl_model.proofs.laws.values_stay.Goals as goal

pub returns-clause-values : goal.returns-clause-values
returns-clause-values c least most extends n key le = value_at-extends least most extends n key le

pub returns-clause-number : goal.returns-clause-number
returns-clause-number c least most extends = last_number-extends least most extends
