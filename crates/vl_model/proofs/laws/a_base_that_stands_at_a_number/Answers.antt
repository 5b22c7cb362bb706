use Rattle.vl_model.specs.laws.HistoryLaws.{contents_at-standing_at}
use Rattle.vl_model.proofs.laws.a_base_that_stands_at_a_number.Goals as goal

pub returns : goal.returns
returns c = contents_at-standing_at
