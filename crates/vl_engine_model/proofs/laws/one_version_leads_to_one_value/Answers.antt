use Rattle.vl_engine_model.specs.laws.ShowsLaws.{alike_at_one_version}
use Rattle.vl_engine_model.proofs.laws.one_version_leads_to_one_value.Goals as goal

pub returns : goal.returns
returns c logs xs ys zs e f h from to shows keys versions = alike_at_one_version logs xs ys zs e f h from to shows keys versions
