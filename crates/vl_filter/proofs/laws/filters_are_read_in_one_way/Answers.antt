use Rattle.vl_filter.specs.laws.Spelling.{one_filter}
use Rattle.vl_filter.proofs.laws.filters_are_read_in_one_way.Goals as goal

pub returns : goal.returns
returns c = one_filter
