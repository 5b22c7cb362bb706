use Rattle.vl_filter.specs.laws.HeldLaws.{holds_all}
use Rattle.vl_filter.proofs.laws.built_filters_hold_their_keys.Goals as goal

pub returns : goal.returns
returns c = holds_all
