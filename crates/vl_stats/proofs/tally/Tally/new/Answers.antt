use Rattle.std.proofs.Common.{[], refl}
use Rattle.vl_engine_model.specs.Sources.{tables}
use Rattle.vl_stats.proofs.tally.Tally.new.Goals as goal

pub returns : goal.returns
returns c = λ l points logs_are. record {
  logs = logs_are;
  live = c.in_ok-live.ensures [] (tables l) [] (tables l) c.none.ensures points refl (λ segment. refl);
}
