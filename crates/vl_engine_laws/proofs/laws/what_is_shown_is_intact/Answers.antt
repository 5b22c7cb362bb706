use Rattle.vl_engine_laws.specs.laws.IntactLaws.{shown_intact}
use Rattle.vl_engine_laws.proofs.laws.what_is_shown_is_intact.Goals as goal

pub returns : goal.returns
returns c image h m shown = shown_intact image h m shown
