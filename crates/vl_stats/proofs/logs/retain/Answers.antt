use Rattle.std.proofs.Common.{rules}
use Rattle.std.proofs.lemmas.Fn.{filter_same}
use Rattle.vl_stats.proofs.logs.retain.Goals as goal

pub returns-clause-logs : goal.returns-clause-logs
returns-clause-logs c = filter_same _ _ _ (λ x b f' k. search rules) _ _ c.retain.ensures.filtered
