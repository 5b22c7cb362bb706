use Rattle.vl_recover.proofs.opening.Naming.{sorted_rising}
use Rattle.vl_recover.proofs.names.in_order.Goals as goal

pub returns-clause-rising : goal.returns-clause-rising
returns-clause-rising c = sorted_rising c.sort_unstable.new.self.items c.sort_unstable.ensures.sorted
