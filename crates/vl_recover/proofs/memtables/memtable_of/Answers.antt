use Rattle.std.proofs.Common.{sym, ap, ◌∙◌}
use Rattle.vl_model.specs.Entries.{in_order}
use Rattle.vl_model.specs.laws.OrderLaws.{in_order-again}
use Rattle.vl_recover.proofs.memtables.memtable_of.Goals as goal

pub from_writes-requires : goal.from_writes-requires
from_writes-requires c =
    ap in_order c.in_ok-sorted.ensures ∙ in_order-again c.reverse.new.self.items ∙ sym c.in_ok-sorted.ensures
