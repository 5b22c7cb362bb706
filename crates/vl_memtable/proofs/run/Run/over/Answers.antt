use Rattle.std.proofs.Common.{◌++◌, sym, subst}
use Rattle.vl_model.specs.EntryOrder.{IsInOrder}
use Rattle.vl_model.specs.laws.OrderLaws.{in_order-again}
use Rattle.vl_memtable.proofs.run.Run.over.Goals as goal

pub from_writes-requires : goal.from_writes-requires
from_writes-requires c =
    subst IsInOrder (sym c.in_ok-merged.ensures) (in_order-again (c.as_slice.result.now ++ c.as_slice-2.result.now))
