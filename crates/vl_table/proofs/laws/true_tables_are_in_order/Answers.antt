use Rattle.vl_table.specs.laws.TrueOrder.{no_break}
use Rattle.vl_table.proofs.laws.true_tables_are_in_order.Goals as goal

pub returns : goal.returns
returns g c = no_break g.H.HeldFile.bytes
