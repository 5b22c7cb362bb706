use Rattle.std.proofs.Common.{◌≡◌}
use Rattle.vl_table.proofs.OrderSteps.{SoFarIn}
use Rattle.vl_table.proofs.block_order.first_out_of_order.Given as goal

abbrev pub invariant-loop-at : goal.invariant-loop-at
invariant-loop-at g l = record {
  so : SoFarIn g.H.HeldFile.bytes l.fn.table l.at l.last;
  steady : g.R.Reader.faults l.reader ≡ g.R.Reader.faults l.initial.reader;
}
