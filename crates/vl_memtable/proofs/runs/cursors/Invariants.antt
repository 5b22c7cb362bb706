use Rattle.std.proofs.Common.{◌≡◌, map, take}
use Rattle.vl_model.specs.EntryOrder.{along}
use Rattle.vl_memtable.proofs.runs.cursors.Given as goal

abbrev pub invariant-loop-run : goal.invariant-loop-run
invariant-loop-run l = l.all.items ≡ map (along l.way) (take l.run-index l.runs)
