use Rattle.std.proofs.Common.{◌≡◌, map, take}
use Rattle.vl_model.specs.EntryOrder.{along, within}
use Rattle.vl_memtable.proofs.runs.cursors_within.Given as goal

abbrev pub invariant-loop-run : goal.invariant-loop-run
invariant-loop-run l = l.all.items ≡ map (λ run. along l.way (within l.span run)) (take l.run-index l.runs)
