use Rattle.std.proofs.Common.{drop}
use Rattle.vl_memtable.proofs.AsOne.{IsOver}
use Rattle.vl_memtable.proofs.over.over.Given as goal

abbrev pub invariant-loop-older : goal.invariant-loop-older
invariant-loop-older l = IsOver l.fn.run l.front l.runs (drop l.older-index l.runs)
