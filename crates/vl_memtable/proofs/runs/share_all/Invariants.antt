use Rattle.std.proofs.Common.{◌≡◌, ◌++◌, take}
use Rattle.vl_memtable.proofs.runs.share_all.Given as goal

abbrev pub invariant-loop-run : goal.invariant-loop-run
invariant-loop-run l = l.all.items ≡ l.initial.all.items ++ take l.run-index l.runs
