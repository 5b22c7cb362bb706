use Rattle.std.proofs.Common.{◌≡◌, take, None}
use Rattle.vl_model.specs.Winners.{exact}
use Rattle.vl_memtable.specs.Contents.{all_of}
use Rattle.vl_memtable.proofs.runs.exact.Given as goal

abbrev pub invariant-loop-run : goal.invariant-loop-run
invariant-loop-run l = exact (all_of (take l.run-index l.runs)) l.key l.version ≡ None
