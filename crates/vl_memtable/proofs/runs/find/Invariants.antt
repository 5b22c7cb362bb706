use Rattle.std.proofs.Common.{◌≡◌, take}
use Rattle.std.specs.Option.{option_copied}
use Rattle.vl_model.specs.Winners.{winner}
use Rattle.vl_memtable.specs.Contents.{all_of}
use Rattle.vl_memtable.proofs.runs.find.Given as goal

abbrev pub invariant-loop-run : goal.invariant-loop-run
invariant-loop-run l = option_copied l.best ≡ winner (all_of (take l.run-index l.runs)) l.key l.number
