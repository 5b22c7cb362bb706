use Rattle.std.proofs.Common.{◌≡◌, ◌-◌, ◌^◌, take}
use Rattle.std.specs.Prelude.{min}
use Rattle.vl_compact.specs.Racing.{entry_count}
use Rattle.vl_compact.proofs.race.total.Given as goal

abbrev pub invariant-loop-table : goal.invariant-loop-table
invariant-loop-table g l = l.sum ≡ min (entry_count (take l.table-index l.made)) (2 ^ 64 - 1)
