use Rattle.std.proofs.Common.{◌≡◌, ◌++◌, take}
use Rattle.std.specs.Prelude.{map}
use Rattle.vl_table.specs.Tables.{number_of}
use Rattle.vl_space.proofs.remove.put_numbers.Given as goal

abbrev pub invariant-loop-table : goal.invariant-loop-table
invariant-loop-table g l = l.numbers.items ≡ l.initial.numbers.items ++ map number_of (take l.table-index l.tables)
