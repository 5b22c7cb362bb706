use Rattle.std.proofs.Common.{◌≡◌, take}
use Rattle.std.specs.Prelude.{map}
use Rattle.vl_table.specs.Tables.{number_of}
use Rattle.vl_compact.proofs.race.numbers_of.Given as goal

abbrev pub invariant-loop-table : goal.invariant-loop-table
invariant-loop-table g l = l.numbers.items ≡ map number_of (take l.table-index l.tables)
