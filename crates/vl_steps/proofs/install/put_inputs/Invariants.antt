use Rattle.std.proofs.Common.{◌≡◌, ◌++◌, take}
use Rattle.std.specs.List.{filter}
use Rattle.std.specs.Prelude.{map}
use Rattle.vl_table.specs.Tables.{number_of}
use Rattle.vl_version.specs.Bases.{is_input}
use Rattle.vl_steps.proofs.install.put_inputs.Given as goal

abbrev pub invariant-loop-table : goal.invariant-loop-table
invariant-loop-table g l = l.numbers.items
    ≡ l.initial.numbers.items ++ map number_of (filter (is_input l.inputs) (take l.table-index l.tables))
