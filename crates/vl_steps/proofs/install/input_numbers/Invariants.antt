use Rattle.std.proofs.Common.{◌≡◌, ◌++◌, take}
use Rattle.std.specs.List.{filter}
use Rattle.std.specs.Prelude.{map}
use Rattle.vl_table.specs.Tables.{number_of}
use Rattle.vl_version.specs.Bases.{is_input}
use Rattle.vl_version.specs.levels.LevelTables.{all_tables}
use Rattle.vl_steps.proofs.install.input_numbers.Given as goal

abbrev pub invariant-loop-level : goal.invariant-loop-level
invariant-loop-level g l = l.numbers.items
    ≡ map number_of (filter (is_input l.inputs) l.levels.newest.items)
    ++ map number_of (filter (is_input l.inputs) (all_tables (take l.level-index l.level-items)))
