use Rattle.std.proofs.Common.{◌≡◌, ◌++◌, [], take}
use Rattle.std.specs.Prelude.{map}
use Rattle.vl_table.specs.Tables.{number_of}
use Rattle.vl_version.specs.levels.LevelTables.{all_tables}
use Rattle.vl_space.proofs.remove.files_in_use.Given as goal

abbrev pub invariant-loop-level : goal.invariant-loop-level
invariant-loop-level g l = record {
  tables : l.in_use.tables.items
      ≡ map number_of l.core.version.behind.levels.newest.items ++ map number_of (all_tables (take l.level-index l.level-items));
  logs : l.in_use.logs.items ≡ [];
}
