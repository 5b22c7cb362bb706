-- The tables of all levels.
use Rattle.std.specs.Prelude.{List, ◌++◌}
use Rattle.vl_table.specs.declared.table.Table.{Table}
use Rattle.vl_version.specs.levels.LevelTables.{AreAllApart, AreAllRanged, all_tables}
use Rattle.vl_version.specs.declared.levels.Levels.{Levels}

module _ {H : Type 0} where
  -- the tables from the newest source to the oldest: those of level 0, and those of the levels below it
  abbrev pub tables_of : Levels H → List (Table H)
  tables_of levels = levels.newest.items ++ all_tables levels.deeper.items

  -- in each level below level 0 the tables are in key order, and none overlaps
  abbrev pub AreInOrder : Levels H → Type 0
  AreInOrder levels = AreAllApart levels.deeper.items

  -- and none ends before it begins
  abbrev pub AreLaidOut : Levels H → Type 0
  AreLaidOut levels = AreAllApart levels.deeper.items × AreAllRanged levels.deeper.items
