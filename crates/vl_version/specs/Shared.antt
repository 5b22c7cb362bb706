-- What another version shares of one: the same tables and logs, in files that are held once more.
use Rattle.std.specs.Prelude.{◌≡◌, ℕ, List, Option}
use Rattle.std.specs.List.{AllZip}
use Rattle.vl_seglog.specs.declared.sealed.SealedLog.{SealedLog}
use Rattle.vl_table.specs.Tables.{shape_of}
use Rattle.vl_table.specs.declared.table.Table.{Table}
use Rattle.vl_version.specs.declared.levels.Levels.{Levels}

module _ {H : Type 0} (bytes_of : H → Option (List ℕ)) where
  -- a log of the same number, format and bytes
  pub record IsSameLog (log copy : SealedLog H) : Type 0 where
    pub number : copy.number ≡ log.number
    pub format : copy.format ≡ log.format
    pub bytes : bytes_of copy.held ≡ bytes_of log.held

  abbrev pub AreSameLogs : (logs copies : List (SealedLog H)) → Type 0
  AreSameLogs logs copies = AllZip IsSameLog logs copies

  -- a table of the same shape, which has its number, and of the same bytes
  pub record IsSameTable (table copy : Table H) : Type 0 where
    pub shape : shape_of copy ≡ shape_of table
    pub bytes : bytes_of copy.held ≡ bytes_of table.held

  abbrev pub AreSameTables : (tables copies : List (Table H)) → Type 0
  AreSameTables tables copies = AllZip IsSameTable tables copies

  -- the same tables, each in its place in its level
  pub record AreSameLevels (levels copies : Levels H) : Type 0 where
    pub newest : AreSameTables levels.newest.items copies.newest.items
    pub deeper : AllZip AreSameTables levels.deeper.items copies.deeper.items
