-- What a version has of a layout: its memtables, its tables and its sealed logs are the layout's.
use Rattle.std.specs.Prelude.{◌≡◌, ◌<◌, ℕ, List, ◌∷◌, Option, Some}
use Rattle.std.specs.List.{AllByRecursion, AllZip}
use Rattle.vl_engine_laws.specs.Pointed.{bytes_of_log, segment_at}
use Rattle.vl_engine_model.specs.Logs.{memtable}
use Rattle.vl_engine_model.specs.Tidy.{sealed}
use Rattle.vl_engine_model.specs.declared.layout.Layout.{Layout}
use Rattle.vl_engine_model.specs.declared.segment.Segment.{Segment}
use Rattle.vl_engine_model.specs.declared.table.Table as laid
use Rattle.vl_memtable.specs.declared.frozen_log.FrozenLog.{FrozenLog}
use Rattle.vl_seglog.specs.declared.sealed.SealedLog.{SealedLog}
use Rattle.vl_table.specs.Tables.{IsOf, number_of, shape_of}
use Rattle.vl_table.specs.declared.table.Table.{Table}
use Rattle.vl_version.specs.Sources.{AreTold, log_in}
use Rattle.vl_version.specs.declared.levels.Levels.{Levels}
use Rattle.vl_version.specs.declared.version.Version.{Version}
use Rattle.vl_version.specs.levels.LevelsLooked.{AreInOrder}

-- the memtable of a log that waits for its flush
pub record IsMemtableOf (frozen : FrozenLog) (s : Segment) : Type 0 where
  pub number : frozen.number ≡ s.number
  pub entries : frozen.memtable.entries ≡ memtable s

-- the tables of each level, those of level 0 first
abbrev pub by_level : {H : Type 0} → Levels H → List (List (Table H))
by_level levels = levels.newest.items ∷ levels.deeper.items

module _ {H : Type 0} (bytes : H → Option (List ℕ)) where
  -- a table, by its file's bytes
  pub record IsTableOf (table : Table H) (t : laid.Table) : Type 0 where
    pub of : IsOf bytes table t.entries
    pub number : number_of table ≡ t.number
    pub format : (shape_of table).format ≡ t.format

  -- the tables of a level, each in its place
  abbrev pub AreTablesOf : List (Table H) → List laid.Table → Type 0
  AreTablesOf held ts = AllZip IsTableOf held ts

  -- and those of all levels, each level in its place
  abbrev pub AreLevelsOf : Levels H → List (List laid.Table) → Type 0
  AreLevelsOf levels ls = AllZip AreTablesOf (by_level levels) ls

  -- a sealed log, likewise
  pub record IsLogOf (log : SealedLog H) (s : Segment) : Type 0 where
    pub number : log.number ≡ s.number
    pub format : log.format ≡ s.format
    pub told : bytes log.held ≡ Some (bytes_of_log s)

  -- among these logs is the one with this number
  pub record HasLog (logs : List (SealedLog H)) (number : ℕ) (s : Segment) : Type 0 where
    pub log : SealedLog H
    pub at : log_in logs number ≡ Some log
    pub is : IsLogOf log s

  pub record HasLayout (version : Version H) (l : Layout) : Type 0 where
    pub active : version.active.entries ≡ memtable l.active
    pub frozen : AllZip IsMemtableOf version.behind.frozen.items l.frozen
    -- level by level the tables are the layout's
    pub levels : AreLevelsOf version.behind.levels l.levels
    pub in_order : AreInOrder version.behind.levels
    -- it has each sealed log, and maybe some that were retired
    pub logs : (n : ℕ) (s : Segment) → segment_at (sealed l) n ≡ Some s → HasLog version.behind.logs.items n s
    pub told : AreTold bytes version.behind.logs.items
    -- so that the active log is put behind them when it is sealed
    pub below : AllByRecursion (λ (log : SealedLog H). log.number < l.active.number) version.behind.logs.items
