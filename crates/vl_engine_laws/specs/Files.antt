-- Tables and logs as files: which can be read, their bytes, and where they stand.
use Rattle.std.specs.Prelude.{◌≡◌, ◌≤◌, ℕ, List, Some, map}
use Rattle.std.specs.FinMap.{get}
use Rattle.std.specs.List.{AllByRecursion}
use Rattle.vl_table.specs.body.Bytes.{IsTable, table_bytes}
use Rattle.vl_disk.specs.Crash.{Image}
use Rattle.vl_disk.specs.DiskState.{DiskState}
use Rattle.vl_disk.specs.declared.name.Name.TheVariants as names
use Rattle.vl_engine_laws.specs.Pointed.{bytes_of_log}
use Rattle.vl_frame.specs.Runs.{HasFrame}
use Rattle.vl_engine_model.specs.Tidy.{IsTrueTable}
use Rattle.vl_engine_model.specs.declared.segment.Segment.{Segment}
use Rattle.vl_engine_model.specs.declared.table.Table.{Table}
use Rattle.vl_model.specs.Formats.{table_format}
use Rattle.vl_recover.specs.crash.Held.{IsSettled}
use Rattle.vl_recover.specs.opening.Opening.{FoundTable}
use Rattle.vl_seglog.specs.Frames.{frames_grammar}
use Rattle.vl_seglog.specs.LogReading.{IsLogFormat}
use Rattle.vl_table.specs.Opening.{said_of}

-- ---- as they can be read

-- the table is what its entries come to, and can be spelled in its format, which is read
pub record IsTableFile (t : Table) : Type 0 where
  pub laid : IsTrueTable t
  pub first : 1 ≤ t.format
  pub readable : t.format ≤ table_format
  pub table : IsTable t.format t.number t.entries

abbrev pub bytes_of_table : Table → List ℕ
bytes_of_table t = table_bytes t.format t.number t.entries

-- the log's frames can be spelled in its format, which is read
pub record IsLogFile (s : Segment) : Type 0 where
  pub readable : IsLogFormat s.format
  pub have : AllByRecursion (HasFrame (frames_grammar s.format)) s.frames

-- the table as an opening finds it
abbrev pub found_of : Table → FoundTable
found_of t = record { number = t.number; said = said_of t.format t.entries }

abbrev pub found_levels : List (List Table) → List (List FoundTable)
found_levels levels = map (map found_of) levels

-- ---- on a disk

pub record HoldsTable (disk : DiskState) (t : Table) : Type 0 where
  pub is : IsTableFile t
  pub stands : IsSettled disk (names.Table t.number) (bytes_of_table t)

pub record HoldsLog (disk : DiskState) (s : Segment) : Type 0 where
  pub is : IsLogFile s
  pub stands : IsSettled disk (names.Log s.number) (bytes_of_log s)

-- ---- in an image

pub record HasTable (image : Image) (t : Table) : Type 0 where
  pub is : IsTableFile t
  pub stands : get image (names.Table t.number) ≡ Some (bytes_of_table t)

pub record HasLog (image : Image) (s : Segment) : Type 0 where
  pub is : IsLogFile s
  pub stands : get image (names.Log s.number) ≡ Some (bytes_of_log s)
