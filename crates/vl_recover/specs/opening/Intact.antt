-- When an image is intact: a store opens from it, and every live pointer resolves, by the image's own bytes.
use Rattle.std.specs.Prelude.{◌≡◌, ◌<◌, ℕ, zero, suc, if◌then◌else◌, true, bytes_eq, List, [], ◌++◌, take, Option, None, Some, Ok}
use Rattle.std.specs.FinMap.{get}
use Rattle.std.specs.List.{AllByRecursion, AllZip, flat_map}
use Rattle.vl_table.specs.body.Bytes.{IsTable, table_bytes}
use Rattle.vl_model.specs.Cutting.{joined}
use Rattle.vl_disk.specs.Crash.{Image}
use Rattle.vl_disk.specs.DiskState.{DiskState}
use Rattle.vl_disk.specs.declared.name.Name.TheVariants.{Log, Table}
use Rattle.vl_engine_model.specs.Logs.{memtable}
use Rattle.vl_engine_model.specs.Shown.{IsOf}
use Rattle.vl_engine_model.specs.Shows.{AreUpTo, Shows}
use Rattle.vl_engine_model.specs.Start.{newest_first}
use Rattle.vl_engine_model.specs.declared.segment.Segment.{Segment}
use Rattle.vl_manifest.specs.Levels.{is_in}
use Rattle.vl_model.specs.Formats.{log_format}
use Rattle.vl_model.specs.History.{History, Past}
use Rattle.vl_model.specs.Keys.{Stored, value_length}
use Rattle.vl_model.specs.Limits.{max_inline_bytes}
use Rattle.vl_model.specs.Versions.{low}
use Rattle.vl_model.specs.Winners.{Logs}
use Rattle.vl_model.specs.declared.entry.Body.{Body}
use Rattle.vl_model.specs.declared.entry.Body.TheVariants.{Far, Gone, Inline, Logged}
use Rattle.vl_model.specs.declared.entry.Entry.{Entry}
use Rattle.vl_recover.specs.crash.Alike.{IsLeft}
use Rattle.vl_recover.specs.opening.Opening.{FoundTable, IsAmong, Opening, Opens, led_into}
use Rattle.vl_seglog.specs.Frames.{log_header}
use Rattle.vl_seglog.specs.LogReading.{LogReading, ReadsLog}
use Rattle.vl_seglog.specs.Stored.{stored_at}
use Rattle.vl_table.specs.Opening.{said_of}

-- ---- its logs

-- the format in the header of the log with this number, the greatest one up to a format; none where the bytes begin with no
-- such header
abbrev pub format_said : (most number : ℕ) → List ℕ → Option ℕ
format_said zero number bytes = None
format_said (suc format) number bytes =
    if bytes_eq (take 16 bytes) (log_header (suc format) number) then Some (suc format) else format_said format number bytes

abbrev pub stored_by : Option ℕ → List ℕ → Logs
stored_by None bytes pointer key = None
stored_by (Some format) bytes pointer key = stored_at format bytes pointer key

-- what stands at a pointer in a log that has these bytes, in the format of its header
abbrev pub stored_in : Option (List ℕ) → Logs
stored_in None pointer key = None
stored_in (Some bytes) pointer key = stored_by (format_said log_format pointer.segment bytes) bytes pointer key

-- What stands at a pointer in the image, by the bytes of its log, which has to be one of these.
abbrev pub image_logs : Image → List ℕ → Logs
image_logs image logs pointer key =
    if is_in pointer.segment logs then stored_in (get image (Log pointer.segment)) pointer key else None

-- the log with this number is whole: it has its header, and ends with its frames
pub record HasWholeLog (image : Image) (number : ℕ) : Type 0 where
  pub bytes : List ℕ
  pub stands : get image (Log number) ≡ Some bytes
  pub reading : LogReading
  pub reads : ReadsLog number bytes reading
  pub whole : reading.whole ≡ true

-- ---- its tables

-- The table that was found is the one of these entries, to the last byte: what its footer says is true.
pub record IsTableOf (image : Image) (t : FoundTable) (es : List Entry) : Type 0 where
  pub format : ℕ
  pub table : IsTable format t.number es
  pub stands : get image (Table t.number) ≡ Some (table_bytes format t.number es)
  pub says : t.said ≡ said_of format es

-- the tables of all levels, the newest first
abbrev pub all_tables : List (List FoundTable) → List FoundTable
all_tables levels = flat_map (λ level. level) levels

-- ---- what they hold

-- the entries of all sources, end to end, the newest first: of the memtables of logs with frames, and of tables
abbrev pub entries_of : List Segment → List (List Entry) → List Entry
entries_of logs tables = flat_map memtable (newest_first logs) ++ joined tables

-- a value that a pointer leads to is too long to stand beside its key
abbrev pub LeadsFar : Logs → List ℕ → Body → Type 0
LeadsFar logs key (Inline value) = Unit {0}
LeadsFar logs key Gone = Unit {0}
LeadsFar logs key (Far pointer) = (value : Stored) → logs pointer key ≡ Some value → max_inline_bytes < value_length value
LeadsFar logs key (Logged value pointer) = Unit {0}

-- a history that begins at a number with what is known of versions, and has no commits yet
abbrev pub history_over : Past → ℕ → History
history_over base number = record { first = number; base = base; commits = [] }

-- The entries of a store show, at its last number, the history of the versions that they hold, of which so many are kept, since a
-- number. So the body of each resolves in these logs, and those of one key and version to the same value.
pub record AllResolve (number keep since : ℕ) (logs : Logs) (es : List Entry) : Type 0 where
  pub base : Past
  pub versions : AllByRecursion (IsOf (history_over base number)) es
  pub shows : Shows logs es (history_over base number) (low (history_over base number) number keep since) number
  pub up_to : AreUpTo number es
  pub far : AllByRecursion (λ (e : Entry). LeadsFar logs e.key e.body) es

-- ---- all of it

-- A store opens from the image: its tables are tables with true footers, the logs that these lead into are whole, and each of
-- its entries resolves there.
pub record IsIntact (image : Image) : Type 0 where
  pub opening : Opening
  pub opens : Opens image (Ok opening)
  pub tables : List (List Entry)
  pub tables_are : AllZip (IsTableOf image) (all_tables opening.levels) tables
  pub whole : (n : ℕ) → IsAmong (led_into opening.levels) n → HasWholeLog image n
  pub resolve : AllResolve opening.number opening.state.keep opening.state.since (image_logs image (led_into opening.levels))
      (entries_of opening.logs tables)

-- Whatever a crash leaves of this disk is intact, if no torn bytes spell a frame by chance.
abbrev pub LeavesIntact : DiskState → Type 0
LeavesIntact disk = (image : Image) → IsLeft disk image → IsIntact image
