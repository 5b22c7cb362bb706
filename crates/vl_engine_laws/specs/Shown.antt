-- What an image shows of a history, by its own bytes.
use Rattle.std.specs.Prelude.{◌≡◌, ℕ, ◌≤◌, List, [], ◌∷◌, ◌++◌, Ok}
use Rattle.std.specs.List.{AllByRecursion, flat_map}
use Rattle.vl_disk.specs.Crash.{Image}
use Rattle.vl_disk.specs.DiskState.{DiskState}
use Rattle.vl_engine_laws.specs.Files.{HasLog, HasTable, found_levels}
use Rattle.vl_engine_laws.specs.Pointed.{IsFramedAmong, stored_among}
use Rattle.vl_engine_laws.specs.Spared.{IsSpared, IsWhole}
use Rattle.vl_engine_model.specs.Logs.{memtable}
use Rattle.vl_engine_model.specs.Shown.{IsOf}
use Rattle.vl_engine_model.specs.Shows.{AreUpTo, Shows}
use Rattle.vl_engine_model.specs.Sources.{table_entries}
use Rattle.vl_engine_model.specs.Tidy.{IsPlacedIn}
use Rattle.vl_engine_model.specs.declared.segment.Segment.{Segment}
use Rattle.vl_engine_model.specs.declared.table.Table.{Table}
use Rattle.vl_model.specs.History.{History, last_number}
use Rattle.vl_model.specs.Limits.{max_commit_number}
use Rattle.vl_model.specs.Versions.{low}
use Rattle.vl_model.specs.Winners.{Logs}
use Rattle.vl_model.specs.declared.entry.Entry.{Entry}
use Rattle.vl_recover.specs.crash.Alike.{IsLeft}
use Rattle.vl_recover.specs.opening.Opening.{IsAmong, Opening, Opens, led_into}

-- the entries of logs that rise, end to end, the newest first
abbrev pub logs_entries : List Segment → List Entry
logs_entries [] = []
logs_entries (s ∷ ss) = logs_entries ss ++ memtable s

-- the tables of all levels, the newest first, and their entries
abbrev pub tables_among : List (List Table) → List Table
tables_among levels = flat_map (λ level. level) levels

abbrev pub entries_among : List (List Table) → List Entry
entries_among levels = flat_map table_entries (tables_among levels)

-- The entries show the history up to a number, each key from the least number on at which it can be read there; each of them
-- is of a version of its key; and none is above that number.
pub record EntriesShow (keep since gone : ℕ) (logs : Logs) (es : List Entry) (h : History) (m : ℕ) : Type 0 where
  pub shows : Shows logs es h (low h m keep since) m
  pub versions : AllByRecursion (IsOf h) es
  pub up_to : AreUpTo m es
  -- what is missing of a key's versions doesn't tell on that number
  pub spared : IsSpared h es m m keep since
  -- and no change above `gone` is missing
  pub whole : IsWhole h es m m gone

-- one of these logs has this number, and stands in the image
pub record HasFramedAmong (image : Image) (logs : List Segment) (number : ℕ) : Type 0 where
  pub is : IsFramedAmong logs number
  pub has : HasLog image is.log

-- The image opens at this number. The tables that it names are tables, and the logs that these lead into are whole; so with
-- what its other logs say its entries show the history there.
pub record Shown (image : Image) (h : History) (m : ℕ) : Type 0 where
  pub opening : Opening
  pub opens : Opens image (Ok opening)
  pub number : opening.number ≡ m
  -- what the tables that it finds have
  pub levels : List (List Table)
  pub found : opening.levels ≡ found_levels levels
  pub tables : AllByRecursion (HasTable image) (tables_among levels)
  -- their pointers lead into these logs, of which those stand that footers tell
  pub sealed : List Segment
  pub led : (n : ℕ) → IsAmong (led_into opening.levels) n → HasFramedAmong image sealed n
  pub placed : AllByRecursion (λ (t : Table). AllByRecursion (IsPlacedIn sealed) t.entries) (tables_among levels)
  pub entries : EntriesShow opening.state.keep opening.state.since opening.state.gone (stored_among sealed)
      (logs_entries opening.logs ++ entries_among levels) h m
  -- how many versions it keeps, and since when
  pub some : 1 ≤ opening.state.keep
  pub since : opening.state.since ≤ m
  pub last : m ≤ max_commit_number

-- The image shows a history at one of its numbers, not below the last one of an earlier history: it has all commits of the
-- earlier one, and maybe some of those behind them.
abbrev pub ShowsBetween : History → History → Image → Type 0
ShowsBetween least most image =
    (m : ℕ) × (last_number least ≤ m) × (m ≤ last_number most) × Shown image most m

-- so does whatever a crash leaves of this disk, if no torn bytes spell a frame by chance
abbrev pub LeavesBetween : History → History → DiskState → Type 0
LeavesBetween least most disk = (image : Image) → IsLeft disk image → ShowsBetween least most image
