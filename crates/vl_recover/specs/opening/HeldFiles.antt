-- The files that an opened store holds for its readers, and the logs whose memtables wait for their flush.
use Rattle.std.specs.Prelude.{◌≡◌, ◌≤◌, ◌<◌, ℕ, nat_lt, List, [], ◌∷◌, ◌++◌, Option, Some, Vec}
use Rattle.std.specs.FinMap.{get}
use Rattle.std.specs.List.{AllByRecursion, AllZip, filter, flat_map}
use Rattle.std.specs.Global.{Global}
use Rattle.vl_disk.specs.Crash.{Image}
use Rattle.vl_disk.specs.Disk.{IsFree, Stands}
use Rattle.vl_disk.specs.DiskState.{DiskState}
use Rattle.vl_disk.specs.declared.name.Name.TheVariants as names
use Rattle.vl_engine_model.specs.Rulings.Flush.{covered_by}
use Rattle.vl_engine_model.specs.declared.segment.Segment.{Segment}
use Rattle.vl_manifest.specs.declared.state.ManifestState.{ManifestState}
use Rattle.vl_manifest.specs.declared.waiting.Waiting.{Waiting}
use Rattle.vl_recover.specs.opening.Answers.{Finds, as_segments, logs_then}
use Rattle.vl_recover.specs.opening.Opening.{led_into}
use Rattle.vl_seglog.specs.Frames.{log_bytes}
use Rattle.vl_seglog.specs.LogReading.{HasHeader, IsLogFormat}
use Rattle.vl_seglog.specs.declared.sealed.SealedLog.{SealedLog}
use Rattle.vl_table.specs.Tables.{number_of}
use Rattle.vl_table.specs.declared.table.Table.{Table}

-- a list but for its last
abbrev pub but_last : {A : Type 0} → List A → List A
but_last [] = []
but_last (x ∷ []) = []
but_last (x ∷ y ∷ ys) = x ∷ but_last (y ∷ ys)

-- the logs below head that tables lead into, rising
abbrev pub led_below_head : {read : Image} → Finds read → List ℕ
led_below_head found = filter (λ n. nat_lt n found.opening.state.head) (led_into found.opening.levels)

module _ {H : Type 0} where
  -- the tables of all levels, the newest first
  abbrev pub tables_of : List (Vec (Table H) Global) → List (Table H)
  tables_of levels = flat_map (λ (level : Vec (Table H) Global). level.items) levels

  module _ (bytes_of : H → Option (List ℕ)) where
    -- each of these tables is held as reads give it
    abbrev pub AreReadTables : Image → List (Table H) → Type 0
    AreReadTables read ts = AllByRecursion (λ (t : Table H). bytes_of t.held ≡ get read (names.Table (number_of t))) ts

    -- the log with this number is held as reads give it, and told by its header
    pub record IsReadLog (read : Image) (log : SealedLog H) (number : ℕ) : Type 0 where
      pub number_is : log.number ≡ number
      pub told : bytes_of log.held ≡ get read (names.Log number)
      pub format : IsLogFormat log.format
      pub header : (bytes : List ℕ) → get read (names.Log number) ≡ Some bytes → HasHeader log.format number bytes

    -- the log is held with its frames, and nothing behind them
    pub record IsHeldLog (log : SealedLog H) (s : Segment) : Type 0 where
      pub number_is : log.number ≡ s.number
      pub format_is : log.format ≡ s.format
      pub told : bytes_of log.held ≡ Some (log_bytes s.format s.number s.frames)

    -- The logs that stay, but for the one that takes commits: those below head that tables lead into, and those from head on.
    pub record AreHeldLogs {read : Image} (found : Finds read) (logs : List (SealedLog H)) : Type 0 where
      pub lower : List (SealedLog H)
      pub upper : List (SealedLog H)
      pub split : logs ≡ lower ++ upper
      pub lower_are : AllZip (IsReadLog read) lower (led_below_head found)
      pub upper_are : AllZip IsHeldLog upper (but_last (logs_then found))

    -- The same as far as it was found by reading: of the logs from head on the last isn't held before it is repaired.
    pub record AreHeldFound {read : Image} (found : Finds read) (logs : List (SealedLog H)) : Type 0 where
      pub lower : List (SealedLog H)
      pub upper : List (SealedLog H)
      pub split : logs ≡ lower ++ upper
      pub lower_are : AllZip (IsReadLog read) lower (led_below_head found)
      pub upper_are : AllZip IsHeldLog upper (but_last (as_segments found.logs))

-- These logs wait for their flush, the oldest first; behind each commits up to a number are in tables, where they are up to
-- this one before the first of them.
abbrev pub AreWaiting : ℕ → List Waiting → List Segment → Type 0
AreWaiting covered [] [] = Unit {0}
AreWaiting covered [] (s ∷ ss) = ⊥
AreWaiting covered (w ∷ ws) [] = ⊥
AreWaiting covered (w ∷ ws) (s ∷ ss) =
    (w.number ≡ s.number) × (w.covered ≡ covered_by s.frames covered) × AreWaiting w.covered ws ss

-- What steps on files ask of the disk: the log that takes commits stands and so does the manifest, and no log and no table stands
-- under a number that may still be given.
pub record IsReadyToGoOn (active manifest : ℕ) (state : ManifestState) (disk : DiskState) : Type 0 where
  pub log : Stands (names.Log active) disk
  pub manifest_is : Stands (names.Manifest manifest) disk
  pub logs_free : (n : ℕ) → active < n → state.next_log ≤ n → IsFree (names.Log n) disk
  pub tables_free : (n : ℕ) → state.next_table ≤ n → IsFree (names.Table n) disk
