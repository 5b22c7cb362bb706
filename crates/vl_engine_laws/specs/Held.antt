-- What a disk holds of an engine's layout: the manifest, the tables and the logs, all of them durable.
use Rattle.std.specs.Prelude.{◌≡◌, ◌≤◌, ◌<◌, ◌^◌, ℕ, List, [], ◌∷◌, ◌++◌, Ok, map}
use Rattle.std.specs.List.{AllByRecursion, filter}
use Rattle.vl_disk.specs.DiskState.{DiskState, IsLawful}
use Rattle.vl_disk.specs.declared.name.Name.TheVariants.{Manifest, Table}
use Rattle.vl_engine_laws.specs.Files.{HoldsLog, HoldsTable, found_levels}
use Rattle.vl_engine_laws.specs.Pointed.{IsFramedAmong}
use Rattle.vl_engine_laws.specs.Spared.{at_rest, Spares}
use Rattle.vl_engine_model.specs.Sources.{numbers_of, tables}
use Rattle.vl_engine_model.specs.Start.{has_frames, newest_first}
use Rattle.vl_engine_model.specs.Tidy.{sealed}
use Rattle.vl_engine_model.specs.declared.layout.Layout.{Layout}
use Rattle.vl_engine_model.specs.declared.segment.Segment.{Segment}
use Rattle.vl_manifest.specs.Manifest.{state_of}
use Rattle.vl_manifest.specs.Switching.{HasFrames}
use Rattle.vl_manifest.specs.declared.edit.Edit.{Edit}
use Rattle.vl_manifest.specs.declared.manifest_log.ManifestLog.{ManifestLog}
use Rattle.vl_manifest.specs.declared.state.ManifestState.{ManifestState}
use Rattle.vl_model.specs.Formats.{log_format, manifest_format}
use Rattle.vl_model.specs.History.{History, last_number}
use Rattle.vl_recover.specs.crash.Held.{AllSettled, GoOn, HoldsLogs, IsNowhere}
use Rattle.vl_recover.specs.opening.Opening.{IsAmong, led_into}

-- What isn't part of the layout: the manifest that is appended to, its frames, what these say, and the logs from its head on
-- before the active one, rising. An opening copies the old head, so there may be logs without frames among these.
pub record Base : Type 0 where
  pub manifest : ManifestLog
  pub first : List Edit
  pub others : List (List Edit)
  pub state : ManifestState
  pub before : List Segment

abbrev pub frames_of : Base → List (List Edit)
frames_of b = b.first ∷ b.others

-- the logs from the manifest's head on
abbrev pub logs_from : Base → Layout → List Segment
logs_from b l = b.before ++ l.active ∷ []

-- The base is that of the layout, and its logs end with the history's last commit.
pub record IsBase (b : Base) (l : Layout) (h : History) : Type 0 where
  pub numbered : b.manifest.number < 2 ^ 32
  pub made : state_of manifest_format b.manifest.number b.first b.others ≡ Ok b.state
  pub goes : GoOn b.state.covered (logs_from b l) (last_number h)
  pub levels : b.state.levels ≡ map numbers_of l.levels
  -- of the logs before the active one those with frames are frozen
  pub frozen : l.frozen ≡ newest_first (filter has_frames b.before)
  -- a log that tables lead into is sealed and has frames
  pub led : (n : ℕ) → IsAmong (led_into (found_levels l.levels)) n → IsFramedAmong (sealed l) n
  pub keep : b.state.keep ≡ l.keep
  pub since : b.state.since ≡ l.since
  pub gone : b.state.gone ≡ l.gone
  pub covered : b.state.covered ≡ l.covered
  pub format : l.active.format ≡ log_format
  -- its sources have what they should of each key's versions, as an image is asked for that is left behind a stop
  pub spared : Spares (at_rest l) h

-- the manifest is durable with its frames, and no greater one stands or was removed
pub record HoldsBase (b : Base) (disk : DiskState) : Type 0 where
  pub has : HasFrames b.manifest (frames_of b) disk
  pub above : (m : ℕ) → b.manifest.number < m → IsNowhere disk (Manifest m)

-- the tables and the sealed logs are durable: what the layout's entries are read from, but for the active log
pub record HoldsSources (l : Layout) (disk : DiskState) : Type 0 where
  pub tables : AllByRecursion (HoldsTable disk) (tables l)
  pub sealed : AllByRecursion (HoldsLog disk) (sealed l)

-- the logs from the manifest's head on are durable, and so are the tables and the other sealed logs
pub record HoldsFiles (b : Base) (l : Layout) (disk : DiskState) : Type 0 where
  pub logs : HoldsLogs b.state.head (logs_from b l) disk
  pub tables : AllByRecursion (HoldsTable disk) (tables l)
  pub flushed : AllByRecursion (HoldsLog disk) l.flushed

-- Each of the numbers from one up to another is that of a table that was begun on this disk, whether it still stands or not.
abbrev pub AreBegun : (from to : ℕ) → DiskState → Type 0
AreBegun from to disk = (n : ℕ) → from ≤ n → n < to → IsNowhere disk (Table n) → ⊥

-- The disk holds the layout, and nothing that isn't durable.
pub record Holds (b : Base) (l : Layout) (disk : DiskState) : Type 0 where
  pub base : HoldsBase b disk
  pub files : HoldsFiles b l disk
  pub durable : AllSettled disk
  pub lawful : IsLawful disk
