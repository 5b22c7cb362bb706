-- What a disk holds of an opened store, of which all files are durable.
use Rattle.std.specs.Prelude.{◌≡◌, ℕ, ◌+◌, ◌≤◌, ◌<◌, List, [], ◌∷◌, map, true, false, None, Some, Ok}
use Rattle.std.specs.FinMap.{get}
use Rattle.std.specs.List.{AllByRecursion}
use Rattle.vl_disk.specs.Crash.{Image}
use Rattle.vl_disk.specs.DiskState.{DiskState, File, settled}
use Rattle.vl_disk.specs.declared.name.Name.{Name}
use Rattle.vl_disk.specs.declared.name.Name.TheVariants.{Log, Manifest, Table}
use Rattle.vl_engine_model.specs.declared.segment.Segment.{Segment}
use Rattle.vl_manifest.specs.Manifest.{SaysState}
use Rattle.vl_manifest.specs.declared.state.ManifestState.{ManifestState}
use Rattle.vl_frame.specs.Runs.{HasFrame}
use Rattle.vl_recover.specs.opening.Answers.{Finds}
use Rattle.vl_recover.specs.opening.Opening.{FoundTable, IsAmong, IsNamed, NamedLevels, NamedLogs, Opening, led_into}
use Rattle.vl_recover.specs.opening.Walk.{StandingLog, filled, standing_log, walked}
use Rattle.vl_seglog.specs.Frames.{frames_grammar, log_bytes}
use Rattle.vl_seglog.specs.LogReading.{IsLogFormat}

-- no file stands under this name, and none was removed since the disk was started
pub record IsNowhere (disk : DiskState) (name : Name) : Type 0 where
  pub free : get disk.standing name ≡ None
  pub never : get disk.removed name ≡ None

-- the file is a durable log of this number that has its header alone
abbrev pub IsIdle : ℕ → File → Type 0
IsIdle number file = (format : ℕ) × IsLogFormat format × (file ≡ settled (log_bytes format number []))

-- No log of this number stands, and what was removed there, if anything, is idle. If it comes back, an opening passes over it.
pub record IsPassedOver (disk : DiskState) (number : ℕ) : Type 0 where
  pub free : get disk.standing (Log number) ≡ None
  pub idle : (file : File) → get disk.removed (Log number) ≡ Some file → IsIdle number file

-- the file stands, durable, with these bytes
abbrev pub IsSettled : DiskState → Name → List ℕ → Type 0
IsSettled disk name bytes = get disk.standing name ≡ Some (settled bytes)

-- the manifest that says this state is durable, and no greater one stands or was removed
pub record HoldsManifest (state : ManifestState) (disk : DiskState) : Type 0 where
  pub number : ℕ
  pub bytes : List ℕ
  pub stands : IsSettled disk (Manifest number) bytes
  pub says : SaysState number bytes state
  pub above : (m : ℕ) → number < m → IsNowhere disk (Manifest m)

-- From a number on stand just these logs, rising, each durable with its frames and nothing else. None other was removed, but
-- for idle ones in front of one that stands.
abbrev pub HoldsLogs : ℕ → List Segment → DiskState → Type 0
HoldsLogs least [] disk = (m : ℕ) → least ≤ m → IsNowhere disk (Log m)
HoldsLogs least (s ∷ ss) disk =
    (least ≤ s.number)
    × ((m : ℕ) → least ≤ m → m < s.number → IsPassedOver disk m)
    × IsLogFormat s.format
    × AllByRecursion (HasFrame (frames_grammar s.format)) s.frames
    × IsSettled disk (Log s.number) (log_bytes s.format s.number s.frames)
    × HoldsLogs (s.number + 1) ss disk

-- the tables of all levels as an image has them, and what they say there
pub record View : Type 0 where
  pub image : Image
  pub levels : List (List FoundTable)

-- the view of an image in which this was found
abbrev pub view_of : {image : Image} → Finds image → View
view_of {image} found = record { image = image; levels = found.opening.levels }

-- the file is durable, with the bytes that it has in this image
abbrev pub DurableAs : Image → DiskState → Name → Type 0
DurableAs image disk name = (bytes : List ℕ) × (get image name ≡ Some bytes) × IsSettled disk name bytes

-- The tables that the state names are those of the view, and these and the logs that they lead into are durable as they are
-- there.
pub record Needs (state : ManifestState) (view : View) (disk : DiskState) : Type 0 where
  pub named : NamedLevels false view.image state.levels (Ok view.levels)
  pub led : NamedLogs view.image (led_into view.levels) (Ok tt)
  pub tables : (n : ℕ) → IsNamed state.levels n → DurableAs view.image disk (Table n)
  pub logs : (n : ℕ) → IsAmong (led_into view.levels) n → DurableAs view.image disk (Log n)

-- each file that stands is durable
abbrev pub AllSettled : DiskState → Type 0
AllSettled disk = (name : Name) (file : File) → get disk.standing name ≡ Some file → file ≡ settled file.bytes

-- The disk holds a store: a manifest that says this state, the tables that it names and the logs that these lead into, these
-- logs from its head on, and nothing that isn't durable.
pub record HoldsStore (state : ManifestState) (view : View) (logs : List Segment) (disk : DiskState) : Type 0 where
  pub manifest : HoldsManifest state disk
  pub needs : Needs state view disk
  pub logs_are : HoldsLogs state.head logs disk
  pub durable : AllSettled disk

-- ---- what it opens as

-- a log as it stands that is held: whole
abbrev pub log_as_held : Segment → StandingLog
log_as_held s = standing_log s.number (log_bytes s.format s.number s.frames)
    (record { header = Some s.format; frames = s.frames; whole = true })

-- their commits go on from a number to another
abbrev pub GoOn : ℕ → List Segment → ℕ → Type 0
GoOn covered logs number = walked covered (map log_as_held logs) ≡ Ok number

-- what a store that is held opens as
abbrev pub opening_held : ManifestState → View → List Segment → ℕ → Opening
opening_held state view logs number =
    record { state = state; levels = view.levels; logs = filled (map log_as_held logs); number = number }
