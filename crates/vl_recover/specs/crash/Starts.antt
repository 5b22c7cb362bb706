-- What is asked of a disk on which a store is opened, where crashes are spoken of.
use Rattle.std.specs.Prelude.{◌≡◌, ◌≢◌, ℕ, ◌+◌, ◌≤◌, ◌<◌, true, List, length, None, Some, Ok, All}
use Rattle.vl_model.specs.Formats.{log_format}
use Rattle.std.specs.FinMap.{get}
use Rattle.vl_disk.specs.Chance.{NoChanceOne}
use Rattle.vl_disk.specs.Crash.{Image}
use Rattle.vl_disk.specs.DiskState.{DiskState, File}
use Rattle.vl_disk.specs.Started.{IsRead}
use Rattle.vl_disk.specs.declared.name.Name.{Name}
use Rattle.vl_disk.specs.declared.name.Name.TheVariants.{Log, Table, Manifest}
use Rattle.vl_recover.specs.crash.Alike.{Spells}
use Rattle.vl_recover.specs.crash.Held.{IsIdle}
use Rattle.vl_recover.specs.opening.Opening.{IsAmong, IsNamed, Opening, Opens, led_into}
use Rattle.vl_recover.specs.opening.Walk.{keeps_header}
use Rattle.vl_seglog.specs.LogReading.{HasHeader, LogReading, ReadsLog, SaysFormat}

-- a log that doesn't begin with its header, so that none of its frames are read
abbrev pub HasWrongHeader : Name → File → Type 0
HasWrongHeader (Log number) file = SaysFormat None number file.bytes
HasWrongHeader (Table number) file = ⊥
HasWrongHeader (Manifest number) file = ⊥

-- a log that doesn't begin with a header in the format that is written, so that nothing is appended to it
abbrev pub TakesNoFrames : Name → File → Type 0
TakesNoFrames (Log number) file = HasHeader log_format number file.bytes → ⊥
TakesNoFrames (Table number) file = ⊥
TakesNoFrames (Manifest number) file = ⊥

-- A file may stand under this name.
pub record MayStand (name : Name) (file : File) : Type 0 where
  -- Where the header isn't wrong and the file isn't wholly synced: a frame that a read gives at the first place that may be torn
  -- was handed over there, and so was one right behind it, if any.
  pub no_chance : (HasWrongHeader name file → ⊥) → NoChanceOne Spells name (Some file) (Some file.bytes)
  -- a log that takes no frames has no unsynced piece that goes past the header
  pub headless : TakesNoFrames name file → All (λ piece. piece.place + length piece.bytes ≤ 16) file.unsynced

-- so do all that stand
abbrev pub AllMayStand : DiskState → Type 0
AllMayStand disk = (name : Name) (file : File) → get disk.standing name ≡ Some file → MayStand name file

abbrev pub IsDurable : File → Type 0
IsDurable file = (file.wholly_synced ≡ true) × (file.lasting ≡ true)

-- nothing is changed of a log that reads so, also where it is the last one
abbrev pub StaysAsItIs : LogReading → Type 0
StaysAsItIs r = (r.whole ≡ true) × (keeps_header r.header r.frames ≡ true)

-- so it is with the logs of these numbers
abbrev pub AllStay : Image → List ℕ → Type 0
AllStay image logs = (n : ℕ) (bytes : List ℕ) (reading : LogReading) → IsAmong logs n → get image (Log n) ≡ Some bytes
    → ReadsLog n bytes reading → StaysAsItIs reading

-- the removed log was idle, and one above it stands
pub record WasIdle (disk : DiskState) (number : ℕ) (file : File) : Type 0 where
  pub idle : IsIdle number file
  pub above : ℕ
  pub higher : number < above
  pub stands : get disk.standing (Log above) ≢ None

-- so it is with each log from a number on that was removed
abbrev pub OnlyIdleGone : ℕ → DiskState → Type 0
OnlyIdleGone least disk = (m : ℕ) (file : File) → least ≤ m → get disk.removed (Log m) ≡ Some file → WasIdle disk m file

-- What is asked of a disk of which reads give what opens so. Nothing is asked of what else a crash could leave.
pub record MayOpenAs (disk : DiskState) (o : Opening) : Type 0 where
  -- no log from head on was removed, but for idle ones in front of one that stands
  pub logs : OnlyIdleGone o.state.head disk
  -- a log from head on that isn't the last is durable
  pub sealed : (m k : ℕ) (file : File) → o.state.head ≤ m → m < k → get disk.standing (Log k) ≢ None
      → get disk.standing (Log m) ≡ Some file → IsDurable file
  -- the tables that are named are durable
  pub tables : (n : ℕ) (file : File) → IsNamed o.state.levels n → get disk.standing (Table n) ≡ Some file → IsDurable file
  -- so are the logs that these lead into, and they stay as they are
  pub led : (n : ℕ) (file : File) → IsAmong (led_into o.levels) n → get disk.standing (Log n) ≡ Some file
      → IsDurable file × ((reading : LogReading) → ReadsLog n file.bytes reading → StaysAsItIs reading)

-- A store may be opened on it. So it is with a disk that was just started with a store, and with one that an opening or a run
-- left.
pub record MayOpen (disk : DiskState) : Type 0 where
  pub files : AllMayStand disk
  -- a manifest that was removed is below one that stands
  pub manifests : (m : ℕ) → get disk.removed (Manifest m) ≢ None
      → (n : ℕ) × (m < n) × (get disk.standing (Manifest n) ≢ None)
  pub as_read : (read : Image) (o : Opening) → IsRead read disk → Opens read (Ok o) → MayOpenAs disk o
