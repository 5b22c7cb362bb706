-- What a new log is made of: in memory, and on the disk.
use Rattle.std.specs.Prelude.{◌≡◌, ◌≤◌, ◌<◌, ℕ, ◌+◌, List, [], ◌∷◌, ◌++◌, Option, None, Some}
use Rattle.std.specs.Option.{ForSome}
use Rattle.vl_back.specs.Deciding.{MayRotate}
use Rattle.vl_back.specs.declared.back.Back.{Back}
use Rattle.vl_disk.specs.Crash.{Unchanged}
use Rattle.vl_disk.specs.Disk.{IsChangedBy}
use Rattle.vl_disk.specs.DiskState.{DiskState, file_at}
use Rattle.vl_disk.specs.Faults.{after_calls}
use Rattle.vl_disk.specs.MadeFile.{WhileMaking, made}
use Rattle.vl_disk.specs.Moments.{Elapses}
use Rattle.vl_disk.specs.Performs.{FailedAt, GoesOnTelling, calls_on}
use Rattle.vl_disk.specs.declared.name.Name.{Name}
use Rattle.vl_disk.specs.declared.name.Name.TheVariants.{Log}
use Rattle.vl_disk.specs.declared.watched.Watched.{Ghosts}
use Rattle.vl_engine_laws.specs.Pointed.{bytes_of_log}
use Rattle.vl_engine_laws.specs.declared.kept.Core.{Core}
use Rattle.vl_engine_model.specs.declared.layout.Layout.{Layout}
use Rattle.vl_model.specs.Formats.{log_format}
use Rattle.vl_model.specs.Limits.{max_file_number, max_epoch}
use Rattle.vl_model.specs.declared.counter.Counter.{Counter}
use Rattle.vl_model.specs.declared.counter.Counter.TheVariants as counters
use Rattle.vl_seglog.specs.Frames.{log_header}
use Rattle.vl_seglog.specs.declared.sealed.SealedLog.{SealedLog}
use Rattle.vl_version.specs.Rotating.{IsRotated}
use Rattle.vl_version.specs.declared.version.Version.{Version}

-- ---- whether it may

-- Nothing stands against a new log: the engine isn't halted, a commit stands in the active one, and numbers are left.
pub record MayBegin {H : Type 0} (core : Core H) : Type 0 where
  pub running : core.front.halted ≡ None
  pub long : 16 < core.front.log.length
  pub may : MayRotate core.back

-- no number of this kind is left
abbrev pub IsUsedUp : Back → Counter → Type 0
IsUsedUp back counters.Commit = ⊥
IsUsedUp back counters.Log = max_file_number < back.next_log
IsUsedUp back counters.Table = ⊥
IsUsedUp back counters.Manifest = ⊥
IsUsedUp back counters.Version = (back.next_log ≤ max_file_number) × (max_epoch ≤ back.epoch)

-- ---- memory

-- The version behind the rotation of the active log, which is held with the bytes that the disk has of it.
pub record IsNextVersion {H : Type 0} (bytes : H → Option (List ℕ)) (told : Option DiskState) (before : Core H)
    (next : Version H) : Type 0 where
  pub log : SealedLog H
  pub is : IsRotated bytes before.version before.front.log.length log next
  pub number : log.number ≡ before.front.log.number
  pub format : log.format ≡ log_format
  pub held : ForSome told (λ state. bytes log.held ≡ Some (file_at state (Log before.front.log.number)).bytes)

-- the disk has the active log with the layout's frames, and nothing behind them
abbrev pub HasActive : Layout → DiskState → Type 0
HasActive l state = (file_at state (Log l.active.number)).bytes ≡ bytes_of_log l.active

-- what steps on files need is as it was, but for room in memory
pub record IsSameBack (before after : Back) : Type 0 where
  pub manifest : after.manifest ≡ before.manifest
  pub state : after.state ≡ before.state
  pub next_log : after.next_log ≡ before.next_log
  pub epoch : after.epoch ≡ before.epoch
  pub waiting : after.waiting.items ≡ before.waiting.items

-- and so is all else
pub record IsSameCore {H : Type 0} (before after : Core H) : Type 0 where
  pub front : after.front ≡ before.front
  pub version : after.version ≡ before.version
  pub back : IsSameBack before.back after.back

-- The log that was active waits for its flush, behind which all commits up to the last one are covered.
pub record IsNextBack {H : Type 0} (before : Core H) (after : Back) : Type 0 where
  pub manifest : after.manifest ≡ before.back.manifest
  pub state : after.state ≡ before.back.state
  pub next_log : after.next_log ≡ before.back.next_log + 1
  pub epoch : after.epoch ≡ before.back.epoch + 1
  pub waiting : after.waiting.items
      ≡ before.back.waiting.items ++ record { number = before.front.log.number; covered = before.front.oracle.last } ∷ []

-- ---- the disk

-- the new log's name, and its bytes
abbrev pub next_name : {H : Type 0} → Core H → Name
next_name core = Log core.back.next_log

abbrev pub next_header : {H : Type 0} → Core H → List ℕ
next_header core = log_header log_format core.back.next_log

-- First nothing was changed, and from then on the disk was what it is while the new log is made.
pub record BeginsLog {D H : Type 0} (g : Ghosts D) (core : Core H) (old new : D) : Type 0 where
  pub mid : D
  pub told : g.told mid ≡ g.told old
  pub calls : g.calls mid ≡ g.calls old
  pub quiet : Elapses g old mid Unchanged
  pub time : Elapses g mid new (WhileMaking (next_name core) (next_header core))
  pub tells : GoesOnTelling (g.told mid) (g.told new)

-- Where it failed: the active log was to be held, and no changing call was made; or the new one was made, by three calls, of
-- which the last that was made failed.
pub data StopsRotating (active next : ℕ) (before now : ℕ) (name : Name) : Type 0 where
  at_hold : name ≡ Log active → now ≡ before → StopsRotating active next before now name
  at_new_log : FailedAt (calls_on 3 (Log next)) before now name → StopsRotating active next before now name

-- ---- what it came to

-- the new log is the active one
pub record HasBegun {D H : Type 0} (g : Ghosts D) (bytes : H → Option (List ℕ)) (old new : D) (before after : Core H)
    : Type 0 where
  pub begins : BeginsLog g before old new
  pub changed : IsChangedBy (made (next_name before) (next_header before)) (g.told begins.mid) (g.told new)
  pub calls : g.calls new ≡ after_calls 3 (g.calls begins.mid)
  pub front : after.front ≡ record before.front { log = record { number = before.back.next_log; length = 16 } }
  pub back : IsNextBack before after.back
  pub version : IsNextVersion bytes (g.told old) before after.version

-- it failed at this file, which halts
pub record HasStopped {D H : Type 0} (g : Ghosts D) (old new : D) (before after : Core H) (name : Name) : Type 0 where
  pub begins : BeginsLog g before old new
  pub stops : StopsRotating before.front.log.number before.back.next_log (g.calls old) (g.calls new) name
  pub front : after.front ≡ record before.front { halted = Some name }
  pub back : IsSameBack before.back after.back
  pub version : after.version ≡ before.version
