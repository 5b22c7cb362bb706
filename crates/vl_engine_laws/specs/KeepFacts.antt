-- What a change of how many versions are kept is made of: in memory, and on the disk.
use Rattle.std.specs.Prelude.{◌≡◌, ◌≢◌, ◌≤◌, ℕ, ◌+◌, ◌-◌, ◌^◌, List, [], ◌∷◌, length, min}
use Rattle.std.specs.Prelude.{Option, None, Some}
use Rattle.vl_back.specs.declared.back.Back.{Back}
use Rattle.vl_disk.specs.Calls.{ChangesNothing}
use Rattle.vl_disk.specs.Disk.{IsChangedBy}
use Rattle.vl_disk.specs.DiskState.{DiskState}
use Rattle.vl_disk.specs.Faults.{after_calls}
use Rattle.vl_disk.specs.Moments.{Elapses}
use Rattle.vl_disk.specs.Performs.{FailedAt, GoesOnTelling, calls_on}
use Rattle.vl_disk.specs.declared.name.Name.TheVariants.{Manifest}
use Rattle.vl_disk.specs.declared.name.Name.{Name}
use Rattle.vl_disk.specs.declared.watched.Watched.{Ghosts}
use Rattle.vl_engine_laws.specs.declared.kept.Core.{Core}
use Rattle.vl_manifest.specs.States.{max_keep}
use Rattle.vl_manifest.specs.Switching.{IsStaged, WhileSwitching, switched}
use Rattle.vl_manifest.specs.declared.edit.Edit.TheVariants.{Keep}
use Rattle.vl_manifest.specs.declared.edit.Edit.{Edit}
use Rattle.vl_manifest.specs.declared.staged.StagedEdits.{StagedEdits}
use Rattle.vl_model.specs.Numbers.{since_kept}

-- ---- whether it may

-- Nothing stands against keeping so many: the engine isn't halted, and it is a number from 1 to 16 other than before.
pub record MayKeep {H : Type 0} (core : Core H) (versions : ℕ) : Type 0 where
  pub running : core.front.halted ≡ None
  pub some : 1 ≤ versions
  pub few : versions ≤ max_keep
  pub other : versions ≢ core.back.state.keep

-- ---- what is written

-- the last commit's number, where more are to be kept than before
abbrev pub next_since : {H : Type 0} → Core H → ℕ → ℕ
next_since core versions = since_kept core.front.oracle.last core.back.state.keep core.back.state.since versions

abbrev pub keep_switch : {H : Type 0} → Core H → ℕ → List Edit
keep_switch core versions = Keep versions (next_since core versions) ∷ []

-- the frame of the switch, at the manifest's end
abbrev pub IsStagedKeep : {H : Type 0} → Core H → ℕ → StagedEdits → Type 0
IsStagedKeep core versions staged = IsStaged core.back.manifest.number core.back.manifest.length (keep_switch core versions) staged

-- the disk once it is written, and what it may be meanwhile
abbrev pub keep_written : {H : Type 0} → Core H → StagedEdits → DiskState → DiskState
keep_written core staged disk = switched core.back.manifest.number staged.frame.items disk

abbrev pub WhileKeeping : {H : Type 0} → Core H → StagedEdits → DiskState → DiskState → Type 0
WhileKeeping core staged disk now = WhileSwitching core.back.manifest.number staged.frame.items disk now

-- First nothing was changed, and from then on the disk was what it is while the switch is written.
pub record WritesKeep {D H : Type 0} (g : Ghosts D) (core : Core H) (staged : StagedEdits) (old new : D) : Type 0 where
  pub mid : D
  pub before : ChangesNothing g old mid ⊥
  pub time : Elapses g mid new (WhileKeeping core staged)
  pub tells : GoesOnTelling (g.told mid) (g.told new)

-- where it failed, the last changing call that was made is on the manifest
abbrev pub StopsKeeping : (manifest before now : ℕ) → Name → Type 0
StopsKeeping manifest before now name = FailedAt (calls_on 2 (Manifest manifest)) before now name

-- The disk has the frame of the switch at the manifest's end, and nothing else of it was changed.
pub record IsKeepWritten {H : Type 0} (core : Core H) (versions : ℕ) (old new : Option DiskState) : Type 0 where
  pub staged : StagedEdits
  pub of : IsStagedKeep core versions staged
  pub changed : IsChangedBy (keep_written core staged) old new

-- ---- what it came to

-- the manifest is longer by the frame, and says what is kept
pub record IsNextBack {H : Type 0} (before : Core H) (after : Back) (versions : ℕ) (staged : StagedEdits) : Type 0 where
  pub number : after.manifest.number ≡ before.back.manifest.number
  pub longer : after.manifest.length ≡ min (before.back.manifest.length + length staged.frame.items) (2 ^ 64 - 1)
  pub state : after.state ≡ record before.back.state { keep = versions; since = next_since before versions }
  pub next_log : after.next_log ≡ before.back.next_log
  pub waiting : after.waiting.items ≡ before.back.waiting.items
  pub epoch : after.epoch ≡ before.back.epoch

-- so many are kept from now on
pub record AreKept {D H : Type 0} (g : Ghosts D) (old new : D) (before after : Core H) (versions : ℕ) : Type 0 where
  pub staged : StagedEdits
  pub of : IsStagedKeep before versions staged
  pub writes : WritesKeep g before staged old new
  pub changed : IsChangedBy (keep_written before staged) (g.told writes.mid) (g.told new)
  pub calls : g.calls new ≡ after_calls 2 (g.calls writes.mid)
  pub front : after.front ≡ before.front
  pub back : IsNextBack before after.back versions staged
  pub version : after.version ≡ before.version

-- it failed at this file, which halts
pub record AreNotKept {D H : Type 0} (g : Ghosts D) (old new : D) (before after : Core H) (versions : ℕ) (name : Name)
    : Type 0 where
  pub staged : StagedEdits
  pub of : IsStagedKeep before versions staged
  pub writes : WritesKeep g before staged old new
  pub stops : StopsKeeping before.back.manifest.number (g.calls old) (g.calls new) name
  pub front : after.front ≡ record before.front { halted = Some name }
  pub state : after.back.state ≡ before.back.state
  pub epoch : after.back.epoch ≡ before.back.epoch
  pub version : after.version ≡ before.version
