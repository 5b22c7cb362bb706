-- An opening's result as its contract sees it.
use Rattle.std.specs.Prelude.{◌≡◌, ℕ, map, Option, None, Some, Result, Ok, Err}
use Rattle.vl_disk.specs.Faults.{NoneCounted}
use Rattle.vl_recover.specs.declared.fails.OpenFail.{OpenFail}
use Rattle.vl_recover.specs.declared.fails.OpenError.{OpenError}
use Rattle.vl_recover.specs.declared.fails.OpenError.TheVariants as why
use Rattle.vl_memtable.specs.Lengths.{one_run}
use Rattle.vl_memtable.specs.declared.frozen_log.FrozenLog.{FrozenLog}
use Rattle.vl_recover.specs.declared.parts.Parts.{Parts}
use Rattle.vl_recover.specs.opening.Answers.{Recovery, Faulted, HeldLog, NoMemory, Opened, Recovered, Refused, UsedUp}
use Rattle.vl_recover.specs.opening.FoundTables.{all_found}
use Rattle.vl_recover.specs.opening.Opening.{Damaged, NewerFormat, NotAStore}

abbrev pub frozen_log : FrozenLog → HeldLog
frozen_log f = record { number = f.number; length = f.length; entries = f.memtable.entries }

-- Its memtable is one run: all entries of the log are sorted at once.
abbrev pub IsOneRun : FrozenLog → Type 0
IsOneRun f = f.memtable.lengths ≡ one_run f.memtable.entries

abbrev pub opened_of : {D H : Type 0} → Parts D H → Opened
opened_of parts = record {
  number = parts.number;
  state = parts.state;
  manifest = parts.manifest.number;
  levels = all_found parts.levels;
  frozen = map frozen_log parts.frozen.items;
  active = parts.active.number;
}

abbrev pub recovery_by : OpenError → Recovery
recovery_by why.NotAStore = Refused NotAStore
recovery_by (why.NewerFormat format) = Refused (NewerFormat format)
recovery_by (why.Damaged name place) = Refused (Damaged name place)
recovery_by (why.Exhausted counter) = UsedUp counter
recovery_by why.NoMemory = NoMemory
recovery_by (why.Disk name) = Faulted name

abbrev pub recovery_of : {D H R : Type 0} → Result (Parts D H) (OpenFail D R) → Recovery
recovery_of (Ok parts) = Recovered (opened_of parts)
recovery_of (Err fail) = recovery_by fail.why

abbrev pub disk_of : {D H R : Type 0} → Result (Parts D H) (OpenFail D R) → D
disk_of (Ok parts) = parts.disk
disk_of (Err fail) = fail.disk

-- how many faults a reader has counted, if there is one
abbrev pub counted : {R : Type 0} → (R → ℕ) → Option R → ℕ
counted faults None = 0
counted faults (Some reader) = faults reader

-- the faults of the reader through which tables were read
abbrev pub read_faults : {D H R : Type 0} → (R → ℕ) → Result (Parts D H) (OpenFail D R) → ℕ
read_faults faults (Ok parts) = 0
read_faults faults (Err fail) = counted faults fail.reader

-- the disk failed
abbrev pub HasFailed : Recovery → Type 0
HasFailed (Recovered opened) = ⊥
HasFailed (Refused refusal) = ⊥
HasFailed (UsedUp counter) = ⊥
HasFailed NoMemory = ⊥
HasFailed (Faulted name) = Unit {0}

-- the disk failed itself, and not the reader, which has counted so many faults
abbrev pub IsDiskFault : ℕ → Recovery → Type 0
IsDiskFault read_faults (Recovered opened) = ⊥
IsDiskFault read_faults (Refused refusal) = ⊥
IsDiskFault read_faults (UsedUp counter) = ⊥
IsDiskFault read_faults NoMemory = ⊥
IsDiskFault read_faults (Faulted name) = NoneCounted read_faults

-- it wasn't opened, and the disk didn't fail
abbrev pub FailsWithoutFault : Recovery → Type 0
FailsWithoutFault (Recovered opened) = ⊥
FailsWithoutFault (Refused refusal) = Unit {0}
FailsWithoutFault (UsedUp counter) = Unit {0}
FailsWithoutFault NoMemory = Unit {0}
FailsWithoutFault (Faulted name) = ⊥
