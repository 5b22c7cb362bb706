-- Why no store was opened, and what is left of its disk.
use Rattle.std.specs.Prelude.{◌≡◌, ℕ, Some}
use Rattle.vl_disk.specs.Crash.{Image}
use Rattle.vl_disk.specs.DiskState.{DiskState}
use Rattle.vl_disk.specs.Faults.{HasCause, HasCounted}
use Rattle.vl_disk.specs.Started.{IsRead}
use Rattle.vl_disk.specs.declared.watched.Watched.{Ghosts}
use Rattle.vl_engine.specs.Opening.{IsAsBefore, IsDiskFault, IsFault}
use Rattle.vl_engine_laws.specs.Carries.{CrashesShow}
use Rattle.vl_engine_laws.specs.Found.{IsDurable}
use Rattle.vl_engine_laws.specs.Shown.{Shown}
use Rattle.vl_model.specs.History.{History, last_number}
use Rattle.vl_recover.specs.crash.Starts.{MayOpen}
use Rattle.vl_recover.specs.declared.fails.OpenError.{OpenError}
use Rattle.vl_recover.specs.declared.fails.OpenError.TheVariants as why
use Rattle.vl_recover.specs.declared.fails.OpenFail.{OpenFail}
use Rattle.vl_recover.specs.opening.Answers.{AnswersBy}
use Rattle.vl_recover.specs.opening.Results.{counted, recovery_by}

-- it is refused by what stands on the disk: neither did that fail, nor did memory run out
abbrev pub IsRefusal : OpenError → Type 0
IsRefusal why.NotAStore = Unit {0}
IsRefusal (why.NewerFormat format) = Unit {0}
IsRefusal (why.Damaged name place) = Unit {0}
IsRefusal (why.Exhausted counter) = Unit {0}
IsRefusal why.NoMemory = ⊥
IsRefusal (why.Disk name) = ⊥

-- why a store wasn't opened on this disk, and what is left of it
pub record IsRefusedOpening {D R : Type 0} (g : Ghosts D) (faults_of : R → ℕ) (disk : D) (fail : OpenFail D R) : Type 0 where
  -- it is refused by what reads give
  pub answer : (state : DiskState) (read : Image) → g.told disk ≡ Some state → IsRead read state → AnswersBy read (recovery_by fail.why)
  -- a fault is counted, by the disk or by the reader that is handed back
  pub cause : HasCause (g.faults disk) (g.faults fail.disk) (IsDiskFault (counted faults_of fail.reader) (Some fail.why))
  -- what that reader failed at is answered as a fault
  pub read_fault : HasCounted (counted faults_of fail.reader) → IsFault (Some fail.why)
  -- a refusal changes nothing
  pub left_alone : IsRefusal fail.why → IsAsBefore g disk fail.disk
  -- what a crash meanwhile leaves shows the same history
  pub through : (state : DiskState) (read : Image) (h : History) → g.told disk ≡ Some state → IsDurable state → IsRead read state
      → Shown read h (last_number h) → CrashesShow g disk fail.disk h h
  -- and a store may be opened there again
  pub again : (state now : DiskState) → g.told disk ≡ Some state → MayOpen state → g.told fail.disk ≡ Some now → MayOpen now
