-- What a count of faults tells, also over a disk that tells no bytes.
use Rattle.std.specs.Prelude.{ℕ, Result, Ok, Err}
use Rattle.vl_disk.specs.Faults.{Rose}
use Rattle.vl_steps.specs.declared.fails.MoveFail.{MoveFail}
use Rattle.vl_steps.specs.declared.fails.MoveFail.TheVariants as move

-- A fault was counted between two readings of one count.
pub record WasCounted {T : Type 0} (faults_of : T → ℕ) : Type 0 where
  pub before : T
  pub after : T
  pub rose : Rose (faults_of before) (faults_of after)

-- What failed in a relocation was counted: by what its look-ups read with, or by the disk.
abbrev pub IsMoveCounted : {D R : Type 0} → (D → ℕ) → (R → ℕ) → Result ℕ MoveFail → Type 0
IsMoveCounted faults read_faults (Ok count) = Unit {0}
IsMoveCounted faults read_faults (Err (move.Halted name)) = Unit {0}
IsMoveCounted faults read_faults (Err (move.Exhausted batch counter)) = Unit {0}
IsMoveCounted faults read_faults (Err (move.Full batch length frame)) = Unit {0}
IsMoveCounted faults read_faults (Err (move.NoMemory batch)) = Unit {0}
IsMoveCounted faults read_faults (Err (move.Read name)) = WasCounted read_faults
IsMoveCounted faults read_faults (Err (move.Disk name)) = WasCounted faults
IsMoveCounted faults read_faults (Err (move.Damaged batch name place)) = Unit {0}
