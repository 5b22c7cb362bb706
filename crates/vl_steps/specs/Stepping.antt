-- Steps on files: what they count, and what they come to as rulings have it.
use Rattle.std.specs.Prelude.{ℕ, Option, None, Some, Result, Ok, Err}
use Rattle.vl_engine_laws.specs.Represents.{file_of}
use Rattle.vl_steps.specs.declared.fails.StepFail.{StepFail}
use Rattle.vl_steps.specs.declared.fails.StepFail.TheVariants as fails
use Rattle.vl_engine_model.specs.Decides.{Answered, Failed, NoMemory, Outcome}
use Rattle.vl_engine_model.specs.Ruling.{Exhausted, Halted, Idle, StepAnswer, Stepped}

-- ---- what they come to

abbrev pub step_outcome : Result (Option ℕ) StepFail → Outcome StepAnswer
step_outcome (Ok (Some number)) = Answered (Stepped number)
step_outcome (Ok None) = Answered Idle
step_outcome (Err (fails.Halted name)) = Answered (Halted (file_of name))
step_outcome (Err (fails.Exhausted counter)) = Answered (Exhausted counter)
step_outcome (Err fails.NoMemory) = NoMemory
step_outcome (Err (fails.Disk name)) = Failed (file_of name)

-- the disk failed
abbrev pub StepFailed : {T : Type 0} → Result T StepFail → Type 0
StepFailed (Ok done) = ⊥
StepFailed (Err (fails.Halted name)) = ⊥
StepFailed (Err (fails.Exhausted counter)) = ⊥
StepFailed (Err fails.NoMemory) = ⊥
StepFailed (Err (fails.Disk name)) = Unit {0}

-- nothing was written: all answers but that of a step that was done, and a fault's
abbrev pub StepLeavesDisk : Result (Option ℕ) StepFail → Type 0
StepLeavesDisk (Ok (Some number)) = ⊥
StepLeavesDisk (Ok None) = Unit {0}
StepLeavesDisk (Err (fails.Halted name)) = Unit {0}
StepLeavesDisk (Err (fails.Exhausted counter)) = Unit {0}
StepLeavesDisk (Err fails.NoMemory) = Unit {0}
StepLeavesDisk (Err (fails.Disk name)) = ⊥
