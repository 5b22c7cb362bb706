-- What a change of how many versions are kept does, whatever the engine stands for: to the disk, and in memory.
use Rattle.std.specs.Prelude.{◌≡◌, ◌==◌, ℕ, if◌then◌else◌}
use Rattle.std.specs.Prelude.{Result, Ok, Err}
use Rattle.vl_disk.specs.Calls.{ChangesNothing}
use Rattle.vl_disk.specs.declared.watched.Watched.{Ghosts}
use Rattle.vl_engine_laws.specs.Represents.{file_of}
use Rattle.vl_engine_laws.specs.KeepFacts.{AreKept, AreNotKept}
use Rattle.vl_steps.specs.declared.fails.KeepFail.TheVariants as fails
use Rattle.vl_steps.specs.declared.fails.KeepFail.{KeepFail}
use Rattle.vl_engine_laws.specs.declared.kept.Core.{Core}
use Rattle.vl_engine_model.specs.Decides.{Answered, Effects, Failed, NoMemory, Outcome, no_effects}
use Rattle.vl_engine_model.specs.Rulings.Keep.{Halted, InvalidRequest, KeepAnswer, Kept}

-- ---- what it comes to, as the ruling has it

abbrev pub keep_outcome : Result (Unit {0}) KeepFail → Outcome KeepAnswer
keep_outcome (Ok done) = Answered Kept
keep_outcome (Err (fails.Halted name)) = Answered (Halted (file_of name))
keep_outcome (Err fails.InvalidRequest) = Answered InvalidRequest
keep_outcome (Err fails.NoMemory) = NoMemory
keep_outcome (Err (fails.Disk name)) = Failed (file_of name)

-- so many changing calls, where so many versions were kept and so many are to be: none, or an append and a sync
abbrev pub keep_calls : (before versions : ℕ) → ℕ
keep_calls before versions = if versions == before then 0 else 2

abbrev pub keep_effects : (before versions : ℕ) → Result (Unit {0}) KeepFail → Effects
keep_effects before versions (Ok done) = record no_effects { calls = keep_calls before versions }
keep_effects before versions (Err why) = no_effects

-- the disk failed
abbrev pub KeepFailed : Result (Unit {0}) KeepFail → Type 0
KeepFailed (Ok done) = ⊥
KeepFailed (Err (fails.Halted name)) = ⊥
KeepFailed (Err fails.InvalidRequest) = ⊥
KeepFailed (Err fails.NoMemory) = ⊥
KeepFailed (Err (fails.Disk name)) = Unit {0}

-- nothing was written: all answers but that of a change, and a fault's
abbrev pub KeepLeavesDisk : (before versions : ℕ) → Result (Unit {0}) KeepFail → Type 0
KeepLeavesDisk before versions (Ok done) = versions ≡ before
KeepLeavesDisk before versions (Err (fails.Halted name)) = Unit {0}
KeepLeavesDisk before versions (Err fails.InvalidRequest) = Unit {0}
KeepLeavesDisk before versions (Err fails.NoMemory) = Unit {0}
KeepLeavesDisk before versions (Err (fails.Disk name)) = ⊥

-- ---- what it came to

-- so it is with what writing the change answers
abbrev pub KeepsAs : {D H : Type 0} → Ghosts D → (old new : D) → (before after : Core H) → ℕ → Result (Unit {0}) KeepFail → Type 0
KeepsAs g old new before after versions (Ok done) = AreKept g old new before after versions
KeepsAs g old new before after versions (Err (fails.Halted name)) = ⊥
KeepsAs g old new before after versions (Err fails.InvalidRequest) = ⊥
KeepsAs g old new before after versions (Err fails.NoMemory) = (after ≡ before) × ChangesNothing g old new ⊥
KeepsAs g old new before after versions (Err (fails.Disk name)) = AreNotKept g old new before after versions name
