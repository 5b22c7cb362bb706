-- What beginning a new log does, whatever the engine stands for: to the disk, and in memory.
use Rattle.std.specs.Prelude.{◌≡◌, ◌≤◌, ◌<◌, ℕ, List, Option, None, Some, Result, Ok, Err}
use Rattle.vl_disk.specs.Calls.{ChangesNothing}
use Rattle.vl_disk.specs.declared.watched.Watched.{Ghosts}
use Rattle.vl_engine_laws.specs.RotateFacts.{HasBegun, HasStopped, IsSameCore, IsUsedUp}
use Rattle.vl_steps.specs.declared.fails.StepFail.{StepFail}
use Rattle.vl_steps.specs.declared.fails.StepFail.TheVariants as fails
use Rattle.vl_engine_laws.specs.declared.kept.Core.{Core}
use Rattle.vl_engine_model.specs.Decides.{Effects, no_effects}

-- the calls that change a file, where a new log was begun: a create, an append and a sync
abbrev pub rotate_effects : Result (Option ℕ) StepFail → Effects
rotate_effects (Ok (Some number)) = record no_effects { calls = 3 }
rotate_effects (Ok None) = no_effects
rotate_effects (Err why) = no_effects

-- the same, by the number of the log that was sealed
abbrev pub rotate_calls : Option ℕ → ℕ
rotate_calls (Some number) = 3
rotate_calls None = 0

-- ---- whether it may

-- why none is begun: the first of these that holds
abbrev pub IsRefusedSo : {H : Type 0} → Core H → Result (Option ℕ) StepFail → Type 0
IsRefusedSo core (Ok (Some number)) = ⊥
IsRefusedSo core (Ok None) = (core.front.halted ≡ None) × (core.front.log.length ≤ 16)
IsRefusedSo core (Err (fails.Halted name)) = core.front.halted ≡ Some name
IsRefusedSo core (Err (fails.Exhausted counter)) =
    (core.front.halted ≡ None) × (16 < core.front.log.length) × IsUsedUp core.back counter
IsRefusedSo core (Err fails.NoMemory) = ⊥
IsRefusedSo core (Err (fails.Disk name)) = ⊥

-- ---- what it came to

-- so it is with what beginning a log answers
abbrev pub RotatesAs : {D H : Type 0} → Ghosts D → (H → Option (List ℕ)) → (old new : D) → (before after : Core H)
    → Result (Option ℕ) StepFail → Type 0
RotatesAs g bytes old new before after (Ok (Some number)) =
    (number ≡ before.front.log.number) × HasBegun g bytes old new before after
RotatesAs g bytes old new before after (Ok None) = ⊥
RotatesAs g bytes old new before after (Err (fails.Halted name)) = ⊥
RotatesAs g bytes old new before after (Err (fails.Exhausted counter)) = ⊥
RotatesAs g bytes old new before after (Err fails.NoMemory) = IsSameCore before after × ChangesNothing g old new ⊥
RotatesAs g bytes old new before after (Err (fails.Disk name)) = HasStopped g old new before after name
