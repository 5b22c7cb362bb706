-- What making a table of the oldest memtable does, whatever the engine stands for: to the disk, and in memory.
use Rattle.std.specs.Prelude.{◌≡◌, ℕ, List, Option, None, Some, Result, Ok, Err}
use Rattle.vl_disk.specs.Calls.{ChangesNothing}
use Rattle.vl_disk.specs.declared.watched.Watched.{Ghosts}
use Rattle.vl_engine_laws.specs.FlushFacts.{IsTableMade, IsTableUnmade}
use Rattle.vl_steps.specs.declared.fails.StepFail.TheVariants as fails
use Rattle.vl_steps.specs.declared.fails.StepFail.{StepFail}
use Rattle.vl_engine_laws.specs.declared.kept.Core.{Core}
use Rattle.vl_engine_model.specs.Decides.{Effects, no_effects}

-- the calls that change a file, where a table was made: three make it, and two name it in the manifest
abbrev pub flush_effects : Result (Option ℕ) StepFail → Effects
flush_effects (Ok (Some number)) = record no_effects { calls = 5 }
flush_effects (Ok None) = no_effects
flush_effects (Err why) = no_effects

-- ---- what it came to

-- so it is with what making a table answers
abbrev pub FlushesAs : {D H : Type 0} → Ghosts D → (H → Option (List ℕ)) → (old new : D) → (before after : Core H)
    → Result (Option ℕ) StepFail → Type 0
FlushesAs g bytes old new before after (Ok (Some number)) =
    (number ≡ before.back.state.next_table) × IsTableMade g bytes old new before after
FlushesAs g bytes old new before after (Ok None) = ⊥
FlushesAs g bytes old new before after (Err (fails.Halted name)) = ⊥
FlushesAs g bytes old new before after (Err (fails.Exhausted counter)) = ⊥
FlushesAs g bytes old new before after (Err fails.NoMemory) = (after ≡ before) × ChangesNothing g old new ⊥
FlushesAs g bytes old new before after (Err (fails.Disk name)) = IsTableUnmade g old new before after name
