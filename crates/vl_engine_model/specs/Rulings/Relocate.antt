-- The records of a batch that still win exactly are written again, in the active log.
use Rattle.std.specs.Prelude.{ℕ, ◌+◌, nat_le, if◌then◌else◌, List, [], ◌∷◌, ◌++◌, map, length, Option, Some, None}
use Rattle.vl_model.specs.History.{History, last_number}
use Rattle.vl_model.specs.Frames.{frame_length}
use Rattle.vl_model.specs.declared.counter.Counter.{Counter}
use Rattle.vl_model.specs.declared.counter.Counter.TheVariants as counter
use Rattle.vl_model.specs.declared.log_frame.LogFrame.TheVariants.{Relocated}
use Rattle.vl_model.specs.declared.log_frame.Moved.{Moved}
use Rattle.vl_engine_model.specs.Relocation.{Pass, Candidate, moved_of}
use Rattle.vl_engine_model.specs.Sources.{sources}
use Rattle.vl_engine_model.specs.Ruling.{Ruling, leaving, logged, has_no_epoch}
use Rattle.vl_engine_model.specs.declared.file_name.FileName.{FileName}
use Rattle.vl_engine_model.specs.declared.job.OpenJob.{OpenJob}
use Rattle.vl_engine_model.specs.declared.layout.Layout.{Layout}

pub data MoveAnswer : Type 0 where
  -- so many records
  Moves : ℕ → MoveAnswer
  Halted : FileName → MoveAnswer
  Exhausted : Counter → MoveAnswer
  -- the length of the active log, and that of the frame
  Full : ℕ → ℕ → MoveAnswer

-- the keys of these records, each with the epoch that their move made
abbrev pub moves_at : ℕ → List Moved → List (List ℕ × ℕ)
moves_at number moved = map (λ (m : Moved). (m.key, number)) moved

-- an open job is told of them
abbrev pub with_moves : ℕ → List Moved → Option OpenJob → Option OpenJob
with_moves number moved None = None
with_moves number moved (Some job) = Some (record job { moved = moves_at number moved ++ job.moved })

abbrev pub relocated : Layout → List Moved → Layout
relocated l moved = logged (Relocated moved) (record l {
  epoch = l.epoch + 1;
  job = with_moves (l.epoch + 1) moved l.job;
})

-- by the records that are moved
abbrev pub relocate_of : Layout → History → List Moved → Ruling MoveAnswer
relocate_of l h [] = leaving (Moves 0) h l
relocate_of l h (m ∷ ms) =
    if has_no_epoch l then leaving (Exhausted counter.Version) h l
    else (if nat_le (l.active.length + frame_length l.active.format (Relocated (m ∷ ms))) l.room
    then record { answer = Moves (length (m ∷ ms)); history = h; layout = relocated l (m ∷ ms); calls = 2; gone = [] }
    else leaving (Full l.active.length (frame_length l.active.format (Relocated (m ∷ ms)))) h l)

abbrev pub relocate_unless : Option FileName → Layout → History → Pass → List Candidate
    → Ruling MoveAnswer
relocate_unless (Some name) l h pass batch = leaving (Halted name) h l
relocate_unless None l h pass batch =
    relocate_of l h (moved_of (sources l) pass.segment (last_number h) batch)

-- of a batch that this pass gave
abbrev pub relocate_ruling : Layout → History → Pass → List Candidate → Ruling MoveAnswer
relocate_ruling l h pass batch = relocate_unless l.halted l h pass batch
