-- What a staged frame is, and where it belongs.
use Rattle.std.specs.Prelude.{◌≡◌, ◌+◌, ◌<◌, ◌^◌, ℕ, List, [], ◌∷◌, length}
use Rattle.vl_frame.specs.Runs.{HasFrame}
use Rattle.vl_model.specs.Formats.{log_format}
use Rattle.vl_model.specs.declared.log_frame.LogFrame.{LogFrame}
use Rattle.vl_seglog.specs.Frames.{frame_at, frames_grammar}
use Rattle.vl_seglog.specs.Stored.{frame_pointers}
use Rattle.vl_seglog.specs.declared.active.ActiveLog.{ActiveLog}
use Rattle.vl_seglog.specs.declared.staged.Staged.{Staged}

-- what stands before a frame's body until its head is written
abbrev pub head_room : List ℕ
head_room = 0 ∷ 0 ∷ 0 ∷ 0 ∷ 0 ∷ []

-- It was staged for this log's end.
pub record IsStagedFor (log : ActiveLog) (staged : Staged) : Type 0 where
  pub number : staged.log ≡ log.number
  pub place : staged.place ≡ log.length

-- It is the frame f as it is spelled for this place of the log with this number, which has the format that is
-- written.
pub record IsStaged (number place : ℕ) (f : LogFrame) (staged : Staged) : Type 0 where
  pub frame : staged.frame.items ≡ frame_at log_format number place f
  -- one pointer for each record, to where the record lies then
  pub pointers : staged.pointers.items ≡ frame_pointers log_format number place f
  pub has : HasFrame (frames_grammar log_format) f
  pub short : length staged.frame.items < 2 ^ 32
  -- the log stays below 2^64 bytes
  pub fits : place + length staged.frame.items < 2 ^ 64
