-- Where the pointers of a layout's tables lead: to records of its sealed logs.
use Rattle.std.specs.Prelude.{◌≡◌, ℕ, ◌==◌, if◌then◌else◌, List, [], ◌∷◌, Option, None, Some, true}
use Rattle.vl_engine_model.specs.Start.{has_frames}
use Rattle.vl_engine_model.specs.Tidy.{sealed}
use Rattle.vl_engine_model.specs.declared.layout.Layout.{Layout}
use Rattle.vl_engine_model.specs.declared.segment.Segment.{Segment}
use Rattle.vl_model.specs.Winners.{Logs}
use Rattle.vl_seglog.specs.Frames.{log_bytes}
use Rattle.vl_seglog.specs.Stored.{stored_at}

-- the log with this number
abbrev pub segment_at : List Segment → ℕ → Option Segment
segment_at [] number = None
segment_at (s ∷ ss) number = if s.number == number then Some s else segment_at ss number

-- the bytes of a log, which has its frames and nothing else
abbrev pub bytes_of_log : Segment → List ℕ
bytes_of_log s = log_bytes s.format s.number s.frames

-- what stands at a pointer in a log
abbrev pub stored_of : Option Segment → Logs
stored_of None pointer key = None
stored_of (Some s) pointer key = stored_at s.format (bytes_of_log s) pointer key

-- what stands there in the one of these logs whose number is the pointer's segment
abbrev pub stored_among : List Segment → Logs
stored_among ss pointer key = stored_of (segment_at ss pointer.segment) pointer key

abbrev pub layout_logs : Layout → Logs
layout_logs l = stored_among (sealed l)

-- One of these logs has the number, and frames: so it may be with a log that tables lead into.
pub record IsFramedAmong (ss : List Segment) (number : ℕ) : Type 0 where
  pub log : Segment
  pub at : segment_at ss number ≡ Some log
  pub framed : has_frames log ≡ true
