-- The frames of logs one behind the other, and the bytes of a log that holds some.
use Rattle.std.specs.Prelude.{ℕ, ◌+◌, List, ◌++◌}
use Rattle.std.specs.List.{sum_by}
use Rattle.vl_frame.specs.Header.{header_bytes}
use Rattle.vl_frame.specs.Runs.{Grammar, item_frame, run_bytes}
use Rattle.vl_frame.specs.declared.kinds.FileKind.TheVariants as files
use Rattle.vl_model.specs.Frames.{frame_length}
use Rattle.vl_model.specs.declared.log_frame.LogFrame.{LogFrame}
use Rattle.vl_seglog.specs.Bodies.{IsFrame, frame_body, frame_kind}
use Rattle.vl_seglog.specs.laws.BodyLaws.{in_log, one_spelling}

-- how frames of logs of a format are spelled
abbrev pub frames_grammar : ℕ → Grammar LogFrame
frames_grammar format = record {
  file = files.Log;
  kind = frame_kind;
  body = frame_body format;
  lawful = IsFrame format;
  in_file = in_log;
  one = one_spelling format;
}

-- the frame at a place of the log of this format with this number
abbrev pub frame_at : ℕ → ℕ → ℕ → LogFrame → List ℕ
frame_at format number at f = item_frame (frames_grammar format) number at f

-- the header of the log with this number, in a format
abbrev pub log_header : ℕ → ℕ → List ℕ
log_header format number = header_bytes files.Log format number

-- the log of this format with this number that holds these frames and nothing else
abbrev pub log_bytes : ℕ → ℕ → List LogFrame → List ℕ
log_bytes format number frames = log_header format number ++ run_bytes (frames_grammar format) number 16 frames

-- where these frames end, of which the first stands at byte 16
abbrev pub frames_end : ℕ → List LogFrame → ℕ
frames_end format frames = 16 + sum_by (frame_length format) frames
