-- What the bytes of a log say, all of them.
use Rattle.std.specs.Prelude.{◌≡◌, ◌≤◌, ℕ, List, [], Bool, false, ◌==◌, length, take, drop, Option, Some, None}
use Rattle.vl_frame.specs.Runs.{ReadsAs}
use Rattle.vl_model.specs.Formats.{log_format}
use Rattle.vl_model.specs.declared.log_frame.LogFrame.{LogFrame}
use Rattle.vl_seglog.specs.Frames.{frames_end, frames_grammar, log_header}

pub record LogReading : Type 0 where
  -- the format in the header that the bytes begin with; none where they begin with no right one
  pub header : Option ℕ
  -- what stands behind it
  pub frames : List LogFrame
  -- whether they end where the frames end
  pub whole : Bool

-- the formats of logs that are read
pub record IsLogFormat (format : ℕ) : Type 0 where
  pub least : 1 ≤ format
  pub greatest : format ≤ log_format

-- The bytes begin with the header of the log with this number: the letters, the format, the number and zero.
abbrev pub HasHeader : ℕ → ℕ → List ℕ → Type 0
HasHeader format number bytes = take 16 bytes ≡ log_header format number

-- The bytes begin with the header in this format, which is read; or with that of no such format.
abbrev pub SaysFormat : Option ℕ → ℕ → List ℕ → Type 0
SaysFormat (Some format) number bytes = IsLogFormat format × HasHeader format number bytes
SaysFormat None number bytes = (format : ℕ) → IsLogFormat format → HasHeader format number bytes → ⊥

-- The frames are all that stand one behind the other from byte 16 on; without the right header there are none.
abbrev pub AreBehind : Option ℕ → ℕ → List ℕ → List LogFrame → Type 0
AreBehind (Some format) number bytes frames = ReadsAs (frames_grammar format) number 16 (drop 16 bytes) frames
AreBehind None number bytes frames = frames ≡ []

-- where the frames of a log end; 0 without the right header
abbrev pub end_of : Option ℕ → List LogFrame → ℕ
end_of (Some format) frames = frames_end format frames
end_of None frames = 0

-- whether the bytes are the header and these frames, and nothing else
abbrev pub is_whole : Option ℕ → List ℕ → List LogFrame → Bool
is_whole (Some format) bytes frames = length bytes == frames_end format frames
is_whole None bytes frames = false

-- That is what the bytes of the log with this number say.
pub record ReadsLog (number : ℕ) (bytes : List ℕ) (reading : LogReading) : Type 0 where
  pub header : SaysFormat reading.header number bytes
  pub frames : AreBehind reading.header number bytes reading.frames
  pub whole : reading.whole ≡ is_whole reading.header bytes reading.frames
