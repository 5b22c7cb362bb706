-- The commit numbers that logs together give, and the first place at which they are damaged.
use Rattle.std.specs.Prelude.{ℕ, ◌+◌, ◌==◌, ◌||◌, Bool, true, false, if◌then◌else◌, List, [], ◌∷◌, length, Option}
use Rattle.std.specs.Prelude.{None, Some, Result, Ok, Err}
use Rattle.vl_model.specs.Formats.{log_format}
use Rattle.vl_model.specs.Frames.{frame_length}
use Rattle.vl_model.specs.declared.log_frame.LogFrame.{LogFrame}
use Rattle.vl_model.specs.declared.log_frame.LogFrame.TheVariants.{Committed, Relocated}
use Rattle.vl_engine_model.specs.Logs.{new_segment}
use Rattle.vl_engine_model.specs.declared.segment.Segment.{Segment}
use Rattle.vl_seglog.specs.LogReading.{LogReading, end_of}
use Rattle.vl_recover.specs.opening.Stages.{on_ok}

-- a log that stands: its number, its length in bytes, and how it reads
pub record StandingLog : Type 0 where
  pub number : ℕ
  pub length : ℕ
  pub reading : LogReading

-- a log with its length and reading, from its bytes
abbrev pub standing_log : ℕ → List ℕ → LogReading → StandingLog
standing_log number bytes reading = record { number = number; length = length bytes; reading = reading }

-- where a log is damaged
pub record LogDamage : Type 0 where
  pub log : ℕ
  pub place : ℕ

-- ---- one log

-- the number of the last commit behind the frame at a place, n being the one before it; or the
-- place, where a commit has another number than the next
abbrev pub counted_frame : ℕ → ℕ → LogFrame → Result ℕ ℕ
counted_frame n place (Committed number writes) = if number == n + 1 then Ok number else Err place
counted_frame n place (Relocated records) = Ok n

-- the same of frames of a log of a format, one behind the other, of which the first stands at a place
abbrev pub counted : ℕ → ℕ → ℕ → List LogFrame → Result ℕ ℕ
counted format n place [] = Ok n
counted format n place (f ∷ fs) =
    on_ok (λ m. counted format m (place + frame_length format f) fs) (counted_frame n place f)

-- the format of a log; without the right header it has no frames, and any would do
abbrev pub format_of : Option ℕ → ℕ
format_of (Some format) = format
format_of None = log_format

-- the same of all frames that stand behind a log's header
abbrev pub counted_behind : Option ℕ → ℕ → List LogFrame → Result ℕ ℕ
counted_behind header n frames = counted (format_of header) n 16 frames

-- where a log's content ends: behind its frames, or at 0 where its header isn't right
abbrev pub content_end : LogReading → ℕ
content_end r = end_of r.header r.frames

-- A log that others follow ends with its frames. One without the right header isn't whole, and its content ends at 0.
abbrev pub counted_whole : ℕ → LogReading → Result ℕ ℕ
counted_whole n r =
    on_ok (λ m. if r.whole then Ok m else Err (content_end r)) (counted_behind r.header n r.frames)

abbrev pub has_some : List LogFrame → Bool
has_some [] = false
has_some (f ∷ fs) = true

-- Whether a log keeps its header where it is the last: one in an older format than the one that is written, which no
-- frames stand behind, is as good as a wrong one.
abbrev pub keeps_header : Option ℕ → List LogFrame → Bool
keeps_header (Some format) frames = (format == log_format) || has_some frames
keeps_header None frames = false

-- ---- logs

abbrev pub in_log : ℕ → Result ℕ ℕ → Result ℕ LogDamage
in_log log (Ok n) = Ok n
in_log log (Err place) = Err (record { log = log; place = place })

-- a log and the ones behind it, of which only the last may lack its header or end otherwise
abbrev pub walked_on : ℕ → StandingLog → List StandingLog → Result ℕ LogDamage
walked_on n q [] = in_log q.number (counted_behind q.reading.header n q.reading.frames)
walked_on n q (p ∷ ps) = on_ok (λ m. walked_on m p ps) (in_log q.number (counted_whole n q.reading))

-- The number of the last commit in these logs, n being the one before the first of them; or the
-- damage: that of the first log, and in it at the first place.
abbrev pub walked : ℕ → List StandingLog → Result ℕ LogDamage
walked n [] = Ok n
walked n (q ∷ qs) = walked_on n q qs

-- the logs that have frames
abbrev pub with_frames : ℕ → Option ℕ → List LogFrame → List Segment → List Segment
with_frames log header [] others = others
with_frames log header (f ∷ fs) others = new_segment (format_of header) log (f ∷ fs) ∷ others

abbrev pub filled : List StandingLog → List Segment
filled [] = []
filled (q ∷ qs) = with_frames q.number q.reading.header q.reading.frames (filled qs)
