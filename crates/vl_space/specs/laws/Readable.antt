-- The logs over which a pass may go can be read frame by frame: at the start, and behind each flush and each install.
use Rattle.std.specs.Prelude.{◌≡◌, ℕ, ◌+◌, Bool, true, false, not, nat_lt, if◌then◌else◌, List, [], ◌∷◌, Option, None, Some, refl}
use Rattle.std.specs.List.{AllByRecursion, filter}
use Rattle.std.proofs.Common.{sym, subst, inl, inr}
use Rattle.vl_engine_laws.specs.Begun.{as_led, layout_begun, led_below}
use Rattle.vl_engine_laws.specs.Files.{IsLogFile}
use Rattle.vl_engine_laws.specs.Passing.{AreReadable}
use Rattle.vl_engine_laws.specs.Shown.{HasFramedAmong, Shown}
use Rattle.vl_engine_laws.specs.laws.FileLaws.{all_filtered, all_more}
use Rattle.vl_disk.specs.Crash.{Image}
use Rattle.vl_frame.specs.Runs.{HasFrame}
use Rattle.vl_engine_model.specs.Logs.{new_segment}
use Rattle.vl_engine_model.specs.Sources.{oldest}
use Rattle.vl_engine_model.specs.Start.{has_frames}
use Rattle.vl_engine_model.specs.declared.segment.Segment.{Segment}
use Rattle.vl_model.specs.History.{History, last_number}
use Rattle.vl_model.specs.declared.log_frame.LogFrame.{LogFrame}
use Rattle.vl_recover.specs.opening.Answers.{Finds, and_made, as_segments, last_format, logs_then}
use Rattle.vl_recover.specs.opening.HeldFiles.{but_last}
use Rattle.vl_recover.specs.opening.Opening.{IsAmong, StandingLogs, led_into}
use Rattle.vl_recover.specs.opening.Plans.{log_made, new_state}
use Rattle.vl_recover.specs.opening.Walk.{StandingLog, format_of}
use Rattle.vl_seglog.specs.Frames.{frames_grammar}
use Rattle.vl_seglog.specs.LogReading.{AreBehind, IsLogFormat, LogReading, ReadsLog}
use Rattle.vl_seglog.specs.laws.LogReadingLaws.{log_apart, written_is_read}

-- ---- at the start

-- A log is left with the frames that are read, in the format of its header. One without the right header has none.
read_so : (number : ℕ) (bytes : List ℕ) (reading : LogReading) → ReadsLog number bytes reading
    → IsLogFile (new_segment (format_of reading.header) number reading.frames)
read_so number bytes reading reads = by reading.header refl
  where
    by : (header : Option ℕ) → reading.header ≡ header
        → IsLogFile (new_segment (format_of reading.header) number reading.frames)
    by None e = record {
      readable = subst (λ (o : Option ℕ). IsLogFormat (format_of o)) (sym e) written_is_read;
      have = subst (AllByRecursion (HasFrame (frames_grammar (format_of reading.header))))
          (sym (subst (λ (o : Option ℕ). AreBehind o number bytes reading.frames) e reads.frames)) tt;
    }
    by (Some f) e = let apart = log_apart number bytes reading reads f e in record {
      readable = subst (λ (o : Option ℕ). IsLogFormat (format_of o)) (sym e) apart.is_read;
      have = subst (λ (o : Option ℕ). AllByRecursion (HasFrame (frames_grammar (format_of o))) reading.frames) (sym e) apart.have;
    }

-- the last one is left in the format that is written, where it has none
last_so : (number : ℕ) (header : Option ℕ) (frames : List LogFrame) → IsLogFile (new_segment (format_of header) number frames)
    → IsLogFile (new_segment (last_format header frames) number frames)
last_so number header [] is = record { readable = written_is_read; have = tt }
last_so number header (f ∷ fs) is = is

all_read : (image : Image) (least : ℕ) (logs : List StandingLog) → StandingLogs image least logs
    → AllByRecursion IsLogFile (as_segments logs)
all_read image least [] standing = tt
all_read image least (q ∷ []) standing =
    let next = standing.0 in
    (last_so q.number q.reading.header q.reading.frames (read_so q.number next.bytes q.reading next.reads), tt)
all_read image least (q ∷ p ∷ ps) standing =
    let next = standing.0 in
    (read_so q.number next.bytes q.reading next.reads, all_read image (q.number + 1) (p ∷ ps) standing.1)

all_made : (o : Option ℕ) → AllByRecursion IsLogFile (and_made o)
all_made None = tt
all_made (Some k) = (record { readable = written_is_read; have = tt }, tt)

all_before : (ss : List Segment) → AllByRecursion IsLogFile ss → AllByRecursion IsLogFile (but_last ss)
all_before [] all = tt
all_before (s ∷ []) all = tt
all_before (s ∷ t ∷ ss) all = (all.0, all_before (t ∷ ss) all.1)

all_below : {image : Image} {among : List Segment} (head : ℕ) (ns : List ℕ) (led : (n : ℕ) → IsAmong ns n → HasFramedAmong image among n)
    → AllByRecursion IsLogFile (led_below head ns led)
all_below head [] led = tt
all_below {image} {among} head (n ∷ ns) led = by (nat_lt n head) (all_below head ns (λ m is. led m (inr is)))
  where
    first : HasFramedAmong image among n
    first = led n (inl refl)

    by : (b : Bool) → AllByRecursion IsLogFile (led_below head ns (λ m is. led m (inr is)))
        → AllByRecursion IsLogFile (if b then as_led n first ∷ led_below head ns (λ m is. led m (inr is))
        else led_below head ns (λ m is. led m (inr is)))
    by true later = (record { readable = first.has.is.readable; have = first.has.is.have }, later)
    by false later = later

-- The logs that were found, and those into which tables lead, can be read.
pub begun_readable : {read : Image} (found : Finds read) (h : History) (shown : Shown read h (last_number h)) (room : ℕ)
    → AreReadable (layout_begun room found shown (but_last (logs_then found)))
begun_readable {read} found h shown room =
    all_more IsLogFile (filter (λ (s : Segment). not (has_frames s)) (but_last (logs_then found)))
    (led_below found.opening.state.head (led_into shown.opening.levels) shown.led)
    (all_filtered IsLogFile (λ (s : Segment). not (has_frames s)) (but_last (logs_then found))
    (all_before (logs_then found)
    (all_more IsLogFile (as_segments found.logs) (and_made (log_made (new_state found.greatest found.opening.state) found.logs))
    (all_read read found.opening.state.head found.logs found.standing)
    (all_made (log_made (new_state found.greatest found.opening.state) found.logs)))))
    (all_below found.opening.state.head (led_into shown.opening.levels) shown.led)

-- ---- behind a switch

-- the oldest is one of them
pub oldest_readable : (ss : List Segment) (s : Segment) → oldest ss ≡ Some s → AllByRecursion IsLogFile ss → IsLogFile s
oldest_readable [] s is all = absurd (let no : None ≡ Some s = is in cc)
oldest_readable (t ∷ []) s is all = subst IsLogFile (one is) all.0
  where
    one : Some t ≡ Some s → t ≡ s
    one e = cc
oldest_readable (t ∷ u ∷ ss) s is all = oldest_readable (u ∷ ss) s is all.1
