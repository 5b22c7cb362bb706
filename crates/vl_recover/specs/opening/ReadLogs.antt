-- Logs that were read, without where they lie in memory.
use Rattle.std.specs.Prelude.{◌≡◌, ℕ, ◌+◌, Bool, true, false, ◌&&◌, ◌==◌, if◌then◌else◌, List, [], ◌++◌, map, reverse}
use Rattle.std.specs.Prelude.{Option, None, Result, Ok, Err, is_some}
use Rattle.vl_frame.specs.Runs.{ReadsAs}
use Rattle.vl_engine_model.specs.Logs.{logged_body, logged_entries}
use Rattle.vl_model.specs.Entries.{in_order}
use Rattle.vl_model.specs.declared.entry.Entry.{Entry}
use Rattle.vl_model.specs.declared.log_frame.LogFrame.{LogFrame}
use Rattle.vl_recover.specs.declared.found.Content.{Content}
use Rattle.vl_recover.specs.declared.found.LogFound.{LogFound}
use Rattle.vl_recover.specs.opening.Answers.{HeldLog}
use Rattle.vl_recover.specs.opening.Stages.{on_ok}
use Rattle.vl_recover.specs.opening.Walk.{StandingLog, content_end, counted, counted_behind, counted_frame, format_of, has_some}
use Rattle.vl_seglog.specs.Frames.{frames_end, frames_grammar}
use Rattle.vl_seglog.specs.LogReading.{LogReading}
use Rattle.vl_seglog.specs.Reading.{frame_of}
use Rattle.vl_seglog.specs.declared.frame.Frame.{Frame}
use Rattle.vl_seglog.specs.declared.frame.ReadRecord.{ReadRecord}
use Rattle.vl_seglog.specs.declared.frame.Said.{Said}
use Rattle.vl_seglog.specs.declared.frame.Said.TheVariants as says

-- ---- entries

-- the entry that a memtable has of a record
abbrev pub entry_of : ReadRecord → Entry
entry_of r = record { key = r.key; version = r.version; body = logged_body r.change r.pointer }

abbrev pub entries_in : Said → List Entry
entries_in (says.Commit c) = map entry_of c.records.items
entries_in (says.Moves records) = map entry_of records.items

-- the entries of what stands behind a log's header, those of the last frame first
abbrev pub entries_behind : ℕ → Option ℕ → List LogFrame → List Entry
entries_behind log header frames = logged_entries (format_of header) log 16 frames

-- ---- counts

abbrev pub counted_frame_on : Result ℕ ℕ → ℕ → LogFrame → Result ℕ ℕ
counted_frame_on count place f = on_ok (λ n. counted_frame n place f) count

-- what the frames of a log give counts where it ends there, or no other follows it
abbrev pub ended : Result ℕ ℕ → ℕ → Bool → Bool → Result ℕ ℕ
ended count end whole true = on_ok (λ n. if whole then Ok n else Err end) count
ended count end whole false = count

-- ---- frames

-- it has no frames
pub record HasNothing (end before : ℕ) (c : Content) : Type 0 where
  pub end_is : c.end ≡ end
  pub count_is : c.count ≡ Ok before
  pub entries_are : c.entries.items ≡ []
  pub none : c.has_frames ≡ false

-- it has one frame more
pub record HasFrameMore (old : Content) (f : Frame) (new : Content) : Type 0 where
  pub end_is : new.end ≡ f.place + f.length
  pub count_is : new.count ≡ counted_frame_on old.count f.place (frame_of f)
  pub entries_are : new.entries.items ≡ old.entries.items ++ reverse (entries_in f.said)
  pub some : new.has_frames ≡ true

-- it is what these frames come to
pub record HasFrames (format log before : ℕ) (frames : List LogFrame) (c : Content) : Type 0 where
  pub end_is : c.end ≡ frames_end format frames
  pub count_is : c.count ≡ counted format before 16 frames
  pub entries_are : c.entries.items ≡ reverse (logged_entries format log 16 frames)
  pub some : c.has_frames ≡ has_some frames

-- it is what the bytes say behind a header
pub record IsContent (format log before : ℕ) (bytes : List ℕ) (c : Content) : Type 0 where
  pub frames : List LogFrame
  pub reads : ReadsAs (frames_grammar format) log 16 bytes frames
  pub has : HasFrames format log before frames c

-- ---- logs

-- The log is read so. The commit before it has this number.
pub record IsReadAs (before : ℕ) (reading : LogReading) (log : LogFound) : Type 0 where
  pub format_is : log.format ≡ reading.header
  pub end_is : log.content.end ≡ content_end reading
  pub count_is : log.content.count ≡ counted_behind reading.header before reading.frames
  pub entries_are : log.content.entries.items ≡ reverse (entries_behind log.number reading.header reading.frames)
  pub some : log.content.has_frames ≡ has_some reading.frames
  pub headless : reading.header ≡ None → reading.frames ≡ []
  pub whole : reading.whole ≡ (is_some log.format && (log.content.end == log.length))

abbrev pub standing_log : LogFound → LogReading → StandingLog
standing_log log reading = record { number = log.number; length = log.length; reading = reading }

-- what it holds
abbrev pub held_content : ℕ → Content → HeldLog
held_content log c = record { number = log; length = c.end; entries = in_order (reverse c.entries.items) }
