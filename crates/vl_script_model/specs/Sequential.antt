-- The store as one thread of script lines sees it: what each line is answered, and what it leaves. The store is vl_engine_model's; of
-- the disk it counts bytes, changing calls and files.
use Rattle.std.specs.Prelude.{◌≡◌, ◌+◌, ◌-◌, ◌^◌, ℕ, min, Bool, List, [], map}
use Rattle.vl_disk.specs.Faults.{after_calls}
use Rattle.vl_engine_model.specs.Store.Commits.{history_in}
use Rattle.vl_engine_model.specs.Store.Dispatch.{step_of}
use Rattle.vl_engine_model.specs.Store.Lines as store
use Rattle.vl_engine_model.specs.Store.Reading.{rows_told}
use Rattle.vl_engine_model.specs.Store.Things as things
use Rattle.vl_engine_model.specs.Store.Things.{Step}
use Rattle.vl_engine_model.specs.declared.segment.SegmentStat.{SegmentStat}
use Rattle.vl_model.specs.History.{History}
use Rattle.vl_model.specs.Keys.{Row, untagged}
use Rattle.vl_script.specs.Script.{rows_text, segments_text, text_of}
use Rattle.vl_script.specs.declared.line.Line.{Line}
use Rattle.vl_script.specs.declared.line.Line.TheVariants as lines
use Rattle.vl_script.specs.declared.answer.Answer.{Answer}
use Rattle.vl_script.specs.declared.answer.SegmentLine.{SegmentLine}
use Rattle.vl_script.specs.declared.answer.Answer.TheVariants as answers

-- the store, how many changing calls the disk was asked for, and a number that none of its files passes
pub record State : Type 0 where
  pub store : things.State
  pub calls : ℕ
  pub files : ℕ
  -- whether a store might be opened on the disk where the run began; no line changes it
  pub openable : Bool

abbrev pub history_of : State → History
history_of s = history_in s.store.commits

-- ---- the lines of a script, as the store has them

abbrev pub asked : Line → store.Line
asked (lines.Begin name) = store.Begin name
asked (lines.View name) = store.View name
asked (lines.Get name key) = store.Get name key
asked (lines.Set name key value) = store.Set name key value
asked (lines.SetTagged name key value tag) = store.SetTagged name key value tag
asked (lines.GetTagged name key) = store.GetTagged name key
asked (lines.Scan name low high limit way) = store.Scan way name low high limit
asked (lines.Delete name key) = store.Delete name key
asked (lines.Commit name) = store.Commit name
asked (lines.Drop name) = store.Drop name
asked lines.Rotate = store.Rotate
asked lines.Flush = store.Flush
asked (lines.Keep versions) = store.Keep versions
asked (lines.Plan name) = store.Plan name
asked (lines.Drain name segment) = store.Drain name segment
asked (lines.Install name) = store.Install name
asked (lines.GetAt name key number) = store.GetAt name key number
asked lines.Sweep = store.Sweep
asked lines.Stats = store.Stats
asked (lines.Pick name percent) = store.Pick name percent
asked (lines.Batch name) = store.Batch name
asked (lines.Move name) = store.Move name

-- ---- what a line is answered, and what it leaves

-- a count stands still at its type's end
abbrev pub counted : store.Answer → store.Answer
counted (store.Number n) = store.Number (min n (2 ^ 64 - 1))
counted answer = answer

-- a merge is told how many entries it kept, which are counted; each other number is one that its type has
abbrev pub answer_for : Line → store.Answer → store.Answer
answer_for (lines.Plan name) answer = counted answer
answer_for (lines.Drain name segment) answer = counted answer
answer_for line answer = answer

abbrev pub step_to : State → Line → Step
step_to s line = record (step_of s.store (asked line)) { answer = answer_for line (step_of s.store (asked line)).answer }

abbrev pub answer_to : State → Line → store.Answer
answer_to s line = (step_to s line).answer

-- The number that no file passes, where a step on files was answered so: it made a file where it is told a number, that of the
-- log that it sealed or of the table that it made, and else none.
abbrev pub files_behind : store.Answer → ℕ → ℕ
files_behind (store.Number n) files = files + 1
files_behind answer files = files

-- A merge makes a file by each of its calls, whatever it is answered; and no other line makes one.
abbrev pub files_after : Line → Step → ℕ → ℕ
files_after lines.Rotate x files = files_behind x.answer files
files_after lines.Flush x files = files_behind x.answer files
files_after (lines.Plan name) x files = files + x.calls
files_after (lines.Drain name segment) x files = files + x.calls
files_after line x files = files

abbrev pub state_after : State → Line → State
state_after s line = record {
  store = (step_to s line).state;
  calls = after_calls (step_to s line).calls s.calls;
  files = files_after line (step_to s line) s.files;
  openable = s.openable;
}

-- ---- how an answer is spelled

-- a row is told without its value's tag
abbrev pub row_line : List ℕ × List ℕ → Row
row_line row = (row.0, untagged row.1)

-- what is told of a log, as a line has it, and as the store has that
abbrev pub segment_line : SegmentStat → SegmentLine
segment_line stat = record { segment = stat.segment; bytes = stat.bytes; live = stat.live }

abbrev pub stat_of_line : SegmentLine → SegmentStat
stat_of_line line = record { segment = line.segment; bytes = line.bytes; live = line.live }

-- those of a script's lines; no other comes
abbrev pub answer_text : store.Answer → List ℕ
answer_text store.Done = text_of answers.Done
answer_text (store.Number n) = text_of (answers.Number n)
answer_text (store.Value bytes) = text_of (answers.Found (untagged bytes))
answer_text (store.ValueTagged value) = text_of (answers.FoundTagged value)
answer_text store.NoValue = text_of answers.NoValue
answer_text (store.Dropped least) = text_of (answers.Dropped least)
answer_text (store.Rows rows) = rows_text (map row_line rows)
answer_text (store.Taken name) = text_of (answers.Taken name)
answer_text (store.Unknown name) = text_of (answers.Unknown name)
answer_text store.ReadOnly = text_of answers.ReadOnly
answer_text store.Invalid = text_of answers.Invalid
answer_text store.TooBig = text_of answers.TooBig
answer_text store.TooMany = text_of answers.TooMany
answer_text store.Nothing = text_of answers.Nothing
answer_text (store.Conflict key number) = text_of (answers.Conflict key number)
answer_text (store.Full length frame) = text_of answers.Full
answer_text (store.Exhausted counter) = text_of (answers.Exhausted counter)
answer_text store.Idle = text_of answers.Idle
answer_text (store.Raced key) = text_of (answers.Raced key)
answer_text (store.Rejected segment) = text_of (answers.Rejected segment)
answer_text store.NoRewrite = text_of answers.NoRewrite
answer_text (store.Found count) = text_of (answers.FoundRecords count)
answer_text store.End = text_of answers.End
answer_text (store.Moved count) = text_of (answers.Moved count)
answer_text (store.Removed count) = text_of (answers.Removed count)
answer_text (store.Segments stats) = segments_text (map segment_line stats)
answer_text (store.Halted file) = []

-- ---- what a script is told

-- an answer of a script, as the store has it; its log's lengths aren't told
abbrev pub as_printed : Answer → store.Answer
as_printed answers.Done = store.Done
as_printed (answers.Number n) = store.Number n
as_printed (answers.Found value) = store.Value value.bytes
as_printed (answers.FoundTagged value) = store.ValueTagged value
as_printed answers.NoValue = store.NoValue
as_printed (answers.Dropped low) = store.Dropped low
as_printed (answers.Rows rows) = store.Rows (rows_told rows.items)
as_printed (answers.Taken name) = store.Taken name
as_printed (answers.Unknown name) = store.Unknown name
as_printed answers.ReadOnly = store.ReadOnly
as_printed answers.Invalid = store.Invalid
as_printed answers.TooBig = store.TooBig
as_printed answers.TooMany = store.TooMany
as_printed answers.Nothing = store.Nothing
as_printed (answers.Conflict key number) = store.Conflict key number
as_printed answers.Full = store.Full 0 0
as_printed (answers.Exhausted counter) = store.Exhausted counter
as_printed answers.Idle = store.Idle
as_printed (answers.Raced key) = store.Raced key
as_printed (answers.Rejected segment) = store.Rejected segment
as_printed answers.NoRewrite = store.NoRewrite
as_printed (answers.FoundRecords count) = store.Found count
as_printed answers.End = store.End
as_printed (answers.Moved count) = store.Moved count
as_printed (answers.Removed count) = store.Removed count
as_printed (answers.Segments segments) = store.Segments (map stat_of_line segments.items)

-- the same but for the lengths
abbrev pub without_lengths : store.Answer → store.Answer
without_lengths (store.Full length frame) = store.Full 0 0
without_lengths answer = answer

abbrev pub IsPrinted : Answer → store.Answer → Type 0
IsPrinted told answer = as_printed told ≡ without_lengths answer
