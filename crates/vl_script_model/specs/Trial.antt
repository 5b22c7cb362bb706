-- A trial: a script over a disk that stops, and what the store has that is opened on what a crash then leaves.
use Rattle.std.specs.Prelude.{◌≡◌, ◌⊎◌, ◌+◌, ◌<◌, ◌≤◌, ℕ, nat_le, if◌then◌else◌, List, [], ◌∷◌, ◌++◌, length, take, Option, Some, None}
use Rattle.std.specs.List.{slice_get}
use Rattle.vl_script.specs.Text.{reopened_text}
use Rattle.vl_io.specs.Sink.{Takes}
use Rattle.vl_mem.specs.declared.outcome.Outcome.{Outcome}
use Rattle.vl_model.specs.History.{contents_at, last_number}
use Rattle.vl_script.specs.Script.{lines_of}
use Rattle.vl_script_model.specs.Endings.{bad_line, last_line, no_memory_line, read_fault_line}
use Rattle.vl_script_model.specs.Exchanges.{Exchange, KeepsUp, answers_text, exchanges_from, last_state}
use Rattle.vl_script_model.specs.Reopens.{state_left}
use Rattle.vl_script_model.specs.Runs.{IsFront}
use Rattle.vl_script_model.specs.Sequential.{State, answer_text, history_of}
use Rattle.vl_script_model.specs.laws.StartLaws.{empty_store}
use Rattle.vl_script_model.specs.declared.ending.Ending.{Ending}
use Rattle.vl_script_model.specs.declared.ending.Ending.TheVariants.{Complete, BadLine, BadWords, DiskFault, ReaderFault}
use Rattle.vl_script_model.specs.declared.ending.Ending.TheVariants.{Refused, Damaged, NoMemory, ReadFault, WriteFault}
use Rattle.vl_script_model.specs.declared.ending.Ending.TheVariants.{AnswerCut, Stopped}

-- what is tried: the lines of some bytes, over an empty disk of which each changing call behind so many fails; and what a
-- crash then does to what isn't durable
pub record Trial : Type 0 where
  pub stop : ℕ
  pub outcome : Outcome
  pub input : List ℕ

-- the store as it is opened on an empty disk, by six changing calls
abbrev pub begun : State
begun = empty_store 6

-- what the sequential store answers to the lines, if there were no stop
abbrev pub exchanges_unstopped : Trial → List Exchange
exchanges_unstopped t = exchanges_from begun (lines_of t.input)

-- ---- up to the stop

-- the first lines of these behind which no more calls were made than pass
abbrev pub before_stop : ℕ → List Exchange → List Exchange
before_stop stop [] = []
before_stop stop (e ∷ later) = if nat_le e.after.calls stop then e ∷ before_stop stop later else []

-- and the line behind them, which meets the stop: its calls, with those before, are more than pass
abbrev pub at_stop : ℕ → List Exchange → Option Exchange
at_stop stop [] = None
at_stop stop (e ∷ later) = if nat_le e.after.calls stop then at_stop stop later else Some e

-- the lines that are answered: those before the one that meets the stop, and none where the opening meets it
abbrev pub answered_lines : Trial → List Exchange
answered_lines t = if nat_le begun.calls t.stop then before_stop t.stop (exchanges_unstopped t) else []

-- the line that meets the stop; none where the opening does
abbrev pub stopped_line : Trial → Option Exchange
stopped_line t = if nat_le begun.calls t.stop then at_stop t.stop (exchanges_unstopped t) else None

-- the opening meets the stop, or a line does
abbrev pub MeetsStop : Trial → Type 0
MeetsStop t = (t.stop < begun.calls) ⊎ ((e : Exchange) × (stopped_line t ≡ Some e))

-- ---- behind it

-- the state behind the answered lines
abbrev pub answered_state : Trial → State
answered_state t = last_state begun (answered_lines t)

-- The state whose commits are shown when the image is opened: that behind the answered lines; and that behind the line that met
-- the stop, where the first of its calls passed and what isn't durable is kept. Only a commit, which makes two, leaves other
-- commits than it found.
abbrev pub state_behind_stop : Outcome → (stop : ℕ) → State → Option Exchange → State
state_behind_stop outcome stop s None = s
state_behind_stop outcome stop s (Some e) = state_left outcome (nat_le (s.calls + 1) stop) s e.after

abbrev pub reopened_state : Trial → State
reopened_state t = state_behind_stop t.outcome t.stop (answered_state t) (stopped_line t)

-- the text that is printed of it: the number of its last commit, which is their count, and what it has there
abbrev pub state_text : State → List ℕ
state_text s = reopened_text (last_number (history_of s)) (contents_at (history_of s) (last_number (history_of s)))

abbrev pub trial_text : Trial → List ℕ
trial_text t = state_text (reopened_state t)

-- ---- how a trial ends

-- the stop is met, or each line of the input has an answer: so nothing ends the lines before the stop
abbrev pub ReachesEnd : Trial → Type 0
ReachesEnd t = MeetsStop t ⊎ (length (exchanges_unstopped t) ≡ length (lines_of t.input))

-- neither the opening nor a line meets the stop, and some line is none of the language
pub record ReachesBadLine (t : Trial) : Type 0 where
  pub no_stop : MeetsStop t → ⊥
  pub bad : length (exchanges_unstopped t) < length (lines_of t.input)

-- the sink took the answers to some first of these lines, and then this piece
abbrev pub TakesFirst : Trial → (held held' : Option (List ℕ)) → (count : ℕ) → (piece : List ℕ) → Type 0
TakesFirst t held held' count piece =
    (count ≤ length (answered_lines t)) × Takes held held' (answers_text (take count (answered_lines t)) ++ piece)

-- Some first bytes of what ends a trial's output: of what the opened store has, which comes behind all answers; or of a last
-- line, behind so many.
abbrev pub IsLastFront : Trial → (count : ℕ) → (piece : List ℕ) → Type 0
IsLastFront t count piece =
    (ReachesEnd t × (count ≡ length (answered_lines t)) × IsFront piece (trial_text t))
    ⊎ ((other : Ending) × (line : List ℕ) × (last_line (count + 1) other ≡ Some line) × IsFront piece line)

-- some first bytes of the answer to the next line
abbrev pub IsAnswerFront : Trial → (count : ℕ) → (piece : List ℕ) → Type 0
IsAnswerFront t count piece =
    (e : Exchange) × (slice_get (answered_lines t) count ≡ Some e) × IsFront piece (answer_text e.answer)

-- What a trial that ended so printed. It comes to no other endings: a stop is no fault of the disk, what is opened behind it
-- isn't refused, nothing that was written is damaged, and no read of a table fails.
abbrev pub EndsTrial : Trial → (held held' left : Option (List ℕ)) → Ending → Type 0
EndsTrial t held held' left Complete =
    ReachesEnd t × (left ≡ Some []) × Takes held held' (answers_text (answered_lines t) ++ trial_text t)
EndsTrial t held held' left BadLine =
    ReachesBadLine t × Takes held held' (answers_text (exchanges_unstopped t) ++ bad_line (length (exchanges_unstopped t) + 1))
EndsTrial t held held' left BadWords = ⊥
EndsTrial t held held' left DiskFault = ⊥
EndsTrial t held held' left ReaderFault = ⊥
EndsTrial t held held' left (Refused refusal) = ⊥
EndsTrial t held held' left (Damaged name place) = ⊥
EndsTrial t held held' left NoMemory = (count : ℕ) × TakesFirst t held held' count no_memory_line
EndsTrial t held held' left ReadFault = (count : ℕ) × TakesFirst t held held' count read_fault_line
EndsTrial t held held' left WriteFault =
    (count : ℕ) × (piece : List ℕ) × IsLastFront t count piece × TakesFirst t held held' count piece
EndsTrial t held held' left AnswerCut =
    (count : ℕ) × (piece : List ℕ) × IsAnswerFront t count piece × TakesFirst t held held' count piece
EndsTrial t held held' left Stopped = ⊥

-- ---- when its answers are put

-- Each answer was put whole before the next line was read: the sink took the answers to so many first lines, and then some piece; and
-- when the source was last asked, no more lines had ended in what it had given.
abbrev pub PutsInTime : Trial → (held held' asked : Option (List ℕ)) → Type 0
PutsInTime t held held' asked = (count : ℕ) × (piece : List ℕ) × TakesFirst t held held' count piece × KeepsUp t.input asked count

-- So it is with a trial; unless it met the stop, behind which it reads the lines that it passes over: then all its answers were put.
abbrev pub TriesInTime : Trial → (held held' asked : Option (List ℕ)) → Type 0
TriesInTime t held held' asked = PutsInTime t held held' asked
    ⊎ (MeetsStop t × ((piece : List ℕ) × TakesFirst t held held' (length (answered_lines t)) piece))
