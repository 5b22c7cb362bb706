-- What a run tells of its input whatever its disk is: which lines were answered, and at which one it ended.
use Rattle.std.specs.Prelude.{◌≡◌, ◌≢◌, ◌+◌, ℕ, List, [], ◌∷◌, ◌++◌, length, Option, Some, None}
use Rattle.std.specs.List.{flat_map, AllByRecursion}
use Rattle.vl_io.specs.Sink.{Takes}
use Rattle.vl_io.specs.declared.source.Source as source
use Rattle.vl_io.specs.declared.sink.Sink as sink
use Rattle.vl_script.specs.Script.{line_of, lines_of, text_of}
use Rattle.vl_script.specs.declared.answer.Answer.{Answer}
use Rattle.vl_script.specs.declared.line.Line.{Line}
use Rattle.vl_script_model.specs.Exchanges.{KeepsUp, ended_lines}
use Rattle.vl_disk.specs.declared.name.Name.{Name}
use Rattle.vl_script_model.specs.Endings.{bad_line, damage_line, disk_fault_line, line_number}
use Rattle.vl_script_model.specs.declared.ending.Ending.{Ending}
use Rattle.vl_script_model.specs.declared.ending.Ending.TheVariants.{Complete, BadLine, ReaderFault, Damaged}

-- a text is a line of the language, or none
abbrev pub IsLine : List ℕ → Type 0
IsLine text = (line : Line) × (line_of text ≡ Some line)

abbrev pub IsNoLine : List ℕ → Type 0
IsNoLine text = line_of text ≡ None

-- what contracts see of a run's source and sink at one moment
pub record Streams : Type 0 where
  -- what the source has left, and what it had left when it was last asked
  pub left : Option (List ℕ)
  pub asked : Option (List ℕ)
  -- what the sink took
  pub held : Option (List ℕ)

abbrev pub streams : {S K : Type 0} → source.Ghosts S → sink.Ghosts K → S → K → Streams
streams s k source sink = record { left = s.left source; asked = s.asked source; held = k.held sink }

-- the sink took so many answers, each one whole, and then this piece
abbrev pub TakesAnswers : (held held' : Option (List ℕ)) → (count : ℕ) → (piece : List ℕ) → Type 0
TakesAnswers held held' count piece =
    (answers : List Answer) × (length answers ≡ count) × Takes held held' (flat_map text_of answers ++ piece)

-- it took some piece, which may be empty
abbrev pub TakesSome : (held held' : Option (List ℕ)) → Type 0
TakesSome held held' = (piece : List ℕ) × Takes held held' piece

-- the first of these is none of the language
abbrev pub BeginsBadly : List (List ℕ) → Type 0
BeginsBadly lines =
    (text : List ℕ) × (later : List (List ℕ)) × (lines ≡ text ∷ later) × IsNoLine text

-- the first of these is one of the language
abbrev pub BeginsWell : List (List ℕ) → Type 0
BeginsWell lines = (text : List ℕ) × (later : List (List ℕ)) × (lines ≡ text ∷ later) × IsLine text

-- What a run that ended so tells of the lines of its input.
pub record ReadsInput (input : List ℕ) (old new : Streams) (ending : Ending) : Type 0 where
  -- the lines that were answered, and those behind them
  pub answered : List (List ℕ)
  pub others : List (List ℕ)
  pub lines_are : lines_of input ≡ answered ++ others
  -- each line that was answered is one of the language, and the sink took an answer for each, and then some last piece
  pub of_language : AllByRecursion IsLine answered
  pub taken : (piece : List ℕ) × TakesAnswers old.held new.held (length answered) piece
  -- A complete run answered every line and read its source to the end. Its sink took an answer for each line, and nothing
  -- else.
  pub complete : ending ≡ Complete
      → (others ≡ []) × (new.left ≡ Some []) × TakesAnswers old.held new.held (length answered) []
  -- A run that ended at a bad line did so at the first one that isn't of the language. Its sink took an answer for each line
  -- before it, and then the bad line with its number.
  pub bad : ending ≡ BadLine
      → BeginsBadly others × TakesAnswers old.held new.held (length answered) (bad_line (length answered + 1))
  -- A run that met damage ended at a line of the language. Its sink took an answer for each line before it, and then the line
  -- of that damage.
  pub damaged : (name : Name) (place : ℕ) → ending ≡ Damaged name place
      → BeginsWell others × TakesAnswers old.held new.held (length answered) (damage_line name place)
  -- And so it is where a line's read failed, with the line of a disk's fault.
  pub unread : ending ≡ ReaderFault
      → BeginsWell others × TakesAnswers old.held new.held (length answered) disk_fault_line
  -- each answer was put whole before the next line was read
  pub kept_up : KeepsUp input new.asked (length answered)

-- A run under way, with these bytes read and not answered yet and so many lines answered, has answered some first lines.
pub record HasRead (input : List ℕ) (begin now : Streams) (buffer : List ℕ) (count : ℕ) : Type 0 where
  -- the lines that were answered are of the language, and were counted;
  pub answered : List (List ℕ)
  pub of_language : AllByRecursion IsLine answered
  pub count_is : count ≡ line_number (length answered)
  -- the others are those of the bytes that were read, and of those that the source has left;
  pub rest : List ℕ
  pub left_is : now.left ≡ Some rest
  pub lines_are : lines_of input ≡ answered ++ lines_of (buffer ++ rest)
  pub ends_are : ended_lines input ≡ length answered + ended_lines (buffer ++ rest)
  -- an answer was put for each;
  pub answers : List Answer
  pub as_many : length answers ≡ length answered
  pub taken : Takes begin.held now.held (flat_map text_of answers)
  -- and when the source was last asked no answer was owed
  pub kept_up : KeepsUp (buffer ++ rest) now.asked 0

-- so it is behind a step, or the run ended there
abbrev pub ReadsOn : List ℕ → (begin now : Streams) → (buffer : List ℕ) → (count : ℕ) → Option Ending → Type 0
ReadsOn input begin now buffer count None = HasRead input begin now buffer count
ReadsOn input begin now buffer count (Some ending) = ReadsInput input begin now ending

-- a text was taken for a line and has an answer, or is none
abbrev pub ReadsText : List ℕ → Option (List ℕ) → Type 0
ReadsText text (Some out) = IsLine text × ((answer : Answer) × (out ≡ text_of answer))
ReadsText text None = IsNoLine text

-- the sink took the bad line, with the number behind so many answered ones
abbrev pub TakesBadLine : (count : ℕ) → (held held' : Option (List ℕ)) → Type 0
TakesBadLine count held held' = (before : ℕ) → count ≡ line_number before → Takes held held' (bad_line (before + 1))

-- A run took some last piece and ended incomplete: at a bad line only with `by` and with the line's number, and at damage or a
-- failed read only with `met` and with its line.
pub record EndsBadly (by met : Type 0) (count : ℕ) (ending : Ending) (held held' : Option (List ℕ)) : Type 0 where
  pub some : TakesSome held held'
  pub incomplete : ending ≢ Complete
  pub bad : ending ≡ BadLine → by × TakesBadLine count held held'
  pub damaged : (name : Name) (place : ℕ) → ending ≡ Damaged name place
      → met × Takes held held' (damage_line name place)
  pub unread : ending ≡ ReaderFault → met × Takes held held' disk_fault_line

-- a line of the language was answered; or the run ended there, at a bad line only where the text is none of the language, and
-- at damage or a failed read only where it is one
abbrev pub AnswersText : List ℕ → (count : ℕ) → Option Ending → (held held' : Option (List ℕ)) → Type 0
AnswersText text count None held held' = IsLine text × ((answer : Answer) × Takes held held' (text_of answer))
AnswersText text count (Some ending) held held' = EndsBadly (IsNoLine text) (IsLine text) count ending held held'
