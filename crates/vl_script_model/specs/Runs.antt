-- Whole runs: what is printed for the lines of some bytes, however the run ends.
use Rattle.std.specs.Prelude.{◌≡◌, ◌+◌, ◌<◌, ◌≤◌, ℕ, suc, List, [], ◌++◌, length, take, Option, Some}
use Rattle.std.specs.List.{slice_get}
use Rattle.vl_disk.specs.declared.watched.Watched.{Ghosts}
use Rattle.vl_disk.specs.Faults.{Rose}
use Rattle.vl_io.specs.Sink.{Takes}
use Rattle.vl_io.specs.declared.source.Source as source
use Rattle.vl_io.specs.declared.sink.Sink as sink
use Rattle.vl_script.specs.Script.{lines_of}
use Rattle.vl_script_model.specs.Sequential.{State, answer_text}
use Rattle.vl_script_model.specs.Exchanges.{Exchange, exchanges_from, last_state, answers_text, ended_lines, KeepsUp}
use Rattle.vl_script_model.specs.Failing.{IsTableRead}
use Rattle.vl_script_model.specs.Endings.{Culprit, NoOne, TheLine, TheWords, TheDisk, TheReader, TheFiles, TheBytes, Memory}
use Rattle.vl_script_model.specs.Endings.{TheSource, TheSink, LastPiece, NoPiece, BadLinePiece, Line, LineFront}
use Rattle.vl_script_model.specs.Endings.{AnswerFront, end_of, culprit_of, bad_line, last_line, Evidence}
use Rattle.vl_script_model.specs.declared.ending.Ending.{Ending}

-- what is to be run: the lines of these bytes, from a state on, so many lines after the script's begin
pub record Script : Type 0 where
  pub start : State
  pub before : ℕ
  pub bytes : List ℕ

abbrev pub script_of : State → ℕ → List ℕ → Script
script_of s before bytes = record { start = s; before = before; bytes = bytes }

abbrev pub exchanges : Script → List Exchange
exchanges script = exchanges_from script.start (lines_of script.bytes)

-- the number of the line behind m answered ones
abbrev pub next_number : Script → ℕ → ℕ
next_number script m = script.before + m + 1

-- some first bytes of a piece, none or all of them included
abbrev pub IsFront : List ℕ → List ℕ → Type 0
IsFront front piece = (rest : List ℕ) × (piece ≡ front ++ rest)

-- A source gave some of these bytes and has the others left, and m lines had ended in what it gave.
abbrev pub GaveLines : List ℕ → Option (List ℕ) → ℕ → Type 0
GaveLines bytes left m =
    (given : List ℕ) × (rest : List ℕ) × (bytes ≡ given ++ rest) × (left ≡ Some rest)
    × (m ≡ ended_lines given)

-- What is so where this ended a run that had answered m lines. `left` is what the source has left in the end, and `evidence`
-- says what shows that a culprit ended it.
abbrev pub Stops : (Culprit → Type 0) → Script → Option (List ℕ) → ℕ → Culprit → Type 0
-- every line was answered, and the source was read to its end
Stops evidence script left m NoOne =
    (m ≡ length (exchanges script)) × (m ≡ length (lines_of script.bytes)) × (left ≡ Some [])
-- all lines before the bad one were answered, and there is one more
Stops evidence script left m TheLine =
    (m ≡ length (exchanges script)) × (m < length (lines_of script.bytes))
-- the words were plain
Stops evidence script left m TheWords = ⊥
Stops evidence script left m TheDisk = evidence TheDisk
-- the next line reads, of a state that has a table, or goes on with a pass
Stops evidence script left m TheReader = IsTableRead (slice_get (exchanges script) m)
-- the store was opened
Stops evidence script left m TheFiles = ⊥
-- and nothing of it is damaged
Stops evidence script left m (TheBytes name place) = ⊥
Stops evidence script left m Memory = Unit {0}
-- each line that had ended in the bytes that the source gave was answered
Stops evidence script left m TheSource = evidence TheSource × GaveLines script.bytes left m
Stops evidence script left m TheSink = ⊥

-- what is put behind the m answers
abbrev pub Puts : (Culprit → Type 0) → Script → Option (List ℕ) → ℕ → Culprit → LastPiece → List ℕ
    → Type 0
Puts evidence script left m culprit NoPiece piece = Stops evidence script left m culprit × (piece ≡ [])
Puts evidence script left m culprit BadLinePiece piece =
    Stops evidence script left m culprit × (piece ≡ bad_line (next_number script m))
Puts evidence script left m culprit (Line line) piece =
    Stops evidence script left m culprit × (piece ≡ line)
Puts evidence script left m culprit LineFront piece =
    (other : Ending) × (line : List ℕ) × (last_line (next_number script m) other ≡ Some line)
    × Stops evidence script left m (culprit_of other) × IsFront piece line
Puts evidence script left m culprit AnswerFront piece =
    (e : Exchange) × (slice_get (exchanges script) m ≡ Some e) × IsFront piece (answer_text e.answer)

-- How a run ended that answered m lines, and what it printed. A line counts as answered where its whole answer was put.
pub record EndsSo (evidence : Culprit → Type 0) (script : Script) (left : Option (List ℕ)) (m : ℕ)
    (ending : Ending) (printed : List ℕ) : Type 0 where
  pub within : m ≤ length (exchanges script)
  pub piece : List ℕ
  pub puts : Puts evidence script left m (culprit_of ending) (end_of ending).last piece
  pub printed_is : printed ≡ answers_text (take m (exchanges script)) ++ piece

-- what contracts see of a run's source, sink and disk at one moment
pub record Outside (D : Type 0) : Type 0 where
  -- what the source has left, and what it had left when it was last asked
  pub left : Option (List ℕ)
  pub asked : Option (List ℕ)
  pub source_faults : ℕ
  -- what the sink took
  pub held : Option (List ℕ)
  pub disk : D

abbrev pub outside : {S K D : Type 0} → source.Ghosts S → sink.Ghosts K → S → K → D → Outside D
outside s k source sink disk = record {
  left = s.left source;
  asked = s.asked source;
  source_faults = s.faults source;
  held = k.held sink;
  disk = disk;
}

-- How far a run came: how it ended, in which state it began, which lines it answered, and the state that may stand, with one
-- line more.
pub record Course : Type 0 where
  pub ending : Ending
  pub first : State
  pub answered : List Exchange
  pub most : State

abbrev pub course : Script → ℕ → Ending → Course
course script m ending = record {
  ending = ending;
  first = script.start;
  answered = take m (exchanges script);
  most = last_state script.start (take (suc m) (exchanges script));
}

-- What shows which of them ended a run: a fault of the source or of the disk was counted.
abbrev pub EvidenceOf : {D : Type 0} → Ghosts D → (old new : Outside D) → Culprit → Type 0
EvidenceOf g old new =
    Evidence (Rose old.source_faults new.source_faults) (Rose (g.faults old.disk) (g.faults new.disk))

-- A run ended so. `evidence` says what shows that a culprit ended it, by how many lines were answered, and `disk_ends` what it
-- did to its disk, by how far it came.
pub record EndsRunBy {D : Type 0} (evidence : (answered : ℕ) → Culprit → Type 0) (disk_ends : Course → Type 0)
    (script : Script) (old new : Outside D) (ending : Ending) : Type 0 where
  -- how many lines were answered, and what was printed
  pub answered : ℕ
  pub printed : List ℕ
  pub taken : Takes old.held new.held printed
  pub ends : EndsSo (evidence answered) script new.left answered ending printed
  -- each answer was put whole before the next line was read
  pub kept_up : KeepsUp script.bytes new.asked answered
  pub disk : disk_ends (course script answered ending)

-- so it is with a run over an open store
abbrev pub EndsRun : {D : Type 0} → Ghosts D → (disk_ends : Course → Type 0) → Script → (old new : Outside D) → Ending → Type 0
EndsRun g disk_ends script old new ending = EndsRunBy (λ answered. EvidenceOf g old new) disk_ends script old new ending
