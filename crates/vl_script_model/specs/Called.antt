-- A run over every disk: which lines were carried out, one after the other, what each was answered, and how the run ended there. What a
-- line is answered is a parameter, over what carries lines out, before and behind it.
use Rattle.std.specs.Prelude.{◌≡◌, ◌⊎◌, ◌++◌, ℕ, List, [], ◌∷◌, Option, Some, None, Result, Ok, Err}
use Rattle.std.specs.List.{flat_map}
use Rattle.vl_io.specs.Sink.{Takes, TakesPrefix}
use Rattle.vl_io.specs.declared.sink.Sink as sink
use Rattle.vl_script.specs.Script.{line_of, lines_of, text_of}
use Rattle.vl_script.specs.declared.answer.Answer.{Answer}
use Rattle.vl_script.specs.declared.line.Line.{Line}
use Rattle.vl_script_model.specs.Endings.{ending_at, line_at}
use Rattle.vl_script_model.specs.Reading.{IsNoLine}
use Rattle.vl_script_model.specs.Steps.{EndsAtDamage, Finishes, FinishesBy}
use Rattle.vl_script_model.specs.declared.ending.Ending.{Ending}
use Rattle.vl_script_model.specs.declared.ending.Ending.TheVariants.{Complete, BadLine, BadWords, DiskFault, ReaderFault}
use Rattle.vl_script_model.specs.declared.ending.Ending.TheVariants.{Refused, Damaged, NoMemory, ReadFault, WriteFault}
use Rattle.vl_script_model.specs.declared.ending.Ending.TheVariants.{AnswerCut, Stopped}
use Rattle.vl_script_model.specs.declared.ending.OnFault.{OnFault}
use Rattle.vl_script_model.specs.declared.fails.Halt.{Halt}
use Rattle.vl_script_model.specs.declared.fails.Halt.TheVariants as halts

-- ---- one line

-- what a line may be answered
abbrev pub Answering : Type 1
Answering = Line → Result Answer Halt → Type 0

-- A text has the answer of its line; or it is none of the language.
abbrev pub AnswersAsLine : Answering → List ℕ → Option (List ℕ) → Type 0
AnswersAsLine called text None = IsNoLine text
AnswersAsLine called text (Some out) =
    (line : Line) × (answer : Answer) × (line_of text ≡ Some line) × called line (Ok answer) × (out ≡ text_of answer)

-- it is halted as its line is, or for want of memory
abbrev pub HaltsAsLine : Answering → List ℕ → Halt → Type 0
HaltsAsLine called text halt = (halt ≡ halts.NoMemory) ⊎ ((line : Line) × (line_of text ≡ Some line) × called line (Err halt))

-- The last line of a run, and how it ends, by why its line was halted: by damage with that damage's line, and by a fault with that of
-- a fault.
abbrev pub EndsBy : {K : Type 0} → sink.Ghosts K → OnFault → (old new : K) → Halt → Ending → Type 0
EndsBy k on_fault old new halts.NoMemory ending = FinishesBy k old new NoMemory ending
EndsBy k on_fault old new (halts.Disk name) ending = Finishes k old new (line_at on_fault) (ending_at on_fault) ending
EndsBy k on_fault old new (halts.Read name) ending = FinishesBy k old new ReaderFault ending
EndsBy k on_fault old new (halts.Halted name) ending = FinishesBy k old new ReaderFault ending
EndsBy k on_fault old new (halts.Damaged name place) ending = EndsAtDamage k old new name place ending

-- the answer of the text's line was put in part
abbrev pub CutsLine : {K : Type 0} → sink.Ghosts K → Answering → List ℕ → (old new : K) → Ending → Type 0
CutsLine k called text old new ending =
    (ending ≡ AnswerCut) × (line : Line) × (answer : Answer) × (line_of text ≡ Some line) × called line (Ok answer)
    × TakesPrefix (k.held old) (k.held new) (text_of answer)

-- the run ended at this text, whose line was carried out: its answer was put in part, or its line was halted
abbrev pub EndsAtLine : {K : Type 0} → sink.Ghosts K → OnFault → Answering → List ℕ → (old new : K) → Ending → Type 0
EndsAtLine k on_fault called text old new ending =
    CutsLine k called text old new ending ⊎ ((halt : Halt) × HaltsAsLine called text halt × EndsBy k on_fault old new halt ending)

-- A run that ended so may have carried out no line there: none was left, or the next one is bad; or the source or the sink failed, or
-- memory ran out. Neither a disk, a reader nor damage ends one so.
abbrev pub IsApart : Ending → Type 0
IsApart Complete = Unit {0}
IsApart BadLine = Unit {0}
IsApart BadWords = ⊥
IsApart DiskFault = ⊥
IsApart ReaderFault = ⊥
IsApart (Refused refusal) = ⊥
IsApart (Damaged name place) = ⊥
IsApart NoMemory = Unit {0}
IsApart ReadFault = Unit {0}
IsApart WriteFault = Unit {0}
IsApart AnswerCut = ⊥
IsApart Stopped = ⊥

-- A text's answer was put whole, and the run goes on; or it ended there.
abbrev pub EndsText : {K : Type 0} → sink.Ghosts K → OnFault → Answering → List ℕ → (old new : K) → Option Ending → Type 0
EndsText k on_fault called text old new None =
    (line : Line) × (answer : Answer) × (line_of text ≡ Some line) × called line (Ok answer)
    × Takes (k.held old) (k.held new) (text_of answer)
EndsText k on_fault called text old new (Some ending) = IsApart ending ⊎ EndsAtLine k on_fault called text old new ending

-- ---- all lines

-- a text, if there is one, in front of others
abbrev pub at_front : Option (List ℕ) → List (List ℕ) → List (List ℕ)
at_front None later = later
at_front (Some text) later = text ∷ later

module _ {X : Type 0} (called : (old new : X) → Answering) where
  -- These texts are lines that were carried out one after the other, from the one to the other, and each was answered so.
  abbrev pub AreAnswered : (old new : X) → List (List ℕ) → List Answer → Type 0
  AreAnswered old new [] [] = new ≡ old
  AreAnswered old new [] (answer ∷ answers) = ⊥
  AreAnswered old new (text ∷ texts) [] = ⊥
  AreAnswered old new (text ∷ texts) (answer ∷ answers) =
      (line : Line) × (next : X) × (line_of text ≡ Some line) × called old next line (Ok answer) × AreAnswered next new texts answers

  -- The run ended behind them: at this text, whose line was carried out; or at none.
  abbrev pub EndsBehind : {K : Type 0} → sink.Ghosts K → OnFault → X → (at : Option (List ℕ)) → (old new : K) → Ending → Type 0
  EndsBehind k on_fault last None old new ending = IsApart ending
  EndsBehind k on_fault last (Some text) old new ending = (next : X) × EndsAtLine k on_fault (called last next) text old new ending

  -- A run from an open store on, over what its source had left, if that is told.
  pub record RunsAsCalled {K : Type 0} (k : sink.Ghosts K) (on_fault : OnFault) (first : X) (left : Option (List ℕ)) (old new : K)
      (ending : Ending) : Type 0 where
    -- The lines that were answered, and what each was answered;
    pub texts : List (List ℕ)
    pub answers : List Answer
    pub last : X
    pub answered : AreAnswered first last texts answers
    -- these answers were put, each one whole, without a fault of the sink;
    pub mid : K
    pub taken : Takes (k.held old) (k.held mid) (flat_map text_of answers)
    pub steady : k.faults mid ≡ k.faults old
    -- and there it ended, at the next line or before one was carried out.
    pub at : Option (List ℕ)
    pub ends : EndsBehind k on_fault last at mid new ending
    -- They are the first lines of the input, and the next line is that behind them.
    pub of_input : (input : List ℕ) → left ≡ Some input → (later : List (List ℕ)) × (lines_of input ≡ texts ++ at_front at later)

  -- A run under way has answered some first lines, with these bytes read and not answered yet.
  pub record HasCalled {K : Type 0} (k : sink.Ghosts K) (first last : X) (left now : Option (List ℕ)) (buffer : List ℕ) (old new : K)
      : Type 0 where
    pub texts : List (List ℕ)
    pub answers : List Answer
    pub answered : AreAnswered first last texts answers
    pub taken : Takes (k.held old) (k.held new) (flat_map text_of answers)
    pub steady : k.faults new ≡ k.faults old
    pub of_input : (input : List ℕ) → left ≡ Some input
        → (rest : List ℕ) × (now ≡ Some rest) × (lines_of input ≡ texts ++ lines_of (buffer ++ rest))

  -- so it is behind a step, or the run ended there
  abbrev pub CallsOn : {K : Type 0} → sink.Ghosts K → OnFault → (first last : X) → (left now : Option (List ℕ)) → (buffer : List ℕ)
      → (old new : K) → Option Ending → Type 0
  CallsOn k on_fault first last left now buffer old new None = HasCalled k first last left now buffer old new
  CallsOn k on_fault first last left now buffer old new (Some ending) = RunsAsCalled k on_fault first left old new ending
