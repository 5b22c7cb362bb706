-- One step of a run: what it prints, and how it leaves the store and the disk.
use Rattle.std.specs.Prelude.{◌≡◌, ◌≤◌, ◌+◌, ◌++◌, ◌∷◌, ◌⊎◌, ℕ, List, [], Option, Some, None}
use Rattle.vl_disk.specs.Crash.{Image}
use Rattle.vl_disk.specs.DiskState.{DiskState}
use Rattle.vl_disk.specs.Faults.{Rose}
use Rattle.vl_disk.specs.Started.{IsRead}
use Rattle.vl_disk.specs.declared.name.Name.{Name}
use Rattle.vl_disk.specs.declared.watched.Watched.{Ghosts}
use Rattle.vl_io.specs.declared.sink.Sink as sink
use Rattle.vl_io.specs.Sink.{Takes}
use Rattle.vl_script.specs.Script.{lines_of}
use Rattle.vl_script_model.specs.Between.{Showing, Stopping}
use Rattle.vl_script_model.specs.Sequential.{State, answer_text, history_of}
use Rattle.vl_script_model.specs.Input.{HasNoLineEnd}
use Rattle.vl_script_model.specs.Exchanges.{Exchange, exchange_at, KeepsUp}
use Rattle.vl_script_model.specs.Endings.{Culprit, Evidence, OnlyByDisk, last_line, line_number}
use Rattle.vl_script_model.specs.Opening.{IsRefused, ending_unopened, why_refused}
use Rattle.vl_recover.specs.declared.fails.OpenError.{OpenError}
use Rattle.vl_recover.specs.declared.fails.OpenError.TheVariants as why
use Rattle.vl_script_model.specs.Runs.{Script, script_of, IsFront, EndsSo, Outside, EndsRun}
use Rattle.vl_script_model.specs.Durable.{Holding, HoldsState, CrashesShow, DiskEnds, DiskEndsFrom, IsAsBefore}
use Rattle.vl_script_model.specs.declared.ending.Ending.{Ending}
use Rattle.vl_script_model.specs.declared.ending.Ending.TheVariants.{Damaged, NoMemory, Refused, WriteFault}
use Rattle.vl_script_model.specs.declared.fails.Refusal.{Refusal}

-- the last line was printed whole, or the sink failed behind some first bytes of it and counted that
pub record Finishes {K : Type 0} (g : sink.Ghosts K) (old new : K) (line : List ℕ)
    (ending result : Ending) : Type 0 where
  pub printed : List ℕ
  pub taken : Takes (g.held old) (g.held new) printed
  pub later : g.faults old ≤ g.faults new
  pub how : ((result ≡ ending) × (printed ≡ line) × (g.faults new ≡ g.faults old))
      ⊎ ((result ≡ WriteFault) × IsFront printed line × Rose (g.faults old) (g.faults new))

-- so it was with the line that this ending has of its own; none of them has a number in it, for which 0 stands
abbrev pub FinishesBy : {K : Type 0} → sink.Ghosts K → (old new : K) → (ending result : Ending)
    → Type 0
FinishesBy g old new ending result =
    (line : List ℕ) × (last_line 0 ending ≡ Some line) × Finishes g old new line ending result

-- the run's last line says that a read met this damage, or that memory ran out
abbrev pub EndsAtDamage : {K : Type 0} → sink.Ghosts K → (old new : K) → Name → (place : ℕ) → Ending → Type 0
EndsAtDamage g old new name place result =
    FinishesBy g old new (Damaged name place) result ⊎ FinishesBy g old new NoMemory result

-- ---- runs whose store wasn't opened

-- no refusal: memory ran out, or the disk failed
abbrev pub CameFirst : OpenError → Type 0
CameFirst why.NotAStore = ⊥
CameFirst (why.NewerFormat format) = ⊥
CameFirst (why.Damaged name place) = ⊥
CameFirst (why.Exhausted counter) = ⊥
CameFirst why.NoMemory = Unit {0}
CameFirst (why.Disk name) = Unit {0}

-- what ends a run whose store wasn't opened for this reason: it does, or want of memory for a refusal's line
abbrev pub EndsFor : (reason how : OpenError) → Type 0
EndsFor reason how =
    (how ≡ reason) ⊎ ((how ≡ why.NoMemory) × ((refusal : Refusal) × (reason ≡ why_refused refusal)))

-- the run's last line says that
abbrev pub EndsUnopened : {K : Type 0} → sink.Ghosts K → (old new : K) → OpenError → Ending → Type 0
EndsUnopened g old new reason result =
    (how : OpenError) × EndsFor reason how × FinishesBy g old new (ending_unopened how) result

-- A run ended by this refusal.
pub record IsRefusedRun {D K : Type 0} (g : Ghosts D) (k : sink.Ghosts K) (disk disk' : D)
    (sink sink' : K) (refusal : Refusal) : Type 0 where
  -- reads of its disk give the refusal;
  pub given : (state : DiskState) (read : Image) → g.told disk ≡ Some state → IsRead read state
      → IsRefused read refusal
  -- the disk was left as it was;
  pub unchanged : IsAsBefore g disk disk'
  -- and the refusal's line was put, and nothing else
  pub printed : FinishesBy k sink sink' (Refused refusal) (Refused refusal)

-- A run ended over a disk of which reads give this refusal.
pub record EndsWithoutOpening {D K : Type 0} (g : Ghosts D) (k : sink.Ghosts K) (disk disk' : D)
    (sink sink' : K) (refusal : Refusal) (ending : Ending) : Type 0 where
  -- it ended by the refusal, unless memory ran out or the disk failed before;
  pub how : OpenError
  pub how_is : (how ≡ why_refused refusal) ⊎ CameFirst how
  -- the line of that was put, or the sink failed there;
  pub printed : FinishesBy k sink sink' (ending_unopened how) ending
  -- and the disk was left as it was
  pub unchanged : IsAsBefore g disk disk'

-- a text has this answer, and the state after it is one for which a replayer stands; or it has none, and is a bad line
abbrev pub IsAnswered : State → List ℕ → (stands : State → Type 0) → Option (List ℕ) → Type 0
IsAnswered s text stands (Some out) =
    (e : Exchange) × (exchange_at s text ≡ Some e) × stands e.after
    × (out ≡ answer_text e.answer)
IsAnswered s text stands None = exchange_at s text ≡ None

-- this text is the next line of the script
abbrev pub IsNext : Script → List ℕ → Type 0
IsNext script text = (texts : List (List ℕ)) × (lines_of script.bytes ≡ text ∷ texts)

-- the run printed something and ended, before the next line was answered whole
pub record EndsBefore (evidence : Culprit → Type 0) (script : Script) (left : Option (List ℕ))
    (ending : Ending) (held held' : Option (List ℕ)) : Type 0 where
  pub printed : List ℕ
  pub taken : Takes held held' printed
  pub ends : EndsSo evidence script left 0 ending printed

-- it ended at the next line, which is none of the language
abbrev pub EndsAtBadLine : (answered : ℕ) → Ending → (held held' : Option (List ℕ)) → Type 0
EndsAtBadLine answered ending held held' =
    (script : Script) (text : List ℕ) (left : Option (List ℕ))
    → answered ≡ line_number script.before
    → IsNext script text → exchange_at script.start text ≡ None
    → EndsBefore (Evidence ⊥ ⊥) script left ending held held'

-- the next line was answered and printed, and the run goes on; or it ended there, whatever the source has left. `failed` says
-- that the disk failed.
abbrev pub PrintsStep : (failed : Type 0) → Script → List ℕ → (stands : State → Type 0) → Option Ending
    → (held held' : Option (List ℕ)) → Type 0
PrintsStep failed script text stands None held held' =
    (e : Exchange) × (exchange_at script.start text ≡ Some e) × stands e.after
    × Takes held held' (answer_text e.answer)
PrintsStep failed script text stands (Some ending) held held' =
    (left : Option (List ℕ)) → EndsBefore (OnlyByDisk failed) script left ending held held'

-- the disk holds the state after a line, and a crash meanwhile left what was before it or after it
pub record MovesOn {D : Type 0} (g : Ghosts D) (holds : Holding) (shows : Showing)
    (old new : D) (before after : State) : Type 0 where
  pub held : HoldsState g holds after new
  pub through : CrashesShow g shows old new (history_of before) (history_of after)
  -- no fault was counted
  pub steady : g.faults new ≡ g.faults old

-- what a step did to a disk that held the state before it
abbrev pub DiskSteps : {D : Type 0} → Ghosts D → Holding → Showing → Stopping → (old new : D)
    → (before after : State) → Option Ending → Type 0
DiskSteps g holds shows stops old new before after None = MovesOn g holds shows old new before after
DiskSteps g holds shows stops old new before after (Some ending) =
    DiskEnds g holds shows stops ⊥ ⊥ old new (record { ending = ending; first = before; answered = []; most = after })

-- what a run under way keeps: for which states its replayer stands, the bytes that were read and not answered yet, and how
-- many lines were answered
pub record Kept : Type 1 where
  pub stands : State → Type 0
  pub buffer : List ℕ
  pub answered : ℕ

abbrev pub kept : (State → Type 0) → List ℕ → ℕ → Kept
kept stands buffer answered = record { stands = stands; buffer = buffer; answered = answered }

-- A run that keeps this has a script still to do.
pub record HasToDo {D : Type 0} (script : Script) (kept : Kept) (now : Outside D) : Type 0 where
  -- its replayer stands for the state in which the script starts, and the lines before it were answered;
  pub stands : kept.stands script.start
  pub count : kept.answered ≡ line_number script.before
  -- the script's bytes are those that were read, and those that the source has left;
  pub rest : List ℕ
  pub left_is : now.left ≡ Some rest
  pub bytes_are : script.bytes ≡ kept.buffer ++ rest
  -- and when the source was last asked no answer was owed
  pub kept_up : KeepsUp script.bytes now.asked 0

-- The next line was answered, and the run goes on.
pub record GoesOn {D : Type 0} (g : Ghosts D) (holds : Holding) (shows : Showing) (script : Script)
    (old new : Outside D) (kept : Kept) : Type 0 where
  -- the script's first line, and the bytes behind its end;
  pub text : List ℕ
  pub later : List ℕ
  pub bytes_are : script.bytes ≡ text ++ 10 ∷ later
  pub unended : HasNoLineEnd text
  -- its exchange, of which the answer was printed;
  pub exchange : Exchange
  pub exchange_is : exchange_at script.start text ≡ Some exchange
  pub taken : Takes old.held new.held (answer_text exchange.answer)
  -- the later lines are still to do;
  pub to_do : HasToDo (script_of exchange.after (script.before + 1) later) kept new
  -- and a disk that held the state before the line holds the one after it
  pub moves : HoldsState g holds script.start old.disk
      → MovesOn g holds shows old.disk new.disk script.start exchange.after

-- so it was, or the run ended
abbrev pub Steps : {D : Type 0} → Ghosts D → Holding → Showing → Stopping → Script → (old new : Outside D)
    → Kept → Option Ending → Type 0
Steps g holds shows stops script old new kept None = GoesOn g holds shows script old new kept
Steps g holds shows stops script old new kept (Some ending) =
    EndsRun g (DiskEndsFrom g holds shows stops old.disk new.disk script.start) script old new ending
