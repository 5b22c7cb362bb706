-- The stages of a trial: the opening, the run up to the stop, and the opening behind it.
use Rattle.std.specs.Prelude.{◌≡◌, ◌⊎◌, ◌<◌, ◌≤◌, ℕ, List, [], Option, Some}
use Rattle.vl_script.specs.Text.{reopened_text}
use Rattle.vl_io.specs.Sink.{Takes}
use Rattle.vl_io.specs.declared.sink.Sink as sink
use Rattle.vl_mem.specs.CrashImage.{crash_image}
use Rattle.vl_mem.specs.Held.{held_bytes}
use Rattle.vl_mem.specs.StoppingDisk.{StopsPast, faults_on, state_on}
use Rattle.vl_mem.specs.contracts.stopping_disk.StoppingDiskWatched.TheImpl as memory
use Rattle.vl_mem.specs.declared.held.MemHeld.{MemHeld}
use Rattle.vl_mem.specs.declared.outcome.Outcome.{Outcome}
use Rattle.vl_mem.specs.declared.stopping_disk.StoppingDisk.{StoppingDisk}
use Rattle.vl_model.specs.History.{History, contents_at, last_number}
use Rattle.vl_recover.specs.declared.fails.OpenError.{OpenError}
use Rattle.vl_recover.specs.declared.fails.OpenError.TheVariants as why
use Rattle.vl_script_model.specs.Durable.{HoldsState}
use Rattle.vl_script_model.specs.Endings.{no_memory_line, read_fault_line}
use Rattle.vl_script_model.specs.Exchanges.{answers_text}
use Rattle.vl_script_model.specs.Reopens.{Reopens}
use Rattle.vl_script_model.specs.Sequential.{State, history_of}
use Rattle.vl_script_model.specs.Steps.{Finishes}
use Rattle.vl_script_model.specs.Stored.{IsStored}
use Rattle.vl_script_model.specs.Trial.{EndsTrial, MeetsStop, ReachesEnd, Trial, answered_lines, begun, reopened_state}
use Rattle.vl_script_model.specs.declared.ending.Ending.{Ending}
use Rattle.vl_script_model.specs.declared.ending.Ending.TheVariants.{Complete, BadLine, BadWords, DiskFault, ReaderFault}
use Rattle.vl_script_model.specs.declared.ending.Ending.TheVariants.{Refused, Damaged, NoMemory, ReadFault, WriteFault}
use Rattle.vl_script_model.specs.declared.ending.Ending.TheVariants.{AnswerCut, Stopped}

-- the bytes of a file of a disk in memory, which it always tells
abbrev pub all_told : MemHeld → Option (List ℕ)
all_told held = Some (held_bytes held)

-- A store was opened on an empty disk that stops.
pub record IsOnTrial (stop : ℕ) (stands : State → Type 0) (disk : StoppingDisk) : Type 0 where
  pub stands_for : stands begun
  pub held : HoldsState memory.ghosts IsStored begun disk
  -- its stop is still ahead, and nothing has failed
  pub past : StopsPast disk (Some stop)
  pub sound : faults_on disk ≡ 0
  pub opened : begun.calls ≤ stop

-- whatever a crash does to the disk, what it leaves opens showing the last commit of this state
abbrev pub LeavesToOpen : StoppingDisk → (Outcome → State) → Type 0
LeavesToOpen disk shown = (outcome : Outcome)
    → Reopens (crash_image outcome (state_on disk)) (history_of (shown outcome)) (last_number (history_of (shown outcome)))

-- none was opened: memory ran out, or the stop was met, and no commit is left
abbrev pub StopsOpening : ℕ → OpenError → StoppingDisk → Type 0
StopsOpening stop why.NotAStore disk = ⊥
StopsOpening stop (why.NewerFormat format) disk = ⊥
StopsOpening stop (why.Damaged name place) disk = ⊥
StopsOpening stop (why.Exhausted counter) disk = ⊥
StopsOpening stop why.NoMemory disk = Unit {0}
StopsOpening stop (why.Disk name) disk = (stop < begun.calls) × LeavesToOpen disk (λ _. begun)

abbrev pub trial_of : ℕ → List ℕ → Outcome → Trial
trial_of stop input outcome = record { stop = stop; outcome = outcome; input = input }

-- the answers to all lines before the stop were put, and the disk leaves what is to be shown, whatever a crash does to it
pub record HasTried (t : Outcome → Trial) (held held' : Option (List ℕ)) (disk : StoppingDisk) : Type 0 where
  pub taken : (outcome : Outcome) → Takes held held' (answers_text (answered_lines (t outcome)))
  pub leaves : LeavesToOpen disk (λ outcome. reopened_state (t outcome))

-- What the run up to the stop came to: to the end of the input, or to the stop; or the trial ended.
abbrev pub ComesTo : (Outcome → Trial) → (held held' left : Option (List ℕ)) → StoppingDisk → Ending → Type 0
ComesTo t held held' left disk Complete =
    ((outcome : Outcome) → ReachesEnd (t outcome)) × (left ≡ Some []) × HasTried t held held' disk
ComesTo t held held' left disk Stopped =
    ((outcome : Outcome) → MeetsStop (t outcome)) × ((rest : List ℕ) × (left ≡ Some rest)) × HasTried t held held' disk
ComesTo t held held' left disk BadLine = (outcome : Outcome) → EndsTrial (t outcome) held held' left BadLine
ComesTo t held held' left disk BadWords = ⊥
ComesTo t held held' left disk DiskFault = ⊥
ComesTo t held held' left disk ReaderFault = ⊥
ComesTo t held held' left disk (Refused refusal) = ⊥
ComesTo t held held' left disk (Damaged name place) = ⊥
ComesTo t held held' left disk NoMemory = (outcome : Outcome) → EndsTrial (t outcome) held held' left NoMemory
ComesTo t held held' left disk ReadFault = (outcome : Outcome) → EndsTrial (t outcome) held held' left ReadFault
ComesTo t held held' left disk WriteFault = (outcome : Outcome) → EndsTrial (t outcome) held held' left WriteFault
ComesTo t held held' left disk AnswerCut = (outcome : Outcome) → EndsTrial (t outcome) held held' left AnswerCut

-- what the history has at a number was printed, or memory ran out
abbrev pub ReopensAs : {K : Type 0} → sink.Ghosts K → History → ℕ → (old new : K) → Ending → Type 0
ReopensAs k h m old new result =
    Finishes k old new (reopened_text m (contents_at h m)) Complete result
    ⊎ Finishes k old new no_memory_line NoMemory result

-- the source was read to its end before, or it failed
abbrev pub PassesAndReopens : {K : Type 0} → sink.Ghosts K → (left : Option (List ℕ)) → History → ℕ → (old new : K) → Ending → Type 0
PassesAndReopens k left h m old new result =
    ((left ≡ Some []) × ReopensAs k h m old new result) ⊎ Finishes k old new read_fault_line ReadFault result
