-- The process: the folder that its words name, and what a run over them came to.
use Rattle.std.specs.Prelude.{◌≡◌, ◌≢◌, ◌<◌, ◌⊎◌, ℕ, List, ◌∷◌, Option, Some, codes}
use Rattle.vl_disk.specs.Crash.{Image}
use Rattle.vl_disk.specs.DiskState.{DiskState}
use Rattle.vl_disk.specs.Faults.{Rose}
use Rattle.vl_disk.specs.Started.{IsRead}
use Rattle.vl_disk.specs.declared.watched.Watched.{Ghosts}
use Rattle.vl_io.specs.declared.sink.Sink as sink
use Rattle.vl_io.specs.declared.source.Source as source
use Rattle.vl_mem.specs.declared.outcome.Outcome.{Outcome}
use Rattle.vl_script_model.specs.Endings.{status_of}
use Rattle.vl_script_model.specs.Failing.{beside}
use Rattle.vl_script_model.specs.Opening.{IsRefused}
use Rattle.vl_script_model.specs.Reading.{streams}
use Rattle.vl_script_model.specs.Runs.{outside}
use Rattle.vl_script_model.specs.Sequential.{State}
use Rattle.vl_script_model.specs.Start.{StartsIn, StaysOpenable}
use Rattle.vl_script_model.specs.Steps.{IsRefusedRun}
use Rattle.vl_script_model.specs.Trial.{TriesInTime}
use Rattle.vl_script_model.specs.Trying.{trial_of}
use Rattle.vl_script_model.specs.declared.ending.Ending.{Ending}
use Rattle.vl_script_model.specs.declared.ending.Ending.TheVariants.{BadWords}
use Rattle.vl_script_model.specs.declared.fails.Refusal.{Refusal}
use Rattle.vl_replay.specs.Benchmark.{StatusOfBench, summary_of}
use Rattle.vl_prog.specs.Counting.{StatusOfIds}
use Rattle.vl_prog.specs.Driving.{StatusOfDrive}
use Rattle.vl_prog.specs.Run.{AreNotPlain, AskFor, EndsBy, FailedAtTables, FailedToRead, HasCountedFault, MetDamage}
use Rattle.vl_prog.specs.Run.{StatusOfAnswers, StatusOfTrial, StatusWithoutOpening, TellsOfInput}
use Rattle.vl_script.specs.declared.words.Command.{Command}
use Rattle.vl_script.specs.declared.words.Command.TheVariants.{Bench, Drive, Ids, Replay, Trial}

-- the folder that the second word names, and the working folder where there is none
abbrev pub folder_of : List (List ℕ) → List ℕ
folder_of (command ∷ folder ∷ words) = folder
folder_of words = codes "."

-- a process with these words may end with this status: with 2 just where they aren't plain, where else there was no
-- memory for them, or the last line couldn't be put
pub record MayExitWith (words : List (List ℕ)) (status : ℕ) : Type 0 where
  pub status_is : (ending : Ending) × (status ≡ status_of ending)
  pub not_plain : AreNotPlain words → (status ≡ 2) ⊎ ((status ≡ 5) ⊎ (status ≡ 7))
  pub plain : (command : Command) → AskFor words command → status ≢ 2

-- What a run is handed, and what it hands back.
pub record Handed (S K D : Type 0) : Type 0 where
  pub source : S
  pub sink : K
  pub disk : D

abbrev pub handed : {S K D : Type 0} → S → K → D → Handed S K D
handed source sink disk = record { source = source; sink = sink; disk = disk }

-- What the words ask for was done, and has this status.
pub record DoesAsAsked {S K D R : Type 0} (s : source.Ghosts S) (k : sink.Ghosts K) (g : Ghosts D) (faults : R → ℕ)
    (words : List (List ℕ)) (old new : Handed S K D) (status : ℕ) : Type 0 where
  -- A replay answered its input, and its status tells of that.
  pub answers : AskFor words Replay
      → StatusOfAnswers g faults (outside s k old.source old.sink old.disk) (outside s k new.source new.sink new.disk) status
  pub input : AskFor words Replay → TellsOfInput (streams s k old.source old.sink) (streams s k new.source new.sink) status
  -- A trial tried its input, and left the disk alone.
  pub tries : (stop : ℕ) (outcome : Outcome) (input : List ℕ) → AskFor words (Trial stop outcome) → s.left old.source ≡ Some input
      → StatusOfTrial (trial_of stop input outcome) (k.held old.sink) (k.held new.sink) (s.left new.source) status
  pub tries_in_time : (stop : ℕ) (outcome : Outcome) (input : List ℕ) → AskFor words (Trial stop outcome)
      → s.left old.source ≡ Some input
      → TriesInTime (trial_of stop input outcome) (k.held old.sink) (k.held new.sink) (s.asked new.source)
  pub untouched : (stop : ℕ) (outcome : Outcome) → AskFor words (Trial stop outcome) → new.disk ≡ old.disk
  -- A benchmark and clients printed what they came to, and left the source alone too.
  pub benches : (seed count : ℕ) → AskFor words (Bench seed count)
      → (new.source ≡ old.source) × (new.disk ≡ old.disk) × StatusOfBench k (summary_of seed count) old.sink new.sink status
  pub drives : (clients txns seed : ℕ) → AskFor words (Drive clients txns seed)
      → (new.source ≡ old.source) × (new.disk ≡ old.disk) × StatusOfDrive k clients txns seed old.sink new.sink status
  pub counts : (clients count lease : ℕ) → AskFor words (Ids clients count lease)
      → (new.source ≡ old.source) × (new.disk ≡ old.disk) × StatusOfIds k clients count lease old.sink new.sink status
  -- For words that aren't plain the usage line was printed.
  pub not_plain : AreNotPlain words
      → (new.source ≡ old.source) × (new.disk ≡ old.disk) × EndsBy k old.sink new.sink BadWords status

-- Each status came by its cause. What reads and writes beside the disk counts its faults so.
pub record HasItsCause {S K D R W : Type 0} (s : source.Ghosts S) (k : sink.Ghosts K) (g : Ghosts D) (faults : R → ℕ) (writes : W → ℕ)
    (words : List (List ℕ)) (old new : Handed S K D) (status : ℕ) : Type 0 where
  -- 2 doesn't come where the words are plain,
  pub no_usage_line : (command : Command) → AskFor words command → status ≢ 2
  -- and 3 not in a trial. It comes only by a fault of the disk, of a read or of a merge's write, and all others but 7 only without a
  -- fault of the disk.
  pub no_fault_in_trial : (stop : ℕ) (outcome : Outcome) → AskFor words (Trial stop outcome) → status ≢ 3
  pub disk_fault : status ≡ 3 → Rose (g.faults old.disk) (g.faults new.disk)
      ⊎ (FailedToRead (streams s k old.source old.sink) (streams s k new.source new.sink)
      ⊎ FailedAtTables g faults k old.source new.source old.disk new.disk old.sink new.sink)
  pub reader_fault : (start : State) → StartsIn g old.disk start → status ≡ 3
      → HasCountedFault g (beside faults writes) old.disk new.disk
  pub no_disk_fault : status ≢ 3 → status ≢ 7 → g.faults new.disk ≡ g.faults old.disk
  -- In a replay 4 comes only where reads of the disk refuse it as a store, which was left alone then, or where a line met damage.
  pub refused : AskFor words Replay → status ≡ 4
      → (((refusal : Refusal) × IsRefusedRun g k old.disk new.disk old.sink new.sink refusal) × (new.source ≡ old.source))
      ⊎ MetDamage (streams s k old.source old.sink) (streams s k new.source new.sink)
  -- And where they refuse it, it comes unless memory or the disk was wanting before, or the sink failed.
  pub refuses : AskFor words Replay → (state : DiskState) (read : Image) (refusal : Refusal)
      → g.told old.disk ≡ Some state → IsRead read state → IsRefused read refusal
      → StatusWithoutOpening g k old.disk new.disk old.sink new.sink refusal status × (new.source ≡ old.source)
  -- 6 and 7 come only by faults of the source and of the sink, and the others only without.
  pub read_fault : status ≡ 6 → Rose (s.faults old.source) (s.faults new.source) × (k.faults new.sink ≡ k.faults old.sink)
  pub write_fault : status ≡ 7 → Rose (k.faults old.sink) (k.faults new.sink)
  pub no_stream_fault : status < 6
      → (s.faults new.source ≡ s.faults old.source) × (k.faults new.sink ≡ k.faults old.sink)

-- What is said of a replay over a disk, whatever that holds: from what its source had left and its sink held, to the sink's end and how
-- the run ended.
abbrev pub Replaying : Type 0 → Type 0 → Type 1
Replaying K D = D → (left : Option (List ℕ)) → (old new : K) → Ending → Type 0

-- A run over these words, and over the disk that was made for their folder, left the source, the sink and the disk so.
pub record ServedOver {S K D R W : Type 0} (s : source.Ghosts S) (k : sink.Ghosts K) (g : Ghosts D) (faults : R → ℕ) (writes : W → ℕ)
    (IsMade : (folder : List ℕ) → D → Type 0) (Called : Replaying K D) (words : List (List ℕ)) (source source' : S) (sink sink' : K)
    (left : D) (status : ℕ) : Type 0 where
  -- the disk as it was made
  pub made : D
  pub is_made : IsMade (folder_of words) made
  pub does : DoesAsAsked s k g faults words (handed source sink made) (handed source' sink' left) status
  pub cause : HasItsCause s k g faults writes words (handed source sink made) (handed source' sink' left) status
  -- In a replay each line was answered what the engine's call gave.
  pub called : AskFor words Replay
      → (ending : Ending) × (status ≡ status_of ending) × Called made (s.left source) sink sink' ending
  -- A store may be opened there again, where one might before.
  pub again : (start : State) → StartsIn g made start → StaysOpenable g made left
