-- Whole runs of the command line: what is done for its words and its input.
use Rattle.std.specs.Prelude.{◌≡◌, ◌≢◌, ◌⊎◌, ℕ, List, Option, None, Some}
use Rattle.vl_disk.specs.Faults.{Rose}
use Rattle.vl_disk.specs.declared.name.Name.{Name}
use Rattle.vl_disk.specs.declared.watched.Watched.{Ghosts}
use Rattle.vl_script.specs.Words.{command_of}
use Rattle.vl_script.specs.declared.words.Command.{Command}
use Rattle.vl_io.specs.declared.sink.Sink as sink
use Rattle.vl_script_model.specs.Endings.{no_memory_line, status_of}
use Rattle.vl_script_model.specs.Failing.{FailsBeside}
use Rattle.vl_script_model.specs.Reading.{Streams, ReadsInput}
use Rattle.vl_script_model.specs.Runs.{Outside}
use Rattle.vl_script_model.specs.Start.{AnswersInput, EndsAtTables}
use Rattle.vl_script_model.specs.Steps.{EndsWithoutOpening, Finishes, FinishesBy}
use Rattle.vl_script_model.specs.Trial.{EndsTrial, Trial}
use Rattle.vl_script_model.specs.declared.ending.Ending.{Ending}
use Rattle.vl_script_model.specs.declared.ending.Ending.TheVariants.{Complete, Damaged, NoMemory, ReaderFault, Stopped}
use Rattle.vl_script_model.specs.declared.fails.Refusal.{Refusal}

-- the words are plain, and ask for this
abbrev pub AskFor : List (List ℕ) → Command → Type 0
AskFor words command = command_of words ≡ Some command

-- they aren't plain
abbrev pub AreNotPlain : List (List ℕ) → Type 0
AreNotPlain words = command_of words ≡ None

-- A run answered its input, and has the status of its ending, which isn't that of a trial's stop. The table of endings says the status, the
-- culprit and the last line of each.
abbrev pub StatusOfAnswers : {D R : Type 0} → Ghosts D → (faults : R → ℕ) → (old new : Outside D) → (status : ℕ) → Type 0
StatusOfAnswers g faults old new status =
    (ending : Ending) × (status ≡ status_of ending) × (ending ≢ Stopped) × AnswersInput g faults old new ending

-- a run that wasn't begun put the line of this ending and has its status, or put a front of it and has the sink's
abbrev pub EndsBy : {K : Type 0} → sink.Ghosts K → (old new : K) → Ending → (status : ℕ) → Type 0
EndsBy g old new meant status =
    (ending : Ending) × (status ≡ status_of ending) × FinishesBy g old new meant ending

-- a run over a disk of which reads give this refusal ended by it, by want of memory or by a fault
abbrev pub StatusWithoutOpening : {D K : Type 0} → Ghosts D → sink.Ghosts K → (disk disk' : D)
    → (sink sink' : K) → Refusal → (status : ℕ) → Type 0
StatusWithoutOpening g k disk disk' sink sink' refusal status =
    (ending : Ending) × (status ≡ status_of ending) × EndsWithoutOpening g k disk disk' sink sink' refusal ending

-- A run with this status tells so much of the input that its source had left, by the ending that the status is of.
abbrev pub TellsOfInput : (old new : Streams) → (status : ℕ) → Type 0
TellsOfInput old new status = (input : List ℕ) → old.left ≡ Some input
    → (ending : Ending) × (status ≡ status_of ending) × ReadsInput input old new ending

-- A run met damage: a read gave bytes of this file that aren't what should stand at this place. So much it tells of the input
-- that its source had left: the lines before were answered, and the line of the damage was put last.
abbrev pub MetDamage : (old new : Streams) → Type 0
MetDamage old new =
    (name : Name) × (place : ℕ)
    × ((input : List ℕ) → old.left ≡ Some input → ReadsInput input old new (Damaged name place))

-- A line's read of an open store's file failed, or a merge's write of a file that was lent to it. So much it tells of the input: the
-- lines before were answered, and the line of a disk's fault was put last.
abbrev pub FailedToRead : (old new : Streams) → Type 0
FailedToRead old new = (input : List ℕ) → old.left ≡ Some input → ReadsInput input old new ReaderFault

-- A run ended at its opening since a reader of tables failed, before any line was read.
abbrev pub FailedAtTables : {S D K R : Type 0} → Ghosts D → (faults : R → ℕ) → sink.Ghosts K → (source source' : S) (disk disk' : D)
    (sink sink' : K) → Type 0
FailedAtTables g faults k source source' disk disk' sink sink' =
    (source' ≡ source) × ((ending : Ending) × EndsAtTables g faults k disk disk' sink sink' ending)

-- the disk counted a fault meanwhile; or some reader or writer of its kind has counted one, where what it gives may fail
abbrev pub HasCountedFault : {D R : Type 0} → Ghosts D → (faults : R → ℕ) → (disk disk' : D) → Type 0
HasCountedFault g faults disk disk' = Rose (g.faults disk) (g.faults disk') ⊎ FailsBeside (g.gives_steady disk) faults

-- A trial has the status of its ending, and printed what such a trial prints.
abbrev pub StatusOfTrial : Trial → (held held' left : Option (List ℕ)) → (status : ℕ) → Type 0
StatusOfTrial t held held' left status =
    (ending : Ending) × (status ≡ status_of ending) × EndsTrial t held held' left ending

-- Lines that tell this were printed, and nothing else; or memory ran out, and the line of that was. Either may be cut by the sink.
abbrev pub PrintsLines : {K : Type 0} → sink.Ghosts K → (Tells : List ℕ → Type 0) → (old new : K) → Ending → Type 0
PrintsLines k Tells old new result =
    ((text : List ℕ) × Tells text × Finishes k old new text Complete result)
    ⊎ Finishes k old new no_memory_line NoMemory result

-- Such a run has the status of its ending.
abbrev pub StatusOfLines : {K : Type 0} → sink.Ghosts K → (Tells : List ℕ → Type 0) → (old new : K) → (status : ℕ) → Type 0
StatusOfLines k Tells old new status = (ending : Ending) × (status ≡ status_of ending) × PrintsLines k Tells old new ending
