-- The state in which a run begins: that of the store that its disk opens as.
use Rattle.std.specs.Prelude.{◌≡◌, ◌⊎◌, ◌≤◌, ◌+◌, ◌-◌, ◌^◌, ℕ, List, [], length, None, Some, IsTrue}
use Rattle.std.specs.List.{AllByRecursion}
use Rattle.std.proofs.Common.{subst, sym}
use Rattle.vl_disk.specs.Crash.{Image}
use Rattle.vl_disk.specs.DiskState.{DiskState}
use Rattle.vl_disk.specs.Faults.{Rose, after_calls}
use Rattle.vl_disk.specs.Started.{IsRead}
use Rattle.vl_disk.specs.declared.name.Name.{Name as FileName}
use Rattle.vl_disk.specs.declared.watched.Watched.{Ghosts}
use Rattle.vl_io.specs.declared.sink.Sink as sink
use Rattle.vl_engine_laws.specs.Found.{IsDurable, recovered}
use Rattle.vl_engine_laws.specs.Shown.{Shown}
use Rattle.vl_engine_model.specs.Start.{layout_at_start}
use Rattle.vl_engine_model.specs.Store.Commits.{AreProper}
use Rattle.vl_engine_model.specs.Store.Lines.{Name}
use Rattle.vl_engine_model.specs.Store.Proper.{AreNamedOnce, HasRisingWrites, IsProper}
use Rattle.vl_engine_model.specs.Store.Things.{Thing}
use Rattle.vl_model.specs.History.{last_number}
use Rattle.vl_model.specs.Limits.{max_room}
use Rattle.vl_recover.specs.opening.Answers.{AreStrayNames, Finds, calls_to_open, used_up}
use Rattle.vl_recover.specs.opening.Opening.{NamesNoTable}
use Rattle.vl_recover.specs.opening.Plans.{active_log, new_state}
use Rattle.vl_recover.specs.crash.Starts.{MayOpen}
use Rattle.vl_script_model.specs.Durable.{DiskEnds, IsAsBefore, Tells}
use Rattle.vl_script_model.specs.Endings.{Culprit, Evidence}
use Rattle.vl_script_model.specs.Exchanges.{AreExplained, exchanges_from}
use Rattle.vl_script_model.specs.Failing.{ReaderFailed}
use Rattle.vl_script_model.specs.laws.Explained.{none_sound}
use Rattle.vl_script_model.specs.laws.Laws.{StaysExplained, exchanges_from-explained}
use Rattle.vl_script_model.specs.Runs.{Course, EndsRunBy, Outside, script_of}
use Rattle.vl_script_model.specs.Sequential.{State, history_of}
use Rattle.vl_script_model.specs.Stopped.{AreNumberedUpTo, GivesUpTo}
use Rattle.vl_script_model.specs.Steps.{FinishesBy}
use Rattle.vl_script_model.specs.Stored.{IsStopped, IsStored}
use Rattle.vl_script_model.specs.declared.ending.Ending.{Ending}
use Rattle.vl_script_model.specs.declared.ending.Ending.TheVariants.{DiskFault}

-- An opening of a disk on which this is found makes a store of which no file passes this number.
pub record OpensUpTo {read : Image} (files : ℕ) (disk : DiskState) (found : Finds read) : Type 0 where
  -- none that stands or was removed passes it,
  pub numbered : AreNumberedUpTo files disk
  -- nor does the manifest that is made, or the log that takes commits then;
  pub manifest : found.greatest.manifest + 1 ≤ files
  pub log : active_log found.greatest found.opening.state found.logs ≤ files
  -- and that manifest gives at most the next ones
  pub next : GivesUpTo files (new_state found.greatest found.opening.state)

-- A run over this disk begins in this state: the disk opens as a store, whose logs show the state's history, which has
-- no commits yet but those of the logs.
pub record StartsIn {D : Type 0} (g : Ghosts D) (disk : D) (s : State) : Type 0 where
  pub state : DiskState
  pub told : g.told disk ≡ Some state
  -- what reads give of it, and what opening finds there, with a number left for each file that it makes
  pub read : Image
  pub is_read : IsRead read state
  pub found : Finds read
  pub unused : used_up found ≡ None
  -- they show the history, which is gone on with from its last number,
  pub shown : Shown read (history_of s) (last_number (history_of s))
  pub proper : AreProper s.store.commits
  -- over the layout with which an engine begins
  pub layout : s.store.layout ≡ layout_at_start max_room (recovered found shown)
  -- no name stands for anything yet
  pub things : s.store.things ≡ []
  -- opening asks for so many changing calls
  pub strays : List FileName
  pub are_strays : AreStrayNames read found.opening strays
  pub calls : s.calls ≡ after_calls (calls_to_open found (length strays)) (g.calls disk)
  -- `files` is a number, any such one, that no file of the store passes
  pub files : OpensUpTo s.files state found
  -- and where the state says so, a store may be opened on the disk
  pub openable : IsTrue s.openable → MayOpen state

-- A store may be opened on the disk again, where one might before.
abbrev pub StaysOpenable : {D : Type 0} → Ghosts D → (old new : D) → Type 0
StaysOpenable g old new = Tells g old MayOpen → Tells g new MayOpen

-- No line was answered, and no more changing calls were made than an opening makes.
abbrev pub StoppedAtOpening : {D : Type 0} → Ghosts D → (old new : D) → Course → Type 0
StoppedAtOpening g old new run = (run.answered ≡ []) × (g.calls old ≤ 2 ^ 64 - 1 → g.calls new ≤ run.first.calls)

-- What a run did to a disk whose store is durable, so that a store may be opened on it. Where the store wasn't opened, the disk is
-- as it was, unless it failed; and no line was answered.
abbrev pub DiskEndsFromStart : {D : Type 0} → Ghosts D → (old new : D) → Course → Type 0
DiskEndsFromStart g old new run =
    IsTrue run.first.openable → Tells g old IsDurable
    → DiskEnds g IsStored Shown IsStopped (IsAsBefore g old new) (StoppedAtOpening g old new run) old new run

-- An opening failed since a read of a table did, which the opening's reader counted.
pub record FailsAtTables {D R : Type 0} (g : Ghosts D) (faults : R → ℕ) (old new : D) : Type 0 where
  pub reader : ReaderFailed faults
  -- so the disk gives readers that may fail;
  pub gives : g.gives_steady old → ⊥
  -- the current manifest names tables, where the disk tells its bytes;
  pub tables : (state : DiskState) (read : Image) → g.told old ≡ Some state → IsRead read state → NamesNoTable read → ⊥
  -- and the disk counts no fault, and is as it was
  pub steady : g.faults new ≡ g.faults old
  pub unchanged : IsAsBefore g old new

-- A run ended so: the line of a disk's fault was put, or the sink failed there.
abbrev pub EndsAtTables : {D K R : Type 0} → Ghosts D → (faults : R → ℕ) → sink.Ghosts K → (old new : D) → (sink sink' : K) → Ending
    → Type 0
EndsAtTables g faults k old new sink sink' ending = FailsAtTables g faults old new × FinishesBy k sink sink' DiskFault ending

-- What shows which of them ended a run that opens its store first: of the source and the disk that a fault was counted. In place of
-- the disk its opening's reader may have counted one, before the first line.
abbrev pub EvidenceFromStart : {D R : Type 0} → Ghosts D → (faults : R → ℕ) → (old new : Outside D) → (answered : ℕ) → Culprit → Type 0
EvidenceFromStart g faults old new answered =
    Evidence (Rose old.source_faults new.source_faults)
    (Rose (g.faults old.disk) (g.faults new.disk) ⊎ (FailsAtTables g faults old.disk new.disk × (answered ≡ 0)))

-- A run answered the lines of the input that its source had left, as the sequential store does from the state in which a run
-- over its disk begins, and ended so. It says what was printed and how many lines were answered, that each answer was put before
-- the next line was read, and what was done to a disk whose store is durable: it stays so, and its entries show the accepted
-- commits.
abbrev pub AnswersInput : {D R : Type 0} → Ghosts D → (faults : R → ℕ) → (old new : Outside D) → Ending → Type 0
AnswersInput g faults old new ending = (start : State) (input : List ℕ)
    → StartsIn g old.disk start → old.left ≡ Some input
    → EndsRunBy (EvidenceFromStart g faults old new) (DiskEndsFromStart g old.disk new.disk) (script_of start 0 input) old new ending

-- ---- what is read in such a run is explained

-- nothing is live yet
pub start_proper : (s : State) → AreProper s.store.commits → s.store.things ≡ [] → IsProper s.store
start_proper s proper none = record {
  commits = proper;
  writes = subst (AllByRecursion (λ (t : Name × Thing). HasRisingWrites t.1)) (sym none) tt;
  names = subst AreNamedOnce (sym none) tt;
}

pub explained_from : StaysExplained → (s : State) (texts : List (List ℕ)) → AreProper s.store.commits → s.store.things ≡ []
    → AreExplained (exchanges_from s texts)
explained_from stay s texts proper none =
    exchanges_from-explained stay texts s (none_sound s.store (start_proper s proper none) none)

pub all_explained : StaysExplained → {D : Type 0} (g : Ghosts D) (disk : D) (s : State) (texts : List (List ℕ))
    → StartsIn g disk s → AreExplained (exchanges_from s texts)
all_explained stay g disk s texts starts = explained_from stay s texts starts.proper starts.things
