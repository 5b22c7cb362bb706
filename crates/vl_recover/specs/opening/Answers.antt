-- What an opening answers.
use Rattle.std.specs.Prelude.{◌≡◌, ◌≢◌, ◌⊎◌, ◌↔◌, ◌<◌, ℕ, ◌+◌, List, [], ◌∷◌, ◌++◌, map, Option, None, Some, Ok, Err}
use Rattle.std.specs.Prelude.{IsSome, Contains, AllPairs}
use Rattle.std.specs.FinMap.{get}
use Rattle.vl_disk.specs.Crash.{Image}
use Rattle.vl_disk.specs.declared.name.Name.{Name}
use Rattle.vl_disk.specs.declared.name.Name.TheVariants.{Log, Table, Manifest}
use Rattle.vl_engine_model.specs.Logs.{memtable, new_segment}
use Rattle.vl_engine_model.specs.declared.segment.Segment.{Segment}
use Rattle.vl_model.specs.Formats.{log_format}
use Rattle.vl_model.specs.declared.counter.Counter.{Counter}
use Rattle.vl_model.specs.declared.entry.Entry.{Entry}
use Rattle.vl_model.specs.declared.log_frame.LogFrame.{LogFrame}
use Rattle.vl_manifest.specs.declared.state.ManifestState.{ManifestState}
use Rattle.vl_recover.specs.opening.Opening.{FoundTable, IsAmong, IsNamed, Opening, Opens, Refusal, StandingLogs, led_into}
use Rattle.vl_recover.specs.opening.Plans.{AreGreatest, Greatest, active_log, calls_of_opening, exhausted, log_made, new_state}
use Rattle.vl_recover.specs.opening.Walk.{StandingLog, format_of}

-- a log that takes no more commits: its number, its length in bytes, and the entries of its memtable
pub record HeldLog : Type 0 where
  pub number : ℕ
  pub length : ℕ
  pub entries : List Entry

abbrev pub held_log : Segment → HeldLog
held_log s = record { number = s.number; length = s.length; entries = memtable s }

-- an opened store, as far as it is told of
pub record Opened : Type 0 where
  -- the number of the last commit
  pub number : ℕ
  -- what the new manifest says, and its number
  pub state : ManifestState
  pub manifest : ℕ
  -- the tables of each level that it names
  pub levels : List (List FoundTable)
  -- the logs with frames, rising, and the number of the one without, which takes commits
  pub frozen : List HeldLog
  pub active : ℕ

-- what an opening finds out from what a read gives
pub record Finds (image : Image) : Type 0 where
  pub opening : Opening
  pub opens : Opens image (Ok opening)
  pub greatest : Greatest
  pub are_greatest : AreGreatest image greatest
  pub logs : List StandingLog
  pub standing : StandingLogs image opening.state.head logs

abbrev pub used_up : {image : Image} → Finds image → Option Counter
used_up found = exhausted found.greatest found.opening.state found.logs

-- the store that is opened then
abbrev pub opened_from : {image : Image} → Finds image → Opened
opened_from found = record {
  number = found.opening.number;
  state = new_state found.greatest found.opening.state;
  manifest = found.greatest.manifest + 1;
  levels = found.opening.levels;
  frozen = map held_log found.opening.logs;
  active = active_log found.greatest found.opening.state found.logs;
}

-- the logs that stand then from head on, rising
abbrev pub and_made : Option ℕ → List Segment
and_made None = []
and_made (Some number) = new_segment log_format number [] ∷ []

-- the format of the last log: one without frames has the one that is written, in a new header if need be
abbrev pub last_format : Option ℕ → List LogFrame → ℕ
last_format header [] = log_format
last_format header (f ∷ fs) = format_of header

abbrev pub as_segments : List StandingLog → List Segment
as_segments [] = []
as_segments (q ∷ []) =
    new_segment (last_format q.reading.header q.reading.frames) q.number q.reading.frames ∷ []
as_segments (q ∷ p ∷ ps) =
    new_segment (format_of q.reading.header) q.number q.reading.frames ∷ as_segments (p ∷ ps)

abbrev pub logs_then : {image : Image} → Finds image → List Segment
logs_then found = as_segments found.logs
    ++ and_made (log_made (new_state found.greatest found.opening.state) found.logs)

-- how many changing calls it makes to open, and to remove so many files
abbrev pub calls_to_open : {image : Image} → Finds image → (removed : ℕ) → ℕ
calls_to_open found removed =
    calls_of_opening found.greatest found.opening.state found.logs removed

-- what is named where the files couldn't be listed: no manifest has this number
abbrev pub no_file : Name
no_file = Manifest 0

-- the result of an opening: it was opened; it was refused by what stands there, or since a number is
-- used up; memory ran out; or the disk failed at a file, or at listing its files
pub data Recovery : Type 0 where
  Recovered : Opened → Recovery
  Refused : Refusal → Recovery
  UsedUp : Counter → Recovery
  NoMemory : Recovery
  Faulted : Name → Recovery

-- It is the answer to what a read gives; for want of memory, and where the disk fails, it may give
-- up.
abbrev pub AnswersBy : Image → Recovery → Type 0
AnswersBy image (Recovered opened) =
    (found : Finds image) × (used_up found ≡ None) × (opened ≡ opened_from found)
AnswersBy image (Refused why) = Opens image (Err why)
AnswersBy image (UsedUp counter) = (found : Finds image) × (used_up found ≡ Some counter)
AnswersBy image NoMemory = Unit {0}
AnswersBy image (Faulted name) = Unit {0}

-- reads give an image that isn't opened: it is refused, or a number is used up
abbrev pub IsNotOpened : Image → Type 0
IsNotOpened image =
    ((why : Refusal) × Opens image (Err why)) ⊎ ((found : Finds image) × (used_up found ≢ None))

-- ---- the files that are removed

-- a manifest, a table that isn't named, or a log below head that no table leads into: the new manifest needs none of them
abbrev pub IsStrayName : Opening → Name → Type 0
IsStrayName o (Log number) = (number < o.state.head) × (IsAmong (led_into o.levels) number → ⊥)
IsStrayName o (Table number) = IsNamed o.state.levels number → ⊥
IsStrayName o (Manifest number) = Unit {0}

-- these are the strays of an image that opens so, each once
pub record AreStrayNames (image : Image) (o : Opening) (names : List Name) : Type 0 where
  pub all : (name : Name) → Contains names name ↔ (IsSome (get image name) × IsStrayName o name)
  pub once : AllPairs (λ a b. a ≢ b) names
