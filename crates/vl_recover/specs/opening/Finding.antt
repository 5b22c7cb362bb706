-- What the reading half of an opening gives to the half that repairs.
use Rattle.std.specs.Prelude.{◌≡◌, ◌≤◌, ℕ, false, List, [], ◌∷◌, map, Option, None, Some, Result, Ok, Err}
use Rattle.std.specs.Option.{ForSome, option_map}
use Rattle.vl_disk.specs.Crash.{Image}
use Rattle.vl_disk.specs.Disk.{Stands}
use Rattle.vl_disk.specs.DiskState.{DiskState}
use Rattle.vl_disk.specs.declared.name.Name.{Name}
use Rattle.vl_disk.specs.declared.name.Name.TheVariants.{Log, Manifest, Table}
use Rattle.vl_manifest.specs.declared.state.ManifestState.{ManifestState}
use Rattle.vl_model.specs.Limits.{max_file_number}
use Rattle.vl_recover.specs.declared.fails.OpenError.{OpenError}
use Rattle.vl_recover.specs.declared.fails.OpenError.TheVariants as why
use Rattle.vl_recover.specs.declared.found.Findings.{Findings}
use Rattle.vl_recover.specs.declared.found.GreatestNumbers.{GreatestNumbers}
use Rattle.vl_recover.specs.declared.found.HeldFiles.{HeldFiles}
use Rattle.vl_recover.specs.declared.found.LastLog.{LastLog}
use Rattle.vl_recover.specs.opening.Answers.{AnswersBy, AreStrayNames, Finds, held_log, no_file}
use Rattle.vl_recover.specs.opening.FoundTables.{all_found}
use Rattle.vl_recover.specs.opening.Opening.{Current, FoundTable, NamedLevels, NamedLogs, led_into}
use Rattle.vl_recover.specs.opening.Plans.{Greatest}
use Rattle.vl_recover.specs.opening.Results.{HasFailed, IsDiskFault, recovery_by, frozen_log}
use Rattle.vl_recover.specs.opening.Walk.{StandingLog, content_end, format_of, has_some, keeps_header}

abbrev pub greatest_of : GreatestNumbers → Greatest
greatest_of g = record { log = g.log; table = g.table; manifest = g.manifest }

-- each is a number that a file may have, or 0
pub record AreFileNumbers (g : GreatestNumbers) : Type 0 where
  pub log : g.log ≤ max_file_number
  pub table : g.table ≤ max_file_number
  pub manifest : g.manifest ≤ max_file_number

-- ---- the last log

abbrev pub last_of : List StandingLog → Option StandingLog
last_of [] = None
last_of (q ∷ []) = Some q
last_of (q ∷ p ∷ ps) = last_of (p ∷ ps)

abbrev pub last_log : StandingLog → LastLog
last_log q = record {
  number = q.number;
  length = q.length;
  format = format_of q.reading.header;
  header = keeps_header q.reading.header q.reading.frames;
  end = content_end q.reading;
  has_frames = has_some q.reading.frames;
}

-- the last log, where there is one, is no greater than the greatest
abbrev pub IsUpTo : ℕ → Option LastLog → Type 0
IsUpTo greatest None = Unit {0}
IsUpTo greatest (Some last) = last.number ≤ greatest

-- ---- all of it

-- what was found is what the image has
pub record IsFound (image : Image) (found : Findings) : Type 0 where
  pub finds : Finds image
  pub state : found.state ≡ finds.opening.state
  pub number : found.number ≡ finds.opening.number
  pub frozen : map frozen_log found.frozen.items ≡ map held_log finds.opening.logs
  pub greatest : greatest_of found.greatest ≡ finds.greatest
  pub last : found.last ≡ option_map last_log (last_of finds.logs)
  pub strays : AreStrayNames image finds.opening found.strays.items

-- the stages before the logs from head on gave this: the manifest's state, its tables, and the logs that these lead into
pub record Leads (image : Image) (state : ManifestState) (levels : List (List FoundTable)) (led : List ℕ) : Type 0 where
  pub current : Current image (Ok state)
  pub tables : NamedLevels false image state.levels (Ok levels)
  pub logs : NamedLogs image led (Ok tt)
  pub led_is : led ≡ led_into levels

-- it was found, with these tables and something beside, or that is the answer
abbrev pub IsAllFound : {X : Type 0} → Image → List (List FoundTable) → Result (Findings × X) OpenError → Type 0
IsAllFound image levels (Ok found) = (is : IsFound image found.0) × (levels ≡ is.finds.opening.levels)
IsAllFound image levels (Err why) = AnswersBy image (recovery_by why)

-- It was found, with these tables opened, or that is the answer.
abbrev pub FindsSo : {H : Type 0} → Image → Result (Findings × HeldFiles H) OpenError → Type 0
FindsSo image (Ok found) = (is : IsFound image found.0) × (all_found found.1.levels ≡ is.finds.opening.levels)
FindsSo image (Err why) = AnswersBy image (recovery_by why)

-- the disk failed
abbrev pub IsFault : {A : Type 0} → Result A OpenError → Type 0
IsFault (Ok a) = ⊥
IsFault (Err why) = HasFailed (recovery_by why)

-- the disk failed itself, and not the reader, which has counted so many faults
abbrev pub FailsAtDisk : {A : Type 0} → ℕ → Result A OpenError → Type 0
FailsAtDisk read_faults (Ok a) = ⊥
FailsAtDisk read_faults (Err why) = IsDiskFault read_faults (recovery_by why)

-- memory ran out, or the disk failed
abbrev pub IsExcused : OpenError → Type 0
IsExcused why.NotAStore = ⊥
IsExcused (why.NewerFormat format) = ⊥
IsExcused (why.Damaged name place) = ⊥
IsExcused (why.Exhausted counter) = ⊥
IsExcused why.NoMemory = Unit {0}
IsExcused (why.Disk name) = Unit {0}

-- where the disk failed this is so of the name that is answered
abbrev pub IsFaultOf : (Name → Type 0) → OpenError → Type 0
IsFaultOf P why.NotAStore = Unit {0}
IsFaultOf P (why.NewerFormat format) = Unit {0}
IsFaultOf P (why.Damaged name place) = Unit {0}
IsFaultOf P (why.Exhausted counter) = Unit {0}
IsFaultOf P why.NoMemory = Unit {0}
IsFaultOf P (why.Disk name) = P name

-- it is that of a manifest that stands,
pub record IsReadManifest (told : Option DiskState) (name : Name) : Type 0 where
  pub number : ℕ
  pub is : name ≡ Manifest number
  pub stands : ForSome told (Stands name)

-- of a table that stands,
pub record IsReadTable (told : Option DiskState) (name : Name) : Type 0 where
  pub number : ℕ
  pub is : name ≡ Table number
  pub stands : ForSome told (Stands name)

-- or of a log that stands
pub record IsReadLog (told : Option DiskState) (name : Name) : Type 0 where
  pub number : ℕ
  pub is : name ≡ Log number
  pub stands : ForSome told (Stands name)

-- of a file that is read while the disk is only read, or of none, where its files couldn't be listed
pub data IsReadName (told : Option DiskState) (name : Name) : Type 0 where
  of_none : name ≡ no_file → IsReadName told name
  of_manifest : IsReadManifest told name → IsReadName told name
  of_table : IsReadTable told name → IsReadName told name
  of_log : IsReadLog told name → IsReadName told name

abbrev pub IsFaultAt : Option DiskState → OpenError → Type 0
IsFaultAt told = IsFaultOf (IsReadName told)
