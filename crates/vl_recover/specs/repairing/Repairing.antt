-- How an opening repairs a store: the calls that it makes, what they make of the disk, and what the disk may
-- be at each moment of them.
use Rattle.std.specs.Prelude.{◌≡◌, ◌⊎◌, ℕ, ◌+◌, ◌==◌, if◌then◌else◌, List, [], ◌∷◌, length, Option, None, Some}
use Rattle.vl_disk.specs.Crash.{Image, WhileAppending, WhileCutting, WhileRemoving, WhileSyncing}
use Rattle.vl_disk.specs.DiskState.{DiskState, appended, cut_to, synced, without}
use Rattle.vl_disk.specs.MadeFile.{WhileMaking, made}
use Rattle.vl_disk.specs.declared.name.Name.{Name}
use Rattle.vl_disk.specs.declared.name.Name.TheVariants.{Log, Manifest}
use Rattle.vl_manifest.specs.Manifest.{manifest_bytes}
use Rattle.vl_manifest.specs.States.{whole_edits}
use Rattle.vl_manifest.specs.declared.state.ManifestState.{ManifestState}
use Rattle.vl_recover.specs.opening.Answers.{AreStrayNames, Finds}
use Rattle.vl_recover.specs.opening.Plans.{Greatest, calls_to_make, log_made, new_state}
use Rattle.vl_recover.specs.opening.Walk.{StandingLog, content_end, keeps_header}
use Rattle.vl_model.specs.Formats.{log_format}
use Rattle.vl_seglog.specs.Frames.{log_header}

-- ---- what is to be done

-- what becomes of the last log from head on
pub data LastLog : Type 0 where
  -- no log stands from head on
  NoLast : LastLog
  -- the log of this number has its header and ends with its frames: it is synced
  Kept : ℕ → LastLog
  -- it goes on behind its frames, which end at this length: it is cut to it, and synced
  Cut : ℕ → ℕ → LastLog
  -- its header isn't kept: it is cut to nothing, gets a header, and is synced
  Rewritten : ℕ → LastLog
  -- it is empty: it gets a header, and is synced
  Headed : ℕ → LastLog

-- What an opening does to a disk, in this order.
pub record Plan : Type 0 where
  -- the number and the bytes of the new manifest, which is made first
  pub manifest : ℕ
  pub piece : List ℕ
  pub last : LastLog
  -- the log that is made
  pub log : Option ℕ
  -- the files that are removed, one after the other
  pub strays : List Name

-- ---- the disk behind it

-- the disk on which the log got its header
abbrev pub headed : ℕ → DiskState → DiskState
headed log disk =
    appended (Log log) (log_header log_format log) (length (log_header log_format log)) disk

abbrev pub behind_last : LastLog → DiskState → DiskState
behind_last NoLast disk = disk
behind_last (Kept log) disk = synced (Log log) disk
behind_last (Cut log len) disk = synced (Log log) (cut_to (Log log) len len disk)
behind_last (Rewritten log) disk = synced (Log log) (headed log (cut_to (Log log) 0 0 disk))
behind_last (Headed log) disk = synced (Log log) (headed log disk)

abbrev pub behind_log : Option ℕ → DiskState → DiskState
behind_log None disk = disk
behind_log (Some log) disk = made (Log log) (log_header log_format log) disk

abbrev pub behind_strays : List Name → DiskState → DiskState
behind_strays [] disk = disk
behind_strays (name ∷ names) disk = behind_strays names (without name disk)

-- stage by stage: with the new manifest, with the last log repaired, with the new log, without the strays
abbrev pub with_manifest : Plan → DiskState → DiskState
with_manifest plan disk = made (Manifest plan.manifest) plan.piece disk

abbrev pub with_last : Plan → DiskState → DiskState
with_last plan disk = behind_last plan.last (with_manifest plan disk)

abbrev pub with_log : Plan → DiskState → DiskState
with_log plan disk = behind_log plan.log (with_last plan disk)

-- What a repairing makes of a disk.
abbrev pub repaired : Plan → DiskState → DiskState
repaired plan disk = behind_strays plan.strays (with_log plan disk)

-- ---- the disk meanwhile

-- while a log gets its header and is synced
abbrev pub WhileHeading : ℕ → DiskState → DiskState → Type 0
WhileHeading log disk now =
    WhileAppending (Log log) (log_header log_format log) disk now ⊎ WhileSyncing (Log log) (headed log disk) now

abbrev pub WhileLast : LastLog → DiskState → DiskState → Type 0
WhileLast NoLast disk now = ⊥
WhileLast (Kept log) disk now = WhileSyncing (Log log) disk now
WhileLast (Cut log len) disk now =
    WhileCutting (Log log) len disk now ⊎ WhileSyncing (Log log) (cut_to (Log log) len len disk) now
WhileLast (Rewritten log) disk now =
    WhileCutting (Log log) 0 disk now ⊎ WhileHeading log (cut_to (Log log) 0 0 disk) now
WhileLast (Headed log) disk now = WhileHeading log disk now

abbrev pub WhileLog : Option ℕ → DiskState → DiskState → Type 0
WhileLog None disk now = ⊥
WhileLog (Some log) disk now = WhileMaking (Log log) (log_header log_format log) disk now

abbrev pub WhileStrays : List Name → DiskState → DiskState → Type 0
WhileStrays [] disk now = ⊥
WhileStrays (name ∷ names) disk now =
    WhileRemoving name disk now ⊎ WhileStrays names (without name disk) now

-- What the disk may be while a store on it is repaired.
pub data WhileRepairing (plan : Plan) (disk now : DiskState) : Type 0 where
  at_manifest : WhileMaking (Manifest plan.manifest) plan.piece disk now → WhileRepairing plan disk now
  at_last : WhileLast plan.last (with_manifest plan disk) now → WhileRepairing plan disk now
  at_log : WhileLog plan.log (with_last plan disk) now → WhileRepairing plan disk now
  at_strays : WhileStrays plan.strays (with_log plan disk) now → WhileRepairing plan disk now

-- ---- what an opening does by what it finds

-- what becomes of a log that is the last, by how it reads
abbrev pub repairing_of : StandingLog → LastLog
repairing_of log =
    if keeps_header log.reading.header log.reading.frames
    then (if log.reading.whole then Kept log.number else Cut log.number (content_end log.reading))
    else (if log.length == 0 then Headed log.number else Rewritten log.number)

abbrev pub last_of : List StandingLog → LastLog
last_of [] = NoLast
last_of (q ∷ []) = repairing_of q
last_of (q ∷ p ∷ ps) = last_of (p ∷ ps)

-- The plan of an opening that finds this and removes these files: its manifest has the next number and says
-- the state
-- that is opened.
abbrev pub plan_from : Greatest → ManifestState → List StandingLog → List Name → Plan
plan_from g state logs strays = record {
  manifest = g.manifest + 1;
  piece = manifest_bytes (g.manifest + 1) (whole_edits (new_state g state) ∷ []);
  last = last_of logs;
  log = log_made (new_state g state) logs;
  strays = strays;
}

abbrev pub plan_of : {image : Image} → Finds image → List Name → Plan
plan_of found strays = plan_from found.greatest found.opening.state found.logs strays

-- It is the plan of an opening that finds this: it removes the strays, in any order.
pub record IsPlan {image : Image} (found : Finds image) (plan : Plan) : Type 0 where
  pub strays : AreStrayNames image found.opening plan.strays
  pub is : plan ≡ plan_of found plan.strays

-- ---- its calls

abbrev pub calls_to_repair : LastLog → ℕ
calls_to_repair NoLast = 0
calls_to_repair (Kept log) = 1
calls_to_repair (Cut log len) = 2
calls_to_repair (Rewritten log) = 3
calls_to_repair (Headed log) = 2

-- how many changing calls it makes
abbrev pub calls_of_plan : Plan → ℕ
calls_of_plan plan =
    3 + calls_to_repair plan.last + calls_to_make plan.log + length plan.strays
