-- When a plan of repairing fits a disk: what must stand and be free, and the room that its calls want.
use Rattle.std.specs.Prelude.{◌≡◌, ◌≢◌, ℕ, List, [], ◌∷◌, Option, None, Some, IsTrue}
use Rattle.vl_disk.specs.Disk.{IsFree, IsInside, Stands}
use Rattle.vl_disk.specs.DiskState.{DiskState, without}
use Rattle.vl_disk.specs.Name.{IsNumbered}
use Rattle.vl_disk.specs.Spare.{CanAppend, IsReady, Spare}
use Rattle.vl_disk.specs.declared.name.Name.{Name}
use Rattle.vl_disk.specs.declared.name.Name.TheVariants.{Log, Manifest}
use Rattle.vl_recover.specs.repairing.Repairing.{Cut, Headed, Kept, LastLog, NoLast, Plan, Rewritten, behind_last}
use Rattle.vl_recover.specs.repairing.Repairing.{behind_log, with_manifest}

-- ---- what stands

-- the last log stands, and is as long as it is to be at least
abbrev pub CanRepair : LastLog → DiskState → Type 0
CanRepair NoLast disk = Unit {0}
CanRepair (Kept log) disk = Stands (Log log) disk
CanRepair (Cut log len) disk = Stands (Log log) disk × IsInside (Log log) len disk
CanRepair (Rewritten log) disk = Stands (Log log) disk
CanRepair (Headed log) disk = Stands (Log log) disk

-- the new log's name is free
abbrev pub CanMake : Option ℕ → DiskState → Type 0
CanMake None disk = Unit {0}
CanMake (Some log) disk = IsFree (Log log) disk

-- each of these files stands, also where those before it are gone
abbrev pub CanRemove : List Name → DiskState → Type 0
CanRemove [] disk = Unit {0}
CanRemove (name ∷ names) disk = Stands name disk × CanRemove names (without name disk)

-- each stage of the plan behind the new manifest fits the disk that the ones before it leave
pub record FitsBehind (plan : Plan) (disk : DiskState) : Type 0 where
  pub last : CanRepair plan.last disk
  pub log : CanMake plan.log (behind_last plan.last disk)
  pub strays : CanRemove plan.strays (behind_log plan.log (behind_last plan.last disk))

-- and so does the manifest's
pub record Fits (plan : Plan) (disk : DiskState) : Type 0 where
  pub manifest : IsFree (Manifest plan.manifest) disk
  pub behind : FitsBehind plan (with_manifest plan disk)

-- ---- numbers

abbrev pub IsNumberedLog : Option ℕ → Type 0
IsNumberedLog None = Unit {0}
IsNumberedLog (Some log) = IsNumbered (Log log)

-- this is not the last log's file
abbrev pub IsBeside : LastLog → Name → Type 0
IsBeside NoLast name = Unit {0}
IsBeside (Kept log) name = name ≢ Log log
IsBeside (Cut log len) name = name ≢ Log log
IsBeside (Rewritten log) name = name ≢ Log log
IsBeside (Headed log) name = name ≢ Log log

abbrev pub IsLogBeside : LastLog → Option ℕ → Type 0
IsLogBeside last None = Unit {0}
IsLogBeside last (Some log) = IsBeside last (Log log)

-- the files that are made have numbers that files may have, and the new log another than the last
pub record HasNumbers (plan : Plan) : Type 0 where
  pub manifest : IsNumbered (Manifest plan.manifest)
  pub log : IsNumberedLog plan.log
  pub beside : IsLogBeside plan.last plan.log

-- ---- room, so that no call behind the new manifest's wants memory

abbrev pub IsReadyToRepair : LastLog → (Name → Spare) → Type 0
IsReadyToRepair NoLast spare = Unit {0}
IsReadyToRepair (Kept log) spare = Unit {0}
IsReadyToRepair (Cut log len) spare = IsTrue (spare (Log log)).change
IsReadyToRepair (Rewritten log) spare = IsReady 16 (spare (Log log))
IsReadyToRepair (Headed log) spare = CanAppend 16 (spare (Log log))

abbrev pub IsReadyToMake : Option ℕ → (Name → Spare) → Type 0
IsReadyToMake None spare = Unit {0}
IsReadyToMake (Some log) spare = IsReady 16 (spare (Log log))

pub record IsReadyFor (plan : Plan) (spare : Name → Spare) : Type 0 where
  pub last : IsReadyToRepair plan.last spare
  pub log : IsReadyToMake plan.log spare

-- the room of all files but the last log is as it was
abbrev pub SameSpareBeside : LastLog → (Name → Spare) → (Name → Spare) → Type 0
SameSpareBeside last old new = (name : Name) → IsBeside last name → new name ≡ old name

-- this is not the new log's file
abbrev pub IsOtherLog : Option ℕ → Name → Type 0
IsOtherLog None name = Unit {0}
IsOtherLog (Some log) name = name ≢ Log log

-- the room of all files but the new log is as it was
abbrev pub SameSpareBesideLog : Option ℕ → (Name → Spare) → (Name → Spare) → Type 0
SameSpareBesideLog log old new = (name : Name) → IsOtherLog log name → new name ≡ old name
