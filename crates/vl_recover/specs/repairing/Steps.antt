-- What each step of a repairing does.
use Rattle.std.specs.Prelude.{◌≡◌, ◌⊎◌, ℕ, ◌+◌, length, ◌≤◌, List, [], ◌++◌, Option, None, Some, Result, Err, IfErr, IfOk, OnOk, OnErr}
use Rattle.vl_disk.specs.Calls.{ChangesNothing}
use Rattle.vl_disk.specs.Disk.{IsChangedBy}
use Rattle.vl_disk.specs.DiskState.{DiskState}
use Rattle.vl_disk.specs.Faults.{HasCause, after_calls}
use Rattle.vl_disk.specs.Moments.{Elapses}
use Rattle.vl_disk.specs.Performs.{FailedAt, GoesOnTelling, Performs, calls_on}
use Rattle.vl_disk.specs.declared.name.Name.{Name}
use Rattle.vl_disk.specs.declared.name.Name.TheVariants.{Log, Manifest}
use Rattle.vl_disk.specs.declared.watched.Watched.{Ghosts}
use Rattle.vl_manifest.specs.Making.{HasFailed}
use Rattle.vl_manifest.specs.declared.fails.IoFail.{IoFail}
use Rattle.vl_manifest.specs.declared.fails.IoFail.TheVariants.{Disk, NoMemory}
use Rattle.vl_manifest.specs.declared.manifest_log.ManifestLog.{ManifestLog}
use Rattle.vl_recover.specs.repairing.Repairing.{Cut, Headed, Kept, LastLog, NoLast, Plan, Rewritten, WhileLast}
use Rattle.vl_recover.specs.repairing.Repairing.{WhileLog, WhileRepairing, WhileStrays, behind_last, behind_log}
use Rattle.vl_recover.specs.repairing.Repairing.{behind_strays, calls_of_plan, calls_to_repair, repaired}
use Rattle.vl_recover.specs.opening.Plans.{calls_to_make}

-- The last log is repaired and made durable. Where it is held then the hold may fail too, behind all of its calls.
abbrev pub RepairsLast : {D T E : Type 0} → Ghosts D → LastLog → D → D → Result T E → Type 0
RepairsLast g last old new result =
    Performs g (behind_last last) (WhileLast last) (calls_to_repair last) old new result

-- the new log is made, where there is one
abbrev pub MakesLog : {D T E : Type 0} → Ghosts D → Option ℕ → D → D → Result T E → Type 0
MakesLog g log old new result =
    Performs g (behind_log log) (WhileLog log) (calls_to_make log) old new result

-- files are removed, one behind the other
abbrev pub RemovesAll : {D T E : Type 0} → Ghosts D → List Name → D → D → Result T E → Type 0
RemovesAll g names old new result =
    Performs g (behind_strays names) (WhileStrays names) (length names) old new result

-- ---- the file of each changing call, in their order

abbrev pub last_files : LastLog → List Name
last_files NoLast = []
last_files (Kept log) = calls_on 1 (Log log)
last_files (Cut log len) = calls_on 2 (Log log)
last_files (Rewritten log) = calls_on 3 (Log log)
last_files (Headed log) = calls_on 2 (Log log)

abbrev pub log_files : Option ℕ → List Name
log_files None = []
log_files (Some log) = calls_on 3 (Log log)

abbrev pub files_behind : Plan → List Name
files_behind plan = last_files plan.last ++ (log_files plan.log ++ plan.strays)

abbrev pub files_of : Plan → List Name
files_of plan = calls_on 3 (Manifest plan.manifest) ++ files_behind plan

-- ---- all of a plan

-- behind the new manifest: what becomes of the disk, and what it may be meanwhile
abbrev pub behind_manifest : Plan → DiskState → DiskState
behind_manifest plan disk =
    behind_strays plan.strays (behind_log plan.log (behind_last plan.last disk))

abbrev pub WhileBehind : Plan → DiskState → DiskState → Type 0
WhileBehind plan disk now =
    WhileLast plan.last disk now ⊎ (WhileLog plan.log (behind_last plan.last disk) now
    ⊎ WhileStrays plan.strays (behind_log plan.log (behind_last plan.last disk)) now)

abbrev pub calls_behind : Plan → ℕ
calls_behind plan = calls_to_repair plan.last + calls_to_make plan.log + length plan.strays

abbrev pub RepairsBehind : {D T E : Type 0} → Ghosts D → Plan → D → D → Result T E → Type 0
RepairsBehind g plan old new result =
    Performs g (behind_manifest plan) (WhileBehind plan) (calls_behind plan) old new result

-- by the counts of changing calls before and now the last one is on the file that is named: it failed, or a hold right behind it
abbrev pub IsFailAt : Plan → (before now : ℕ) → IoFail → Type 0
IsFailAt plan before now NoMemory = Unit {0}
IsFailAt plan before now (Disk name) = FailedAt (files_of plan) before now name

-- some of so many changing calls were made, or all, or none
abbrev pub MakesSome : (count before now : ℕ) → Type 0
MakesSome count before now = (n : ℕ) × (n ≤ count) × (now ≡ after_calls n before)

-- A store is repaired by a plan.
pub record Repairs {D : Type 0} (g : Ghosts D) (plan : Plan) (old new : D)
    (result : Result ManifestLog IoFail) : Type 0 where
  pub manifest : IfOk result (λ log. log ≡ record { number = plan.manifest; length = length plan.piece })
  pub done : OnOk result (IsChangedBy (repaired plan) (g.told old) (g.told new))
  pub calls : OnOk result (g.calls new ≡ after_calls (calls_of_plan plan) (g.calls old))
  pub stops : OnErr result (MakesSome (calls_of_plan plan) (g.calls old) (g.calls new))
  -- where the disk failed, the file of the call that did is named; for want of memory it does nothing
  pub at : IfErr result (IsFailAt plan (g.calls old) (g.calls new))
  pub no_memory : result ≡ Err NoMemory → ChangesNothing g old new ⊥
  pub tells : GoesOnTelling (g.told old) (g.told new)
  pub time : Elapses g old new (WhileRepairing plan)
  pub cause : HasCause (g.faults old) (g.faults new) (HasFailed result)
