-- What making and lending the file of a merge's next table does, whatever the engine stands for: to the disk, and in memory.
use Rattle.std.specs.Prelude.{◌≡◌, ◌⊎◌, ℕ, ◌+◌, ◌≤◌, ◌<◌, false, [], ◌∷◌, ◌++◌, Option, None, Some, Result, Ok, Err}
use Rattle.std.specs.Prelude.{IsTrue, OnOk, vec_capacity, vec_len}
use Rattle.std.specs.Option.{ForSome}
use Rattle.vl_back.specs.Writing.{KeepsOthers}
use Rattle.vl_compact.specs.declared.files.Lent.{Lent}
use Rattle.vl_compact.specs.declared.job.Job.{Job}
use Rattle.vl_disk.specs.Calls.{ChangesNothing}
use Rattle.vl_disk.specs.Crash.{WhileCreating, WhileRemoving}
use Rattle.vl_disk.specs.Disk.{IsChangedBy}
use Rattle.vl_disk.specs.DiskState.{DiskState, created, without}
use Rattle.vl_disk.specs.Faults.{after_calls}
use Rattle.vl_disk.specs.Moments.{Elapses}
use Rattle.vl_disk.specs.Performs.{FailedAt, GoesOnTelling, Performs, calls_on}
use Rattle.vl_disk.specs.Spare.{SameSpareElsewhere}
use Rattle.vl_disk.specs.declared.name.Name.TheVariants.{Table}
use Rattle.vl_disk.specs.declared.name.Name.{Name}
use Rattle.vl_disk.specs.declared.watched.Watched.{Ghosts}
use Rattle.vl_steps.specs.declared.fails.StepFail.TheVariants as fails
use Rattle.vl_steps.specs.declared.fails.StepFail.{StepFail}
use Rattle.vl_engine_laws.specs.declared.kept.Core.{Core}
use Rattle.vl_engine_laws.specs.declared.open.OpenMerge.{OpenMerge}
use Rattle.vl_model.specs.Limits.{max_file_number}
use Rattle.vl_model.specs.Numbers.{has}

-- ---- whether it may

-- Nothing stands against it: the engine isn't halted, and a number is left.
pub record MayDraw {H : Type 0} (core : Core H) : Type 0 where
  pub running : core.front.halted ≡ None
  pub fits : core.back.state.next_table ≤ max_file_number

-- ---- to the disk

-- the disk with the file made and lent: it counts as removed before its first sync
abbrev pub lent_new : Name → DiskState → DiskState
lent_new name disk = without name (created name disk)

-- what it may be meanwhile
abbrev pub WhileLent : Name → DiskState → DiskState → Type 0
WhileLent name disk now = WhileCreating name disk now ⊎ WhileRemoving name (created name disk) now

-- A file is made and lent, by one changing call.
pub record LendsNew {D T E : Type 0} (g : Ghosts D) (name : Name) (old new : D) (result : Result T E) : Type 0 where
  pub performs : Performs g (lent_new name) (WhileLent name) 1 old new result
  -- there is room to take it back, and the room of other names stays
  pub adopt : OnOk result (IsTrue (g.spare new name).adopt)
  pub elsewhere : SameSpareElsewhere name (g.spare old) (g.spare new)
  -- no file but this one comes or goes
  pub files : KeepsOthers name (g.told old) (g.told new)
  -- a disk that told nothing tells nothing then
  pub untold : g.told old ≡ None → g.told new ≡ None

-- First nothing was changed, and from then on the disk was what it is while the file of the next table is made and lent.
pub record WritesFresh {D H : Type 0} (g : Ghosts D) (core : Core H) (old new : D) : Type 0 where
  pub mid : D
  pub before : ChangesNothing g old mid ⊥
  pub time : Elapses g mid new (WhileLent (Table core.back.state.next_table))
  pub tells : GoesOnTelling (g.told mid) (g.told new)
  pub calls : g.calls new ≡ after_calls 1 (g.calls mid)

-- where it failed, the one changing call is on the table
abbrev pub StopsDrawing : (table before now : ℕ) → Name → Type 0
StopsDrawing table before now name = FailedAt (calls_on 1 (Table table)) before now name

-- ---- in memory

-- one number more was given, and nothing else of what is kept changed
abbrev pub drawn_core : {H : Type 0} → Core H → Core H
drawn_core core = record core {
  back = record core.back { state = record core.back.state { next_table = core.back.state.next_table + 1 } };
}

-- A merge is open, and what is kept of it stays but for room in memory.
pub record IsSameMerge (old new : Option OpenMerge) : Type 0 where
  pub merge : OpenMerge
  pub was_open : old ≡ Some merge
  pub next : OpenMerge
  pub is_open : new ≡ Some next
  pub lent : next.lent.items ≡ merge.lent.items
  pub moved : next.moved.items ≡ merge.moved.items

-- The same, but that a table's number is behind those that were lent to it before.
pub record IsLentMore (old new : Option OpenMerge) (number : ℕ) : Type 0 where
  pub merge : OpenMerge
  pub was_open : old ≡ Some merge
  pub next : OpenMerge
  pub is_open : new ≡ Some next
  pub lent : next.lent.items ≡ merge.lent.items ++ number ∷ []
  pub moved : next.moved.items ≡ merge.moved.items

-- there is room for the number of one file more
pub record HasRoomToLend (merging : Option OpenMerge) : Type 0 where
  pub merge : OpenMerge
  pub is_open : merging ≡ Some merge
  pub room : vec_len merge.lent + 1 ≤ vec_capacity merge.lent

-- a job stays, but for room in memory
pub record IsSameJob {V H W : Type 0} {g : _} (old new : Job V H W g) : Type 0 where
  pub same : new ≡ record old { made = new.made; leavings = new.leavings }
  pub made : new.made.items ≡ old.made.items
  pub leavings : new.leavings.items ≡ old.leavings.items

-- ---- what it came to

-- the next table's file is lent
pub record IsDrawn {D H : Type 0} (g : Ghosts D) (old new : D) (before after : Core H) : Type 0 where
  pub writes : WritesFresh g before old new
  pub changed : IsChangedBy (lent_new (Table before.back.state.next_table)) (g.told writes.mid) (g.told new)
  pub core : after ≡ drawn_core before

-- it failed, which halts at the table
pub record IsUndrawn {D H : Type 0} (g : Ghosts D) (old new : D) (before after : Core H) : Type 0 where
  pub writes : WritesFresh g before old new
  pub core : after ≡ record before { front = record before.front { halted = Some (Table before.back.state.next_table) } }

-- ---- what is answered

-- what is kept in memory beside the open merge: it says why it refuses, and a fault halts
abbrev pub DrawsCore : {H W : Type 0} → (before after : Core H) → {g : _} → Result (Lent W g) StepFail → Type 0
DrawsCore before after (Ok file) = after ≡ drawn_core before
DrawsCore before after (Err (fails.Halted name)) = (before.front.halted ≡ Some name) × (after ≡ before)
DrawsCore before after (Err (fails.Exhausted counter)) = (max_file_number < before.back.state.next_table) × (after ≡ before)
DrawsCore before after (Err fails.NoMemory) = after ≡ before
DrawsCore before after (Err (fails.Disk name)) = after ≡ record before { front = record before.front { halted = Some name } }

-- a file that is lent is none that was lent before
abbrev pub IsNewTo : Option OpenMerge → ℕ → Type 0
IsNewTo merging number = ForSome merging (λ (o : OpenMerge). has number o.lent.items ≡ false)

-- nothing was written
abbrev pub FreshLeavesDisk : {W : Type 0} {g : _} → Result (Lent W g) StepFail → Type 0
FreshLeavesDisk (Ok file) = ⊥
FreshLeavesDisk (Err (fails.Halted name)) = Unit {0}
FreshLeavesDisk (Err (fails.Exhausted counter)) = Unit {0}
FreshLeavesDisk (Err fails.NoMemory) = Unit {0}
FreshLeavesDisk (Err (fails.Disk name)) = ⊥
