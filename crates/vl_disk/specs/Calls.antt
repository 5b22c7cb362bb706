-- What each call of a disk does to what the disk tells, whatever it answers.
use Rattle.std.specs.Prelude.{◌≡◌, ◌⊎◌, ℕ, ◌≤◌, List, length, Option, Result, IsTrue, OnOk, OnErr, IsErr}
use Rattle.std.specs.Option.{ForSome}
use Rattle.vl_disk.specs.declared.name.Name.{Name}
use Rattle.vl_disk.specs.declared.watched.Watched.{Ghosts}
use Rattle.vl_disk.specs.DiskState.{DiskState, file_at, cut_to, without}
use Rattle.vl_disk.specs.DiskState as state
use Rattle.vl_disk.specs.Crash.{Unchanged, WhileCreating, WhileAppending, WhileSyncing, WhileCutting, WhileRemoving}
use Rattle.vl_disk.specs.Disk.{Stands, IsFree, IsInside, IsChangedBy}
use Rattle.vl_disk.specs.Faults.{HasCause, one_more}
use Rattle.vl_disk.specs.Moments.{Elapses}
use Rattle.vl_disk.specs.Spare.{SameSpare, UsesChange, UsesAppend}

-- A call that changes nothing: what is told and the count of changing calls stay, also meanwhile, and a fault is counted
-- exactly where it failed.
pub record ChangesNothing {D : Type 0} (g : Ghosts D) (old new : D) (failed : Type 0) : Type 0 where
  pub told : g.told new ≡ g.told old
  pub calls : g.calls new ≡ g.calls old
  pub time : Elapses g old new Unchanged
  pub cause : HasCause (g.faults old) (g.faults new) failed

-- A changing call, whatever it does: it is counted, meanwhile the disk is what `during` says, and a fault is counted
-- exactly where it failed.
pub record ChangingCall {D : Type 0} (g : Ghosts D) (old new : D)
    (during : DiskState → DiskState → Type 0) (failed : Type 0) : Type 0 where
  pub calls : g.calls new ≡ one_more (g.calls old)
  pub time : Elapses g old new during
  pub cause : HasCause (g.faults old) (g.faults new) failed

pub record Creates {D T E : Type 0} (g : Ghosts D) (name : Name) (old new : D) (result : Result T E) : Type 0 where
  pub created : OnOk result (IsChangedBy (state.created name) (g.told old) (g.told new))
  pub stands : OnOk result (ForSome (g.told new) (Stands name))
  -- where it failed the file stands or not,
  pub failed : OnErr result ((g.told new ≡ g.told old) ⊎ IsChangedBy (state.created name) (g.told old) (g.told new))
  -- and the name is as free as before on a disk that fails cleanly
  pub clean : IsTrue g.fails_cleanly → OnErr result (g.told new ≡ g.told old)
  pub as_call : ChangingCall g old new (WhileCreating name) (IsErr result)
  pub spare : UsesChange name (g.spare old) (g.spare new)

pub record Appends {D T E : Type 0} (g : Ghosts D) (name : Name) (piece : List ℕ) (old new : D)
    (result : Result T E) : Type 0 where
  pub appended : OnOk result (IsChangedBy (state.appended name piece (length piece)) (g.told old) (g.told new))
  -- where it failed the file has taken some first bytes of the piece,
  pub failed : OnErr result ((taken : ℕ) × (taken ≤ length piece)
      × IsChangedBy (state.appended name piece taken) (g.told old) (g.told new))
  -- and none on a disk that fails cleanly; the piece is unsynced all the same
  pub clean : IsTrue g.fails_cleanly → OnErr result (IsChangedBy (state.appended name piece 0) (g.told old) (g.told new))
  pub stands : ForSome (g.told new) (Stands name)
  pub as_call : ChangingCall g old new (WhileAppending name piece) (IsErr result)
  pub spare : UsesAppend name (g.spare old) (g.spare new)

pub record Syncs {D T E : Type 0} (g : Ghosts D) (name : Name) (old new : D) (result : Result T E) : Type 0 where
  pub synced : OnOk result (IsChangedBy (state.synced name) (g.told old) (g.told new))
  -- where it failed nothing more is durable
  pub failed : OnErr result (g.told new ≡ g.told old)
  pub stands : ForSome (g.told new) (Stands name)
  pub as_call : ChangingCall g old new (WhileSyncing name) (IsErr result)
  pub spare : SameSpare (g.spare old) (g.spare new)

-- a file keeps its bytes, but isn't wholly synced any more, and no more of them than so many are durable
abbrev pub OnlyLowers : Name → ℕ → (old new : Option DiskState) → Type 0
OnlyLowers name len old new =
    ForSome old (λ disk. IsChangedBy (cut_to name len (length (file_at disk name).bytes)) old new)

pub record Cuts {D T E : Type 0} (g : Ghosts D) (name : Name) (len : ℕ) (old new : D)
    (result : Result T E) : Type 0 where
  pub cut : OnOk result (IsChangedBy (cut_to name len len) (g.told old) (g.told new))
  -- where it failed the file has that length, its old one or one between, and no more than was to stay is durable;
  pub failed : OnErr result ((left : ℕ) × (len ≤ left) × ForSome (g.told old) (IsInside name left)
      × IsChangedBy (cut_to name len left) (g.told old) (g.told new))
  -- it has its old length on a disk that fails cleanly
  pub clean : IsTrue g.fails_cleanly → OnErr result (OnlyLowers name len (g.told old) (g.told new))
  pub stands : ForSome (g.told new) (Stands name)
  pub as_call : ChangingCall g old new (WhileCutting name len) (IsErr result)
  pub spare : UsesChange name (g.spare old) (g.spare new)

pub record Removes {D T E : Type 0} (g : Ghosts D) (name : Name) (old new : D) (result : Result T E) : Type 0 where
  pub removed : OnOk result (IsChangedBy (without name) (g.told old) (g.told new))
  pub free : OnOk result (ForSome (g.told new) (IsFree name))
  -- where it failed the file stands or not,
  pub failed : OnErr result ((g.told new ≡ g.told old) ⊎ IsChangedBy (without name) (g.told old) (g.told new))
  -- and stands as before on a disk that fails cleanly
  pub clean : IsTrue g.fails_cleanly → OnErr result (g.told new ≡ g.told old)
  pub as_call : ChangingCall g old new (WhileRemoving name) (IsErr result)
  pub spare : SameSpare (g.spare old) (g.spare new)
