-- What is asked of things that are given back to a session, besides that they are its own.
use Rattle.std.specs.Prelude.{◌≡◌, ℕ, true, List, Option, None, Some, IsSome, Result, Ok, Err}
use Rattle.std.specs.List.{AllByRecursion}
use Rattle.vl_compact.specs.declared.files.Lent.{Lent}
use Rattle.vl_compact.specs.declared.files.Synced.{Synced}
use Rattle.vl_compact.specs.declared.job.Job.{Job}
use Rattle.vl_engine_laws.specs.Lasts.{Lasts}
use Rattle.vl_disk.specs.declared.writer.Writer.{Ghosts as Writers}
use Rattle.vl_steps.specs.Installing.{numbers_in}
use Rattle.vl_steps.specs.Merging.{HasAllMerge, HasMerge}
use Rattle.vl_steps.specs.declared.fails.InstallFail.{InstallFail}
use Rattle.vl_steps.specs.declared.fails.InstallFail.TheVariants as fails
use Rattle.vl_reads.specs.declared.txn.Txn.{Txn}
use Rattle.vl_engine_model.specs.Jobs.{AreDistinct}
use Rattle.vl_engine_model.specs.declared.job.Job as laid_job
use Rattle.vl_engine_model.specs.declared.lock_history.LockEntry.{LockEntry}
use Rattle.vl_model.specs.Notes.{AreNotesOf}
use Rattle.vl_model.specs.Numbers.{has}
use Rattle.vl_model.specs.Reads.{Read}
use Rattle.vl_seglog.specs.declared.sealed.SealedLog.{SealedLog}
use Rattle.vlstore.specs.Knowing.{IsOwnJob, IsOwnTicket, Knows, own_lent}
use Rattle.vlstore.specs.Lists.{layout_by}
use Rattle.vl_version.specs.declared.base.Base.{Base}
use mathlib.Core.List.{IsPrefix}

module _ (v : Knows) where
  -- ---- transactions

  -- the session began it, and it noted reads
  pub record IsOwnTxn {H R : Type 0} (txn : Txn H R) : Type 0 where
    pub own : IsOwnTicket v txn.ticket txn.number
    pub reads : List Read
    pub noted : AreNotesOf reads txn.reads.keys txn.reads.spans

  -- ---- merges

  module _ {W H R : Type 0} (w : Writers W) (bytes : H → Option (List ℕ)) {s : _} (job : Job (Base H R) H W s) where
    -- The session planned it. Its files are ones that were lent to it, each with a number of its own. Where the disk
    -- tells its files, so do its writers, and it has come as far as it says.
    pub record IsUnderWayIn : Type 0 where
      pub planned : laid_job.Job
      pub own : IsOwnJob v planned
      pub lent : List ℕ
      pub lent_is : own_lent v ≡ Some lent
      pub drawn : AllByRecursion (λ (n : ℕ). has n lent ≡ true) (numbers_in job)
      pub distinct : AreDistinct (numbers_in job)
      pub tells : v.tells ≡ true → AllByRecursion (λ (t : Synced W s). IsSome (w.file t.writer)) job.made.items
      pub leavings_tell : v.tells ≡ true → AllByRecursion (λ (f : Lent W s). IsSome (w.file f.writer)) job.leavings.items
      pub has_merge : v.tells ≡ true → HasMerge w bytes job planned

    -- So it is, and it has all of its merge.
    pub record IsHandedInto : Type 0 where
      pub under_way : IsUnderWayIn
      pub ended : job.ended ≡ true
      pub has_all : v.tells ≡ true → HasAllMerge w bytes job under_way.planned

    -- this file was lent to it, and isn't one that it has
    pub record IsLentTo (file : Lent W s) : Type 0 where
      pub lent : List ℕ
      pub lent_is : own_lent v ≡ Some lent
      pub among : has file.number lent ≡ true
      pub other : has file.number (numbers_in job) ≡ true → ⊥

  -- ---- passes

  -- the pass's log lasted at a moment that the session has seen
  pub record HasLasted {H : Type 0} (bytes : H → Option (List ℕ)) (log : SealedLog H) : Type 0 where
    pub before : List LockEntry
    pub seen : IsPrefix before v.seen
    pub lasts : Lasts bytes log (layout_by v.origin before)

-- the merge was handed back
abbrev pub IsHandedBack : {V H W : Type 0} {s : _} → InstallFail V H W s → Type 0
IsHandedBack (fails.Halted name) = ⊥
IsHandedBack (fails.Raced key number) = ⊥
IsHandedBack (fails.Exhausted counter) = ⊥
IsHandedBack (fails.NoMemory job) = Unit {0}
IsHandedBack (fails.Disk name) = ⊥

-- a merge that an install handed back is the session's yet
abbrev pub IfHandedBack : {W H R : Type 0} → Knows → Writers W → (H → Option (List ℕ)) → {s : _}
    → InstallFail (Base H R) H W s → Type 0
IfHandedBack v w bytes (fails.Halted name) = Unit {0}
IfHandedBack v w bytes (fails.Raced key number) = Unit {0}
IfHandedBack v w bytes (fails.Exhausted counter) = Unit {0}
IfHandedBack v w bytes (fails.NoMemory job) = IsUnderWayIn v w bytes job
IfHandedBack v w bytes (fails.Disk name) = Unit {0}

-- what is handed back of an install
abbrev pub job_back : {V H W : Type 0} {s : _} → Result (Unit {0}) (InstallFail V H W s) → Option (Job V H W s)
job_back (Ok done) = None
job_back (Err (fails.Halted name)) = None
job_back (Err (fails.Raced key number)) = None
job_back (Err (fails.Exhausted counter)) = None
job_back (Err (fails.NoMemory job)) = Some job
job_back (Err (fails.Disk name)) = None
