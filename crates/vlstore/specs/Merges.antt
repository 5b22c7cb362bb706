-- Whose the open merge is, and which files were lent to it, by the steps alone. It is so whatever the disk tells.
use Rattle.std.specs.Prelude.{◌≡◌, ◌≢◌, ℕ, true, List, [], ◌∷◌, Option, None, Some, is_some}
use Rattle.std.specs.Option.{option_map}
use Rattle.vl_engine_laws.specs.declared.open.OpenMerge.{OpenMerge}
use Rattle.vl_engine_model.specs.LockHistory.{IsOwn, job_after, job_in, open_job}
use Rattle.vl_engine_model.specs.declared.job.Job.{Job}
use Rattle.vl_engine_model.specs.declared.job.OpenJob.{OpenJob}
use Rattle.vl_engine_model.specs.declared.layout.Layout.{Layout}
use Rattle.vl_engine_model.specs.declared.lock_history.LockEntry.{LockEntry}
use Rattle.vl_engine_model.specs.declared.lock_history.LockStep.TheVariants.{JobEnded, Planned}
use Rattle.vlstore.specs.Lists.{layout_by}
use Rattle.vlstore.specs.declared.locked.Origin.{Origin}

-- the files that are lent to the job of a layout, where it has one
abbrev pub lent_in : Layout → Option (List ℕ)
lent_in l = option_map (λ (j : OpenJob). j.lent) l.job

-- A merge is planned where none is open, and the layout has it then; the session that planned it alone ends it, and
-- is lent files for it. These are behind the step what they were before where it is another session's.
pub record KeepsMerge (job : Option (ℕ × Job)) (l : Layout) (e : LockEntry) : Type 0 where
  pub planned : e.step ≡ Planned → job ≡ None
  pub begun : e.step ≡ Planned → is_some (job_in e.layout) ≡ true
  pub ended : e.step ≡ JobEnded → IsOwn e.session job
  pub lent : (x : ℕ × Job) → job ≡ Some x → e.session ≢ x.0 → lent_in e.layout ≡ lent_in l

-- so each of these steps does, behind what was open and a layout
abbrev pub KeepMerges : Option (ℕ × Job) → Layout → List LockEntry → Type 0
KeepMerges job l [] = Unit {0}
KeepMerges job l (e ∷ es) = KeepsMerge job l e × KeepMerges (job_after e.session e.step e.layout job) e.layout es

-- What an engine keeps of the open merge is what the steps have of it.
pub record MergesBy (o : Origin) (list : List LockEntry) (merging : Option OpenMerge) : Type 0 where
  pub keep : KeepMerges None o.layout list
  pub open_is : is_some merging ≡ is_some (open_job None list)
  pub lent : option_map (λ (m : OpenMerge). m.lent.items) merging ≡ lent_in (layout_by o list)
