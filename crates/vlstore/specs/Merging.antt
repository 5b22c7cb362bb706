-- What a session's own steps are, where it merges.
use Rattle.std.specs.Prelude.{◌≡◌, ℕ, List, [], ◌∷◌, ◌++◌, Option}
use Rattle.std.specs.List.{AllByRecursion}
use Rattle.std.specs.Option.{ForSome}
use Rattle.vl_engine.specs.Whole.{kept_of}
use Rattle.vl_engine_model.specs.Jobs.{Made}
use Rattle.vl_engine_model.specs.Rulings.Install.{Installed, install_ruling}
use Rattle.vl_engine_model.specs.Rulings.Plan.{plan_ruling}
use Rattle.vl_engine_model.specs.declared.job.Job.{Job}
use Rattle.vl_engine_model.specs.declared.lock_history.LockEntry.{LockEntry}
use Rattle.vl_engine_model.specs.declared.lock_history.LockStep.{LockStep}
use Rattle.vl_engine_model.specs.declared.lock_history.LockStep.TheVariants.{Begun, Changed, Ended, JobEnded, PassEnded, Picked}
use Rattle.vl_engine_model.specs.declared.lock_history.LockStep.TheVariants.{Planned, Put}
use Rattle.vlstore.specs.Knowing.{Knows}
use Rattle.vlstore.specs.Lists.{history_by, layout_by}
use mathlib.Core.List.{IsPrefix}

-- it commits nothing, and leaves what lives
abbrev pub IsWork : LockStep → Type 0
IsWork (Begun ticket number) = ⊥
IsWork (Put ticket number writes) = ⊥
IsWork (Ended ticket) = ⊥
IsWork Planned = Unit {0}
IsWork JobEnded = Unit {0}
IsWork Picked = Unit {0}
IsWork PassEnded = Unit {0}
IsWork Changed = Unit {0}

-- it also leaves which merge and which pass is open
abbrev pub IsChange : LockStep → Type 0
IsChange step = step ≡ Changed

-- What the session did meanwhile are such steps.
pub record Did (is : LockStep → Type 0) (v w : Knows) : Type 0 where
  pub more : List LockEntry
  pub own : w.own ≡ v.own ++ more
  pub are : AllByRecursion (λ (e : LockEntry). is e.step) more

-- The tables of this merge took the place of its inputs by the last step that is seen, which is the session's, as the ruling has it.
pub record PutIn (v w : Knows) (job : Job) : Type 0 where
  pub made : Made
  pub before : List LockEntry
  pub later : IsPrefix v.seen before
  pub installed : (install_ruling (layout_by v.origin before) (history_by v.origin before) job made).answer ≡ Installed
  pub seen : w.seen ≡ before ++ record {
    session = v.session;
    step = JobEnded;
    layout = (install_ruling (layout_by v.origin before) (history_by v.origin before) job made).layout;
  } ∷ []

-- The merge was the one that the ruling on plans has at a moment between: so many entries does it keep, and its tables were put in;
-- and none was due where there is no number.
pub record MergedAt (v w : Knows) (kept : Option ℕ) : Type 0 where
  pub before : List LockEntry
  pub later : IsPrefix v.seen before
  pub within : IsPrefix before w.seen
  pub counts : kept ≡ kept_of (plan_ruling (layout_by v.origin before) (history_by v.origin before)).answer
  pub put_in : ForSome (plan_ruling (layout_by v.origin before) (history_by v.origin before)).answer (PutIn v w)
