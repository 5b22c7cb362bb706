-- A merge that is done here and now, whole or up to its install, and what the engine stands for behind it.
use Rattle.std.specs.Prelude.{◌≡◌, ℕ, ◌-◌, ◌^◌, min, List, length, Option, None, Some, Result, OnOk}
use Rattle.vl_compact.specs.Progress.{made_of}
use Rattle.vl_compact.specs.declared.job.Job.{Job as Merging}
use Rattle.vl_disk.specs.declared.watched.Watched.{Ghosts}
use Rattle.vl_disk.specs.declared.writer.Writer.{Ghosts as Writers}
use Rattle.vl_engine_laws.specs.Carries.{CrashesShow, Tells}
use Rattle.vl_space.specs.Collecting.{Collects}
use Rattle.vl_steps.specs.Merging.{HasAllMerge}
use Rattle.vl_engine_laws.specs.Lent.{StandsOpen}
use Rattle.vl_space.specs.Removing.{Removes}
use Rattle.vl_engine_laws.specs.Represents.{Represents}
use Rattle.vl_engine_laws.specs.MayStep.{Fits}
use Rattle.vl_engine.specs.declared.fails.MergeFail.{MergeFail}
use Rattle.vl_engine_laws.specs.declared.kept.Core.{Core}
use Rattle.vl_space.specs.declared.kept.Collecting.{Collecting}
use Rattle.vl_engine_laws.specs.declared.open.OpenMerge.{OpenMerge}
use Rattle.vl_space.specs.declared.kept.Removing.{Removing}
use Rattle.vl_engine_model.specs.Jobs.{AreLent}
use Rattle.vl_engine_model.specs.Merging.{merged_entries}
use Rattle.vl_engine_model.specs.declared.job.Job.{Job}
use Rattle.vl_engine_model.specs.declared.job.OpenJob.{OpenJob}
use Rattle.vl_engine_model.specs.declared.layout.Layout.{Layout}
use Rattle.vl_recover.specs.crash.Starts.{MayOpen}
use Rattle.vl_model.specs.History.{History}
use Rattle.vl_version.specs.declared.base.Base.{Base}

-- Of a layout at most the tables and what retires with them were changed: its logs that aren't flushed, what lives, how many
-- versions are kept and the open pass are as before.
pub record HasSameLogs (old new : Layout) : Type 0 where
  pub active : new.active ≡ old.active
  pub frozen : new.frozen ≡ old.frozen
  pub covered : new.covered ≡ old.covered
  pub next_log : new.next_log ≡ old.next_log
  pub room : new.room ≡ old.room
  pub keep : new.keep ≡ old.keep
  pub since : new.since ≡ old.since
  pub live : new.live ≡ old.live
  pub pass : new.pass ≡ old.pass

-- An engine that stood for the history and a layout stands for the same history, with a layout in which tables may have been
-- merged. While it isn't halted the disk holds it.
pub record StaysFor {D H : Type 0} (g : Ghosts D) (bytes : H → Option (List ℕ)) (old new : D) (core : Core H)
    (merging : Option OpenMerge) (h : History) (l : Layout) : Type 0 where
  pub layout : Layout
  pub same : HasSameLogs l layout
  pub stands : StandsOpen bytes core merging h layout
  pub represents : Represents bytes core (g.told new) h layout
  -- what steps on files ask is so behind it
  pub fits : Fits (g.told new) core h layout
  -- what a crash meanwhile leaves shows the history,
  pub through : l.halted ≡ None → CrashesShow g old new h h
  -- and a store may be opened on the disk again, also where it failed
  pub again : l.halted ≡ None → Tells g new MayOpen

-- So it does, and what it keeps of where space comes back from is that layout's.
pub record StaysCollecting {D H : Type 0} (g : Ghosts D) (bytes : H → Option (List ℕ)) (old new : D) (core : Core H)
    (merging : Option OpenMerge) (collecting : Collecting) (h : History) (l : Layout) : Type 0 where
  pub stays : StaysFor g bytes old new core merging h l
  pub collects : Collects core collecting stays.layout

-- And so is what it keeps of which files can go.
pub record StaysRemoving {D H L : Type 0} (g : Ghosts D) (bytes : H → Option (List ℕ)) (old new : D) (core : Core H)
    (merging : Option OpenMerge) (collecting : Collecting) (removing : Removing L) (h : History) (l : Layout) : Type 0 where
  pub stays : StaysCollecting g bytes old new core merging collecting h l
  pub removes : Removes core removing stays.stays.layout

-- So it does while the merge that is open there is carried out. Where this is done, the merge's job has all of it, and its files
-- are ones that were lent to it; nothing failed.
pub record MakesTables {D H R W : Type 0} (g : Ghosts D) (writers : Writers W) (bytes : H → Option (List ℕ)) (old new : D)
    (core : Core H) (merging : Option OpenMerge) {k : _} (job : Merging (Base H R) H W k) (h : History) (l : Layout) (j : Job)
    (result : Result (Unit {0}) MergeFail) : Type 0 where
  pub stays : StaysFor g bytes old new core merging h l
  -- the layout has the same job open
  pub open_job : OpenJob
  pub is_open : stays.layout.job ≡ Some open_job
  pub job_is : open_job.job ≡ j
  pub whole : OnOk result (HasAllMerge writers bytes job j)
  pub lent : OnOk result (AreLent open_job.lent (made_of job j))
  pub running : OnOk result (stays.layout.halted ≡ l.halted)
  -- no table and no log comes or goes before the install
  pub levels : stays.layout.levels ≡ l.levels
  pub flushed : stays.layout.flushed ≡ l.flushed

-- So it does, and what it keeps of which files can go is that layout's.
pub record MakesRemoving {D H L R W : Type 0} (g : Ghosts D) (writers : Writers W) (bytes : H → Option (List ℕ)) (old new : D)
    (core : Core H) (merging : Option OpenMerge) (removing : Removing L) {k : _} (job : Merging (Base H R) H W k) (h : History)
    (l : Layout) (j : Job) (result : Result (Unit {0}) MergeFail) : Type 0 where
  pub makes : MakesTables g writers bytes old new core merging job h l j result
  pub removes : Removes core removing makes.stays.layout

-- how many entries the tables of a merge come to have, where one was planned
abbrev pub kept_of : Option Job → Option ℕ
kept_of None = None
kept_of (Some j) = Some (min (length (merged_entries j)) (2 ^ 64 - 1))
