-- What a whole merge answers that is done here and now: each answer has its cause, whatever the disk tells.
use Rattle.std.specs.Prelude.{◌≡◌, ◌⊎◌, ℕ, ◌≤◌, List, Option, None, Some, Result, Ok, Err}
use Rattle.std.specs.Option.{ForSome}
use Rattle.vl_compact.specs.Stops.{AreReadWhole, InputsReadOn}
use Rattle.vl_compact.specs.declared.job.Job.{Job}
use Rattle.vl_disk.specs.DiskState.{DiskState}
use Rattle.vl_disk.specs.Faults.{Rose, after_calls}
use Rattle.vl_disk.specs.declared.name.Name.{Name}
use Rattle.vl_disk.specs.declared.read_fault.ReadFault.TheVariants as read
use Rattle.vl_disk.specs.declared.read_fault.ReadFault.{ReadFault}
use Rattle.vl_disk.specs.declared.watched.Watched.{Ghosts}
use Rattle.vl_disk.specs.declared.writer.Writer.{Ghosts as Writers}
use Rattle.vl_engine.specs.Refusals.{FailsToMake, HaltsDrawing, HasDrawn, IsLastDrawn, IsOutOfTables, Moment}
use Rattle.vl_engine.specs.Whole.{HasSameLogs}
use Rattle.vl_engine.specs.declared.fails.MergeFail.TheVariants as merge
use Rattle.vl_engine.specs.declared.fails.MergeFail.{MergeFail}
use Rattle.vl_engine_laws.specs.Lent.{StandsOpen}
use Rattle.vl_engine_laws.specs.Represents.{Represents}
use Rattle.vl_engine_laws.specs.declared.kept.Core.{Core}
use Rattle.vl_engine_model.specs.Jobs.{AreOutputs, Made}
use Rattle.vl_engine_model.specs.Rulings.Install.{Installed, install_ruling}
use Rattle.vl_engine_model.specs.Rulings.Plan.{plan_ruling}
use Rattle.vl_engine_model.specs.declared.job.Job as laid_job
use Rattle.vl_engine_model.specs.declared.layout.Layout.{Layout}
use Rattle.vl_model.specs.History.{History}
use Rattle.vl_model.specs.Limits.{max_epoch}
use Rattle.vl_model.specs.declared.counter.Counter.TheVariants as counters
use Rattle.vl_model.specs.declared.counter.Counter.{Counter}
use Rattle.vl_steps.specs.Installing.{HaltsInstall, IsInstallWritten, MakesVersion, StopsInstall}
use Rattle.vl_steps.specs.Merging.{HasMerge}
use Rattle.vl_version.specs.declared.base.Base.{Base}

-- ---- where it was done

-- The tables of this merge took the place of its inputs: the engine stands behind it for the layout that the ruling on installs
-- leaves, of one with the same tables and logs as before the merge, and the disk holds it.
pub record PutsIn {H : Type 0} (bytes : H → Option (List ℕ)) (told : Option DiskState) (core : Core H) (h : History)
    (l : Layout) (job : laid_job.Job) : Type 0 where
  pub before : Layout
  pub same : HasSameLogs l before
  pub levels : before.levels ≡ l.levels
  pub flushed : before.flushed ≡ l.flushed
  -- all tables that the merge makes
  pub made : Made
  pub outputs : AreOutputs job made
  pub installed : (install_ruling before h job made).answer ≡ Installed
  pub represents : Represents bytes core told h (install_ruling before h job made).layout

-- ---- why it answers what it does

-- no epoch is left, in an engine that wasn't halted
pub record IsOutOfEpochs {D H : Type 0} (old : Moment D H) (counter : Counter) : Type 0 where
  pub counter_is : counter ≡ counters.Version
  pub running : old.core.front.halted ≡ None
  pub used : max_epoch ≤ old.core.back.epoch

module _ {D H R W : Type 0} (g : Ghosts D) (w : Writers W) (bytes : H → Option (List ℕ)) (faults_of : R → ℕ) where
  -- It is a merge of what the engine had, and the one that the ruling on plans has.
  pub record IsDueIn (old : Moment D H) (job : Job (Base H R) H W w) : Type 0 where
    pub version : job.base.version ≡ old.core.version
    pub planned : (h : History) (l : Layout) → StandsOpen bytes old.core old.merging h l
        → ForSome (plan_ruling l h).answer (HasMerge w bytes job)

  -- Its inputs were read whole. Its tables were made, and then the disk took them back, and the manifest has the frame that names them, by two changing calls.
  -- In memory they make a version.
  pub record HasMerged (old new : Moment D H) : Type 0 where
    pub job : Job (Base H R) H W w
    pub due : IsDueIn old job
    pub read : AreReadWhole bytes job.inputs.tables.items
    pub mid : Moment D H
    pub drawn : HasDrawn g old mid
    pub done : Job (Base H R) H W w
    pub inputs : done.inputs ≡ job.inputs
    pub written : IsInstallWritten g bytes w done mid.core mid.disk new.disk
    pub version : MakesVersion mid.core new.core
    pub calls : g.calls new.disk ≡ after_calls 2 (g.calls mid.disk)
    pub steady : g.faults new.disk ≡ g.faults mid.disk

  -- Its tables were made, and putting them in failed at this file, one of theirs or the manifest, which the disk counted. It halts.
  pub record HaltsMerging (old new : Moment D H) (name : Name) : Type 0 where
    pub mid : Moment D H
    pub drawn : HasDrawn g old mid
    pub job : Job (Base H R) H W w
    pub stops : StopsInstall job mid.core.back.manifest.number (g.calls mid.disk) (g.calls new.disk) name
    pub halts : HaltsInstall mid.core new.core name
    pub rose : Rose (g.faults mid.disk) (g.faults new.disk)

  -- A table of the merge wasn't read or written, behind a key up to which it had read all and made its tables.
  pub record FailsMerging (old new : Moment D H) (fault : ReadFault) : Type 0 where
    pub drawn : HasDrawn g old new
    pub job : Job (Base H R) H W w
    pub due : IsDueIn old job
    pub key : Option (List ℕ)
    pub read : InputsReadOn bytes None key job.inputs.tables.items
    pub fails : FailsToMake w bytes faults_of job key (IsLastDrawn new) fault

  -- it halts only at its own disk: at the next table, or at putting its tables in
  abbrev pub FailsAt : (old new : Moment D H) → Name → Type 0
  FailsAt old new name =
      FailsMerging old new (read.Disk name) ⊎ (HaltsDrawing g old new name ⊎ HaltsMerging old new name)

  abbrev pub MergesAs : (old new : Moment D H) → Result (Option ℕ) MergeFail → Type 0
  MergesAs old new (Ok None) = (new.core ≡ old.core) × (new.disk ≡ old.disk)
  MergesAs old new (Ok (Some kept)) = HasMerged old new
  MergesAs old new (Err (merge.Halted name)) = old.core.front.halted ≡ Some name
  MergesAs old new (Err (merge.Exhausted counter)) =
      HasDrawn g old new × (IsOutOfTables old new counter ⊎ IsOutOfEpochs old counter)
  -- nothing is moved while it is done
  MergesAs old new (Err merge.Raced) = ⊥
  MergesAs old new (Err merge.NoMemory) = HasDrawn g old new
  MergesAs old new (Err (merge.Disk name)) = FailsAt old new name
  MergesAs old new (Err (merge.Damaged name place)) = FailsMerging old new (read.Damaged name place)
