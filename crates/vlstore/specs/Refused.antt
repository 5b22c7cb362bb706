-- Why a session's merge was refused.
use Rattle.std.specs.Prelude.{◌≡◌, ◌⊎◌, ℕ, ◌+◌, ◌≤◌, List, Option, None, Some, length}
use Rattle.vl_compact.specs.Stops.{AreReadWhole, InputsReadOn}
use Rattle.vl_compact.specs.declared.job.Job.{Job}
use Rattle.vl_disk.specs.declared.name.Name.{Name}
use Rattle.vl_disk.specs.declared.read_fault.ReadFault.TheVariants as read
use Rattle.vl_disk.specs.declared.read_fault.ReadFault.{ReadFault}
use Rattle.vl_disk.specs.declared.writer.Writer.{Ghosts as Writers}
use Rattle.vl_engine.specs.Refusals.{FailsToMake}
use Rattle.vl_engine.specs.declared.fails.MergeFail.TheVariants as merge
use Rattle.vl_engine.specs.declared.fails.MergeFail.{MergeFail}
use Rattle.vl_engine_laws.specs.Represents.{file_of}
use Rattle.vl_engine_model.specs.Jobs.{Made}
use Rattle.vl_engine_model.specs.Rulings.Fresh as fresh
use Rattle.vl_engine_model.specs.Rulings.Fresh.{fresh_ruling}
use Rattle.vl_engine_model.specs.Rulings.Install as install
use Rattle.vl_engine_model.specs.Rulings.Install.{InstallAnswer, install_ruling}
use Rattle.vl_engine_model.specs.Rulings.Plan.{plan_ruling}
use Rattle.vl_engine_model.specs.declared.job.Job as laid_job
use Rattle.vl_engine_model.specs.declared.layout.Layout.{Layout}
use Rattle.vl_engine_model.specs.declared.lock_history.LockEntry.{LockEntry}
use Rattle.vl_model.specs.History.{History}
use Rattle.vl_model.specs.Limits.{max_file_number}
use Rattle.vl_model.specs.declared.counter.Counter.TheVariants as counters
use Rattle.vl_model.specs.declared.counter.Counter.{Counter}
use Rattle.vl_steps.specs.Merging.{FitsReaders, HasMerge}
use Rattle.vl_version.specs.declared.base.Base.{Base}
use Rattle.vlstore.specs.Knowing.{Knows}
use Rattle.vlstore.specs.Lists.{history_by, layout_by}
use mathlib.Core.List.{IsPrefix}

-- At a moment between what was seen before and what is seen now, the steps came to a layout and a history of which this holds.
pub record Between (v w : Knows) (P : Layout → History → Type 0) : Type 0 where
  pub before : List LockEntry
  pub later : IsPrefix v.seen before
  pub within : IsPrefix before w.seen
  pub was : P (layout_by v.origin before) (history_by v.origin before)

module _ (v w : Knows) where
  -- The store was halted at this file. Over disks that are sure not to fail none is halted, unless it was when it was made.
  pub record WasHalted (sure : Type 0) (name : Name) : Type 0 where
    pub was : Between v w (λ l h. l.halted ≡ Some (file_of name))
    pub never : sure → v.origin.layout.halted ≡ None → ⊥

  -- A step of the merge failed at this file, which halted the store. None does over disks that are sure not to fail.
  pub record WasFailed (sure : Type 0) (name : Name) : Type 0 where
    pub running : Between v w (λ l h. l.halted ≡ None)
    pub halted : Between v w (λ l h. l.halted ≡ Some (file_of name))
    pub never : sure → ⊥

  -- a table with this number was given to it
  abbrev pub WasDrawn : ℕ → Type 0
  WasDrawn number = Between v w (λ l h. (fresh_ruling l h).answer ≡ fresh.Drawn number)

  -- it took as many numbers of tables as there are
  pub record TookAll (counter : Counter) : Type 0 where
    pub counter_is : counter ≡ counters.Table
    pub took : max_file_number + length v.own ≤ length w.own

  -- no number of a table was left for it
  abbrev pub IsOutOfTables : Counter → Type 0
  IsOutOfTables counter = Between v w (λ l h. (fresh_ruling l h).answer ≡ fresh.Exhausted counter) ⊎ TookAll counter

  -- The merge that the ruling on plans had was refused so by the ruling on installs.
  pub record WasRefused (answer : InstallAnswer) : Type 0 where
    pub planned : laid_job.Job
    pub due : Between v w (λ l h. (plan_ruling l h).answer ≡ Some planned)
    pub made : Made
    pub refused : Between v w (λ l h. (install_ruling l h planned made).answer ≡ answer)

  -- a record was relocated whose deletion it dropped
  abbrev pub WasRaced : Type 0
  WasRaced = (key : List ℕ) × (number : ℕ) × WasRefused (install.Raced key number)

  module _ {H R W : Type 0} (writers : Writers W) (bytes : H → Option (List ℕ)) (faults_of : R → ℕ) where
    -- The merge that the ruling on plans had is this one, and what it looks up is told.
    pub record IsDue (job : Job (Base H R) H W writers) : Type 0 where
      pub planned : laid_job.Job
      pub due : Between v w (λ l h. (plan_ruling l h).answer ≡ Some planned)
      pub has : HasMerge writers bytes job planned
      pub looks : FitsReaders bytes job

    -- The inputs of that merge were read whole.
    pub record HasReadAll : Type 0 where
      pub job : Job (Base H R) H W writers
      pub due : IsDue job
      pub read : AreReadWhole bytes job.inputs.tables.items

  module _ {H R W : Type 0} (sure : Type 0) (writers : Writers W) (bytes : H → Option (List ℕ)) (faults_of : R → ℕ)
    where
      -- so it is with why the tables of a job weren't made behind this key
      abbrev pub StopsMaking : Job (Base H R) H W writers → (key : Option (List ℕ)) → MergeFail → Type 0
      StopsMaking job key (merge.Halted name) = WasHalted sure name
      StopsMaking job key (merge.Exhausted counter) = IsOutOfTables counter
      StopsMaking job key merge.Raced = ⊥
      StopsMaking job key merge.NoMemory = Unit {0}
      StopsMaking job key (merge.Disk name) =
          FailsToMake writers bytes faults_of job key WasDrawn (read.Disk name) ⊎ WasFailed sure name
      StopsMaking job key (merge.Damaged name place) =
          FailsToMake writers bytes faults_of job key WasDrawn (read.Damaged name place)

      -- A table of the merge that the ruling on plans had wasn't read or written, behind a key up to which it had read all and made its
      -- tables.
      pub record FailsMaking (fault : ReadFault) : Type 0 where
        pub job : Job (Base H R) H W writers
        pub due : IsDue writers bytes faults_of job
        pub key : Option (List ℕ)
        pub read : InputsReadOn bytes None key job.inputs.tables.items
        pub fails : FailsToMake writers bytes faults_of job key WasDrawn fault

      -- so it is with why a whole merge was refused
      abbrev pub IsRefused : MergeFail → Type 0
      IsRefused (merge.Halted name) = WasHalted sure name
      IsRefused (merge.Exhausted counter) = IsOutOfTables counter ⊎ WasRefused (install.Exhausted counter)
      IsRefused merge.Raced = WasRaced
      IsRefused merge.NoMemory = Unit {0}
      IsRefused (merge.Disk name) = FailsMaking (read.Disk name) ⊎ WasFailed sure name
      IsRefused (merge.Damaged name place) = FailsMaking (read.Damaged name place)
