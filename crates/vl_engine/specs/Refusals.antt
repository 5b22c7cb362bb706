-- What a merge that is done here and now answers, over any disk: each refusal has its cause.
use Rattle.std.specs.Prelude.{◌≡◌, ◌≢◌, ◌⊎◌, ℕ, ◌+◌, ◌≤◌, ◌<◌, List, [], ◌++◌, Option, None, Some, Result, Ok, Err}
use Rattle.std.specs.List.{AllByRecursion}
use Rattle.vl_back.specs.Writing.{IsKept}
use Rattle.vl_compact.specs.Lending.{FailsWriting}
use Rattle.vl_compact.specs.Reading.{FailsReading, MayWhere, counts}
use Rattle.vl_compact.specs.Stops.{MayStopIn}
use Rattle.vl_compact.specs.declared.files.Lent.{Lent}
use Rattle.vl_compact.specs.declared.job.Job.{Job}
use Rattle.vl_compact.specs.declared.job_reader.JobReader.{JobReader}
use Rattle.vl_disk.specs.Calls.{ChangesNothing}
use Rattle.vl_disk.specs.DiskState.{DiskState}
use Rattle.vl_disk.specs.Faults.{Rose, after_calls}
use Rattle.vl_disk.specs.declared.name.Name.TheVariants as names
use Rattle.vl_disk.specs.declared.name.Name.{Name}
use Rattle.vl_disk.specs.declared.read_fault.ReadFault.TheVariants as read
use Rattle.vl_disk.specs.declared.read_fault.ReadFault.{ReadFault}
use Rattle.vl_disk.specs.declared.watched.Watched.{Ghosts}
use Rattle.vl_disk.specs.declared.writer.Writer.{Ghosts as Writers}
use Rattle.vl_engine.specs.declared.fails.MergeFail.TheVariants as merge
use Rattle.vl_engine.specs.declared.fails.MergeFail.{MergeFail}
use Rattle.vl_engine_laws.specs.Lent.{lent_in}
use Rattle.vl_engine_laws.specs.declared.kept.Core.{Core}
use Rattle.vl_engine_laws.specs.declared.open.OpenMerge.{OpenMerge}
use Rattle.vl_model.specs.Conflicts.{Named}
use Rattle.vl_model.specs.Limits.{max_file_number}
use Rattle.vl_model.specs.declared.counter.Counter.TheVariants as counters
use Rattle.vl_model.specs.declared.counter.Counter.{Counter}
use Rattle.vl_steps.specs.Merging.{FitsReaders}
use Rattle.vl_steps.specs.declared.fails.InstallFail.TheVariants as install
use Rattle.vl_steps.specs.declared.fails.InstallFail.{InstallFail}
use Rattle.vl_steps.specs.declared.fails.StepFail.TheVariants as step
use Rattle.vl_steps.specs.declared.fails.StepFail.{StepFail}
use Rattle.vl_table.specs.CursorParts.{MayFailOn, is_disk_fault}
use Rattle.vl_table.specs.declared.block_reader.BlockReader.{BlockReader}
use Rattle.vl_version.specs.Sources.{tables_in}
use Rattle.vl_version.specs.declared.base.Base.{Base}

-- ---- what the refusal of a call is to its merge

abbrev pub of_step : StepFail → MergeFail
of_step (step.Halted name) = merge.Halted name
of_step (step.Exhausted counter) = merge.Exhausted counter
of_step step.NoMemory = merge.NoMemory
of_step (step.Disk name) = merge.Disk name

abbrev pub of_read : ReadFault → MergeFail
of_read read.NoMemory = merge.NoMemory
of_read (read.Disk name) = merge.Disk name
of_read (read.Damaged name place) = merge.Damaged name place

abbrev pub of_install : {V H W : Type 0} {s : _} → InstallFail V H W s → MergeFail
of_install (install.Halted name) = merge.Halted name
of_install (install.Raced key number) = merge.Raced
of_install (install.Exhausted counter) = merge.Exhausted counter
of_install (install.NoMemory job) = merge.NoMemory
of_install (install.Disk name) = merge.Disk name

-- ---- what a merge may change

-- what an engine keeps in memory, with the merge that is open, and its disk, at one moment
pub record Moment (D H : Type 0) : Type 0 where
  pub core : Core H
  pub merging : Option OpenMerge
  pub disk : D

abbrev pub moment : {D H : Type 0} → Core H → Option OpenMerge → D → Moment D H
moment core merging disk = record { core = core; merging = merging; disk = disk }

-- the keys that were moved since the open merge began
abbrev pub moved_in : Option OpenMerge → List Named
moved_in None = []
moved_in (Some o) = o.moved.items

-- What was moved stays noted, and some files more were lent to it, with numbers from this one on.
pub record LendsFrom (first : ℕ) (old new : Option OpenMerge) : Type 0 where
  pub moved : moved_in new ≡ moved_in old
  pub more : List ℕ
  pub lent : lent_in new ≡ lent_in old ++ more
  pub above : AllByRecursion (λ (n : ℕ). first ≤ n) more

-- no file but tables with numbers from this one on comes or goes, where bytes are told
abbrev pub KeepsAllBelow : (first : ℕ) → (old new : Option DiskState) → Type 0
KeepsAllBelow first old new = (before now : DiskState) → old ≡ Some before → new ≡ Some now → (name : Name)
    → ((n : ℕ) → first ≤ n → name ≢ names.Table n) → IsKept name before now

-- so many numbers of tables more were given
abbrev pub drawn_by : {H : Type 0} → ℕ → Core H → Core H
drawn_by count core = record core {
  back = record core.back { state = record core.back.state { next_table = core.back.state.next_table + count } };
}

module _ {D H : Type 0} (g : Ghosts D) where
  -- nothing that is kept in memory beside the open merge changed, and nothing of the disk, at each moment
  pub record LeavesStore (old new : Moment D H) : Type 0 where
    pub core : new.core ≡ old.core
    pub disk : ChangesNothing g old.disk new.disk ⊥

  -- Some tables' files were made, each by one changing call and with the next number. Nothing else that is kept in memory beside
  -- the open merge changed, and the disk didn't fail.
  pub record HasDrawn (old new : Moment D H) : Type 0 where
    pub count : ℕ
    pub core : new.core ≡ drawn_by count old.core
    pub calls : g.calls new.disk ≡ after_calls count (g.calls old.disk)
    pub steady : g.faults new.disk ≡ g.faults old.disk

  -- Some were, and the next one wasn't made and lent, which the disk counted. It halts at that table.
  pub record HaltsDrawing (old new : Moment D H) (name : Name) : Type 0 where
    pub count : ℕ
    pub running : old.core.front.halted ≡ None
    pub named : name ≡ names.Table (old.core.back.state.next_table + count)
    pub core : new.core ≡ record (drawn_by count old.core) { front = record old.core.front { halted = Some name } }
    pub calls : g.calls new.disk ≡ after_calls (count + 1) (g.calls old.disk)
    pub rose : Rose (g.faults old.disk) (g.faults new.disk)

-- the last number of a table that was given
abbrev pub IsLastDrawn : {D H : Type 0} → Moment D H → ℕ → Type 0
IsLastDrawn m number = number + 1 ≡ m.core.back.state.next_table

-- no number of a table is left, in an engine that wasn't halted
pub record IsOutOfTables {D H : Type 0} (old new : Moment D H) (counter : Counter) : Type 0 where
  pub counter_is : counter ≡ counters.Table
  pub running : old.core.front.halted ≡ None
  pub used : max_file_number < new.core.back.state.next_table

-- ---- why its tables weren't made

module _ {H R W : Type 0} (w : Writers W) (bytes : H → Option (List ℕ)) (faults_of : R → ℕ) where
  -- Reading what the job merges behind this key failed by this fault, as a count says of what it was read with.
  pub record FailsToRead {s : _} (job : Job (Base H R) H W s) (key : Option (List ℕ)) (fault : ReadFault) : Type 0 where
    pub before : JobReader R (BlockReader R)
    pub after : JobReader R (BlockReader R)
    pub cause : FailsReading is_disk_fault (MayWhere (FitsReaders bytes job) (MayFailOn bytes (tables_in job.base.version)))
        is_disk_fault (MayStopIn bytes key job.inputs.tables.items)
        (counts (λ (l : BlockReader R). faults_of l.reader) faults_of before after) fault

  -- Writing a file that it was lent failed by this fault, as the file's count says. It is one of these numbers.
  pub record FailsToWrite (s : Writers W) (lent : ℕ → Type 0) (fault : ReadFault) : Type 0 where
    pub file : Lent W s
    pub is_lent : lent file.number
    pub leaving : Lent W s
    pub cause : FailsWriting w file leaving fault

  abbrev pub FailsToMake : {s : _} → Job (Base H R) H W s → (key : Option (List ℕ)) → (lent : ℕ → Type 0) → ReadFault → Type 0
  FailsToMake {s = s} job key lent fault = FailsToRead job key fault ⊎ FailsToWrite s lent fault

  -- so it is with what carrying out a merge answers, which has made its tables up to this key
  abbrev pub CarriesOutAs : {D : Type 0} → Ghosts D → {s : _} → Job (Base H R) H W s → (key : Option (List ℕ))
      → (old new : Moment D H) → Result (Unit {0}) MergeFail → Type 0
  CarriesOutAs g job key old new (Ok done) = HasDrawn g old new
  CarriesOutAs g job key old new (Err (merge.Halted name)) = old.core.front.halted ≡ Some name
  CarriesOutAs g job key old new (Err (merge.Exhausted counter)) = HasDrawn g old new × IsOutOfTables old new counter
  CarriesOutAs g job key old new (Err merge.Raced) = ⊥
  CarriesOutAs g job key old new (Err merge.NoMemory) = HasDrawn g old new
  CarriesOutAs g job key old new (Err (merge.Disk name)) =
      (HasDrawn g old new × FailsToMake job key (IsLastDrawn new) (read.Disk name)) ⊎ HaltsDrawing g old new name
  CarriesOutAs g job key old new (Err (merge.Damaged name place)) =
      HasDrawn g old new × FailsToMake job key (IsLastDrawn new) (read.Damaged name place)
