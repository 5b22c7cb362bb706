-- A merge is halted by damage that reading for it met, or by a fault that was counted beside the disk.
use Rattle.std.proofs.Common.{◌≡◌, inl, inr, ap, sym, subst, ⊎_elim, ℕ, List}
use Rattle.std.specs.Prelude.{Option, Result, Ok, Err}
use Rattle.vl_compact.specs.Lending.{FailsWriting, HasFailed, IsSteady, Wanted}
use Rattle.vl_compact.specs.Progress.{FailsWith}
use Rattle.vl_compact.specs.Reading.{Counts, FailsReading, IsMemory, IsOfFiles, IsOfSources, MayWhere, NoneRose}
use Rattle.vl_compact.specs.Stops.{MayStopIn}
use Rattle.vl_compact.specs.declared.files.Lent.{Lent}
use Rattle.vl_compact.specs.declared.job.Job.{Job}
use Rattle.vl_disk.specs.declared.name.Name.{Name}
use Rattle.vl_disk.specs.declared.read_fault.ReadFault.TheVariants.{Damaged, Disk, NoMemory}
use Rattle.vl_disk.specs.declared.read_fault.ReadFault.{ReadFault}
use Rattle.vl_disk.specs.declared.writer.Writer.{Ghosts as Writers}
use Rattle.vl_replay.specs.AsCalled.{HaltsMerging}
use Rattle.vl_replay.specs.Rounds.{halt_by, round_by}
use Rattle.vl_replay.specs.declared.tables.Round.{Round}
use Rattle.vl_script_model.specs.Failing.{ReaderFailed, beside}
use Rattle.vl_script_model.specs.Halts.{HaltsByReader}
use Rattle.vl_script_model.specs.declared.fails.Halt.TheVariants as halts
use Rattle.vl_script_model.specs.declared.fails.Halt.{Halt}
use Rattle.vl_steps.specs.declared.fails.StepFail.TheVariants as fails
use Rattle.vl_steps.specs.declared.fails.StepFail.{StepFail}
use Rattle.vl_table.specs.CursorParts.{MayFailOn, is_disk_fault}
use Rattle.vl_table.specs.declared.table.Table.{Table}
use Rattle.vl_version.specs.Sources.{tables_in}
use Rattle.vl_version.specs.declared.base.Base.{Base}

damaged_memory : (name : Name) (place : ℕ) → Damaged name place ≡ NoMemory → ⊥
damaged_memory name place e = cc

damaged_disk : (name : Name) (place : ℕ) (other : Name) → Damaged name place ≡ Disk other → ⊥
damaged_disk name place other e = cc

module _ {H R W : Type 0} (bytes : H → Option (List ℕ)) (reads : R → ℕ) (writers : Writers W) (fits : Type 0) {k : _}
    (job : Job (Base H R) H W k) (after : Option (List ℕ)) (T : Type 0) where
  abbrev Reads : Counts → ReadFault → Type 0
  Reads = FailsReading is_disk_fault (MayWhere fits (MayFailOn bytes (tables_in job.base.version))) is_disk_fault
      (MayStopIn bytes after job.inputs.tables.items)

  -- reading failed
  pub met_reading : (c : Counts) (fault : ReadFault) → Reads c fault
      → (HaltsByReader {T = T} (Err (halt_by fault)) → ReaderFailed (beside reads writers.faults))
      → HaltsMerging bytes reads writers fits job {T = T} (Err (halt_by fault))
  met_reading c NoMemory failed counted = tt
  met_reading c (Disk name) failed counted = counted tt
  met_reading c (Damaged name place) failed counted = ⊎_elim
      (λ (out : IsMemory c (Damaged name place)). absurd (damaged_memory name place out.is))
      (λ read. ⊎_elim
      (λ (sources : IsOfSources is_disk_fault (MayWhere fits (MayFailOn bytes (tables_in job.base.version))) c (Damaged name place)).
      inr sources.had)
      (λ (files : IsOfFiles is_disk_fault (MayStopIn bytes after job.inputs.tables.items) c (Damaged name place)). inl (after, files.had))
      read)
      failed

  -- reading or writing did
  pub met_filling : (c : Counts) (file : Lent W k) (old new : Job (Base H R) H W k) (fault : ReadFault)
      → FailsWith writers Reads c file old new fault
      → (HaltsByReader {T = T} (Err (halt_by fault)) → ReaderFailed (beside reads writers.faults))
      → HaltsMerging bytes reads writers fits job {T = T} (Err (halt_by fault))
  met_filling c file old new NoMemory failed counted = tt
  met_filling c file old new (Disk name) failed counted = counted tt
  met_filling c file old new (Damaged name place) (leaving, left, failed) counted = ⊎_elim
      (λ (read : Reads c (Damaged name place) × IsSteady writers file leaving). met_reading c (Damaged name place) read.0 counted)
      (λ (wrote : FailsWriting writers file leaving (Damaged name place) × NoneRose c). ⊎_elim
      (λ (out : Wanted writers file leaving (Damaged name place)). absurd (damaged_memory name place out.is))
      (λ (failed : HasFailed writers file leaving (Damaged name place)). absurd (damaged_disk name place _ failed.named))
      wrote.0)
      failed

module _ {H R W : Type 0} (bytes : H → Option (List ℕ)) (reads : R → ℕ) (writers : Writers W) where
  -- a merge that was lent no file met none
  pub met_unlent : (fits : Type 0) {k : _} (job : Job (Base H R) H W k) (fail : StepFail)
      → HaltsMerging bytes reads writers fits job (round_by fail)
  met_unlent fits job (fails.Exhausted counter) = tt
  met_unlent fits job fails.NoMemory = tt
  met_unlent fits job (fails.Disk name) = tt
  met_unlent fits job (fails.Halted name) = tt

  -- what is said of a merge is said of one that merges the same, where less is asked for
  pub met_alike : {T : Type 0} (fits others : Type 0) {k : _} (old new : Job (Base H R) H W k)
      → new.base ≡ old.base → new.inputs ≡ old.inputs → (others → fits) → (result : Result T Halt)
      → HaltsMerging bytes reads writers fits new result → HaltsMerging bytes reads writers others old result
  met_alike fits others old new base inputs weaker (Ok x) met = tt
  met_alike fits others old new base inputs weaker (Err halts.NoMemory) met = tt
  met_alike fits others old new base inputs weaker (Err (halts.Disk name)) met = tt
  met_alike fits others old new base inputs weaker (Err (halts.Read name)) met = met
  met_alike fits others old new base inputs weaker (Err (halts.Halted name)) met = tt
  met_alike fits others old new base inputs weaker (Err (halts.Damaged name place)) met = ⊎_elim
      (λ (input : (after : Option (List ℕ)) × MayStopIn bytes after new.inputs.tables.items (Damaged name place)).
      inl (
        input.0,
        subst (λ (ts : List (Table H)). MayStopIn bytes input.0 ts (Damaged name place)) (ap (λ i. i.tables.items) inputs)
            input.1,
      ))
      (λ (source : fits → MayFailOn bytes (tables_in new.base.version) (Damaged name place)). inr (λ other.
      subst (λ (b : Base H R). MayFailOn bytes (tables_in b.version) (Damaged name place)) base (source (weaker other))))
      met

  -- so it is of a call that hands the halt on
  pub met_halt : (fits : Type 0) {k : _} (job : Job (Base H R) H W k) (T U : Type 0) (halt : Halt)
      → HaltsMerging bytes reads writers fits job {T = T} (Err halt) → HaltsMerging bytes reads writers fits job {T = U} (Err halt)
  met_halt fits job T U halts.NoMemory met = tt
  met_halt fits job T U (halts.Disk name) met = tt
  met_halt fits job T U (halts.Read name) met = met
  met_halt fits job T U (halts.Halted name) met = tt
  met_halt fits job T U (halts.Damaged name place) met = met
