-- A job whose readers never fail, and whose files are written by what never fails, answers no fault of the disk.
use Rattle.std.specs.Prelude.{◌≡◌, ◌⊎◌, ◌≤◌, ◌<◌, ℕ}
use Rattle.std.proofs.Common.{arith, sym, subst, ⊎_elim, ◌∙◌}
use Rattle.vl_compact.specs.Lending.{FailsWriting, HasFailed, IsSteady, Wanted}
use Rattle.vl_compact.specs.Progress.{FailsWith}
use Rattle.vl_compact.specs.Reading.{Counts, FailsReading, IsMemory, IsOfFiles, IsOfSources, IsSure, NoneRose, counts}
use Rattle.vl_compact.specs.declared.files.Lent.{Lent}
use Rattle.vl_compact.specs.declared.job.Job.{Job}
use Rattle.vl_compact.specs.declared.job_reader.JobReader.{JobReader}
use Rattle.vl_disk.specs.Faults.{Rose, never}
use Rattle.vl_disk.specs.laws.Counting.{never_rises}
use Rattle.vl_disk.specs.declared.name.Name.{Name}
use Rattle.vl_disk.specs.declared.read_fault.ReadFault.TheVariants.{Disk, NoMemory}
use Rattle.vl_disk.specs.declared.read_fault.ReadFault.{ReadFault}
use Rattle.vl_disk.specs.declared.writer.Writer.{Ghosts}
use Rattle.vl_model.specs.Cursors.{HasRisen}
use Rattle.vl_table.specs.CursorParts.{is_disk_fault}

never_risen : (before now : ℕ) → before ≡ never → HasRisen before now → ⊥
never_risen before now sure risen = let later = risen.later in let counts = risen.counts in omega (arith, sure, later, counts)

disk_memory : (name : Name) → Disk name ≡ NoMemory → ⊥
disk_memory name e = cc

module _ {L R : Type 0} (sources : L → ℕ) (files : R → ℕ) where
  -- a call that passed leaves them so
  pub still_sure : (old new : JobReader R L) → NoneRose (counts sources files old new) → IsSure sources files old
      → IsSure sources files new
  still_sure old new none sure = record {
    looks_never = none.sources ∙ sure.looks_never;
    files_never = none.files ∙ sure.files_never;
  }

  module _ (may their : ReadFault → Type 0) (old new : JobReader R L) (sure : IsSure sources files old) where
    abbrev its : Counts
    its = counts sources files old new

    no_read : (name : Name) → FailsReading is_disk_fault may is_disk_fault their its (Disk name) → ⊥
    no_read name fails = ⊎_elim
        (λ (out : IsMemory its (Disk name)). let is = out.is in disk_memory name is)
        (λ (other : IsOfSources is_disk_fault may its (Disk name) ⊎ IsOfFiles is_disk_fault their its (Disk name)). ⊎_elim
        (λ (of : IsOfSources is_disk_fault may its (Disk name)). never_risen _ _ sure.looks_never of.counted)
        (λ (of : IsOfFiles is_disk_fault their its (Disk name)). never_risen _ _ sure.files_never of.counted)
        other)
        fails

    -- and none fails to read,
    pub read_surely : (fault : ReadFault) (name : Name) → FailsReading is_disk_fault may is_disk_fault their its fault
        → fault ≡ Disk name → ⊥
    read_surely fault name fails is = no_read name
        (subst (λ (f : ReadFault). FailsReading is_disk_fault may is_disk_fault their its f) is fails)

    -- nor to write what it was lent
    pub filled_surely : {V H W : Type 0} (w : Ghosts W) {g : _} (file : Lent W g) (first last : Job V H W g) (fault : ReadFault)
        (name : Name) → w.faults file.writer ≡ never
        → FailsWith w (FailsReading is_disk_fault may is_disk_fault their) its file first last fault → fault ≡ Disk name → ⊥
    filled_surely w file first last fault name writes (leaving, left, fails) is = ⊎_elim
        (λ (unread : FailsReading is_disk_fault may is_disk_fault their its fault × IsSteady w file leaving).
        read_surely fault name unread.0 is)
        (λ (wrote : FailsWriting w file leaving fault × NoneRose its). ⊎_elim
        (λ (out : Wanted w file leaving fault). let want = out.is in disk_memory name (sym is ∙ want))
        (λ (failed : HasFailed w file leaving fault).
        never_rises _ (subst (λ (n : ℕ). Rose n (w.faults leaving.writer)) writes failed.rose))
        wrote.0)
        fails
