-- What failed in a pass was counted by one of the readers that it goes on with, and doesn't where these never fail.
use Rattle.std.proofs.Common.{◌≡◌, ⊎_elim, ℕ, refl, subst, sym}
use Rattle.std.specs.Prelude.{Err}
use Rattle.vl_collect.specs.Faults.{Counts, FailsPassing, IsOfLog, IsOfLooks, IsTheirs, LacksMemory, counted, failing}
use Rattle.vl_collect.specs.laws.SureReaders.{passed_whole}
use Rattle.vl_disk.specs.Faults.{HasCause, never}
use Rattle.vl_disk.specs.declared.name.Name.{Name}
use Rattle.vl_disk.specs.declared.read_fault.ReadFault.{ReadFault}
use Rattle.vl_disk.specs.declared.read_fault.ReadFault.TheVariants.{Damaged, Disk, NoMemory}
use Rattle.vl_disk.specs.laws.Counting.{rose_at_all}
use Rattle.vl_model.specs.Cursors.{IsCounted}
use Rattle.vl_replay_laws.specs.Passing.{halt_at}
use Rattle.vl_script.specs.declared.answer.Answer.{Answer}
use Rattle.vl_script_model.specs.Failing.{FailsBeside, ReaderFailed}
use Rattle.vl_script_model.specs.Halts.{HaltsByReader}
use Rattle.vl_seglog.specs.Answers.{Failed}
use Rattle.vl_table.specs.CursorParts.{is_disk_fault}
use Rattle.vl_table.specs.declared.block_reader.BlockReader.{BlockReader}
use Rattle.vl_replay.proofs.CarryingJob.{risen_counted}

disk_memory : (name : Name) → Disk name ≡ NoMemory → ⊥
disk_memory name e = cc

module _ {R : Type 0} (faults : R → ℕ) (may : ReadFault → Type 0) (number : ℕ) (bad : ℕ → Type 0)
    (looks looks_now : BlockReader R) (files files_now : R) where
  abbrev its : Counts
  its = counted (faults looks.reader) (faults looks_now.reader) (faults files) (faults files_now)

  abbrev Fails : ReadFault → Type 0
  Fails = FailsPassing (λ (f : ReadFault). is_disk_fault f) may number bad its

  one_counted : (name : Name) → Fails (Disk name) → ReaderFailed faults
  one_counted name fails = ⊎_elim
      (λ (of : IsOfLooks (λ (f : ReadFault). is_disk_fault f) may its (Disk name)). ⊎_elim
      (λ (lacks : LacksMemory its.sources_before its.sources_after (Disk name)). absurd (disk_memory name lacks.is))
      (λ (theirs : IsTheirs (λ (f : ReadFault). is_disk_fault f) may its.sources_before its.sources_after (Disk name)). record {
        reader = looks_now.reader;
        some = risen_counted (faults looks.reader) (faults looks_now.reader)
            (subst (λ (f : ReadFault). IsCounted (is_disk_fault f) its.sources_before its.sources_after) (sym theirs.is) theirs.counted);
      })
      of.fails)
      (λ (of : IsOfLog number bad its (Disk name)). record {
        reader = files_now;
        some = rose_at_all (faults files) (faults files_now)
            ((subst (λ (f : ReadFault). HasCause its.files_before its.files_after (Failed (failing f))) (sym of.is) of.counted).rose tt);
      })
      fails

  pub passing_fails : (sure : Type 0) → (sure → faults looks.reader ≡ never) → (sure → faults files ≡ never) → (fault : ReadFault)
      → Fails fault → HaltsByReader {T = Answer} (Err (halt_at fault)) → FailsBeside sure faults
  passing_fails sure looks_never files_never NoMemory fails by = absurd by
  passing_fails sure looks_never files_never (Disk name) fails by = record {
    failed = one_counted name fails;
    not_so = λ is. passed_whole (λ (f : ReadFault). is_disk_fault f) may number bad its name refl (looks_never is) (files_never is)
        (Disk name) fails refl;
  }
  passing_fails sure looks_never files_never (Damaged name place) fails by = absurd by
