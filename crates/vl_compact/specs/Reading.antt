-- Why a call of a job failed: what was counted while it read.
use Rattle.std.specs.Prelude.{◌≡◌, ◌⊎◌, ℕ, Bool}
use Rattle.vl_compact.specs.declared.job_reader.JobReader.{JobReader}
use Rattle.vl_model.specs.Cursors.{IsCounted}
use Rattle.vl_disk.specs.Faults.{never}
use Rattle.vl_disk.specs.declared.read_fault.ReadFault.{ReadFault}
use Rattle.vl_disk.specs.declared.read_fault.ReadFault.TheVariants.{NoMemory}

-- what two counts of faults were and are: that of the sources, and that of their inputs' files
pub record Counts : Type 0 where
  pub sources_before : ℕ
  pub sources_after : ℕ
  pub files_before : ℕ
  pub files_after : ℕ

abbrev pub counts : {R L : Type 0} → (L → ℕ) → (R → ℕ) → (old new : JobReader R L) → Counts
counts sources files old new = record {
  sources_before = sources old.looks;
  sources_after = sources new.looks;
  files_before = files old.files;
  files_after = files new.files;
}

-- no fault of reading was counted
pub record NoneRose (c : Counts) : Type 0 where
  pub sources : c.sources_after ≡ c.sources_before
  pub files : c.files_after ≡ c.files_before

-- neither of a job's readers ever fails
pub record IsSure {R L : Type 0} (sources : L → ℕ) (files : R → ℕ) (reader : JobReader R L) : Type 0 where
  pub looks_never : sources reader.looks ≡ never
  pub files_never : files reader.files ≡ never

-- memory was wanting
pub record IsMemory (c : Counts) (fault : ReadFault) : Type 0 where
  pub is : fault ≡ NoMemory
  pub steady : NoneRose c

-- It is one of the sources, which may have it, and was counted there if it says that reading failed.
pub record IsOfSources (is_read : ReadFault → Bool) (may : ReadFault → Type 0) (c : Counts) (fault : ReadFault) : Type 0 where
  pub had : may fault
  pub counted : IsCounted (is_read fault) c.sources_before c.sources_after
  pub steady : c.files_after ≡ c.files_before

-- so of the inputs' files
pub record IsOfFiles (is_read : ReadFault → Bool) (may : ReadFault → Type 0) (c : Counts) (fault : ReadFault) : Type 0 where
  pub had : may fault
  pub counted : IsCounted (is_read fault) c.files_before c.files_after
  pub steady : c.sources_after ≡ c.sources_before

-- there may be this fault, where something holds
abbrev pub MayWhere : Type 0 → (ReadFault → Type 0) → ReadFault → Type 0
MayWhere holds may fault = holds → may fault

-- a fault of reading is one of these, by which faults say that reading failed, and which there may be
abbrev pub FailsReading : (ReadFault → Bool) → (ReadFault → Type 0) → (ReadFault → Bool) → (ReadFault → Type 0)
    → Counts → ReadFault → Type 0
FailsReading is_sources_read of_sources is_files_read of_files c fault =
    IsMemory c fault ⊎ (IsOfSources is_sources_read of_sources c fault ⊎ IsOfFiles is_files_read of_files c fault)

-- ---- where the sources alone are asked

pub record LacksMemory (before after : ℕ) (fault : ReadFault) : Type 0 where
  pub is : fault ≡ NoMemory
  pub steady : after ≡ before

pub record IsOfThem (is_read : ReadFault → Bool) (may : ReadFault → Type 0) (before after : ℕ) (fault : ReadFault) : Type 0 where
  pub had : may fault
  pub counted : IsCounted (is_read fault) before after

abbrev pub FailsLooking : (ReadFault → Bool) → (ReadFault → Type 0) → (before after : ℕ) → ReadFault → Type 0
FailsLooking is_read may before after fault = LacksMemory before after fault ⊎ IsOfThem is_read may before after fault
