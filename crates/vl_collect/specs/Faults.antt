-- Why a call of a pass failed: what was counted while it read.
use Rattle.std.specs.Prelude.{◌≡◌, ◌⊎◌, ℕ, Bool, Result, Err}
use Rattle.vl_disk.specs.declared.read_fault.ReadFault.{ReadFault}
use Rattle.vl_disk.specs.declared.read_fault.ReadFault.TheVariants.{NoMemory, Disk, Damaged}
use Rattle.vl_disk.specs.Faults.{HasCause}
use Rattle.vl_model.specs.Cursors.{IsCounted}
use Rattle.vl_seglog.specs.Answers.{Failed, IsNamed}

-- there may be this fault, where something holds
abbrev pub MayWhere : Type 0 → (ReadFault → Type 0) → ReadFault → Type 0
MayWhere holds may fault = holds → may fault

-- ---- where the sources alone are asked

pub record LacksMemory (before after : ℕ) (fault : ReadFault) : Type 0 where
  pub is : fault ≡ NoMemory
  pub steady : after ≡ before

-- it is one that the sources may have, and was counted if it says that reading failed
pub record IsTheirs (is_read : ReadFault → Bool) (may : ReadFault → Type 0) (before after : ℕ) (fault : ReadFault) : Type 0 where
  pub told : ReadFault
  pub is : fault ≡ told
  pub had : may told
  pub counted : IsCounted (is_read told) before after

abbrev pub FailsLooking : (ReadFault → Bool) → (ReadFault → Type 0) → (before after : ℕ) → ReadFault → Type 0
FailsLooking is_read may before after fault = LacksMemory before after fault ⊎ IsTheirs is_read may before after fault

-- ---- where the log is read too

-- what two counts of faults were and are: that of the sources, and that of the log's file
pub record Counts : Type 0 where
  pub sources_before : ℕ
  pub sources_after : ℕ
  pub files_before : ℕ
  pub files_after : ℕ

abbrev pub counted : ℕ → ℕ → ℕ → ℕ → Counts
counted sources_before sources_after files_before files_after = record {
  sources_before = sources_before;
  sources_after = sources_after;
  files_before = files_before;
  files_after = files_after;
}

-- no fault of reading was counted
pub record NoneRose (c : Counts) : Type 0 where
  pub sources : c.sources_after ≡ c.sources_before
  pub files : c.files_after ≡ c.files_before

-- the look-ups failed, and reading the log didn't
pub record IsOfLooks (is_read : ReadFault → Bool) (may : ReadFault → Type 0) (c : Counts) (fault : ReadFault) : Type 0 where
  pub fails : FailsLooking is_read may c.sources_before c.sources_after fault
  pub steady : c.files_after ≡ c.files_before

-- where damage is answered it is there
abbrev pub IsThere : (ℕ → Type 0) → ReadFault → Type 0
IsThere bad NoMemory = Unit {0}
IsThere bad (Disk name) = Unit {0}
IsThere bad (Damaged name place) = bad place

abbrev pub failing : ReadFault → Result (Unit {0}) ReadFault
failing fault = Err fault

-- Reading the log with this number failed, which was counted if the fault says so, or found damage, which is there.
pub record IsOfLog (number : ℕ) (bad : ℕ → Type 0) (c : Counts) (fault : ReadFault) : Type 0 where
  pub told : ReadFault
  pub is : fault ≡ told
  pub named : IsNamed number (failing told)
  pub damage : IsThere bad told
  pub counted : HasCause c.files_before c.files_after (Failed (failing told))
  pub steady : c.sources_after ≡ c.sources_before

abbrev pub FailsPassing : (ReadFault → Bool) → (ReadFault → Type 0) → ℕ → (ℕ → Type 0) → Counts → ReadFault → Type 0
FailsPassing is_read may number bad c fault = IsOfLooks is_read may c fault ⊎ IsOfLog number bad c fault
