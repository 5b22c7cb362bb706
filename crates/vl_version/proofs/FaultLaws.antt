-- A table's fault as that of a read.
use Rattle.std.proofs.Common.{◌≡◌, ℕ, refl, sym, subst}
use Rattle.std.specs.Prelude.{Result, Err}
use Rattle.vl_disk.specs.Faults.{HasCause}
use Rattle.vl_table.specs.Answers.{NeedsNoMemory}
use Rattle.vl_table.specs.Answers as table_answers
use Rattle.vl_disk.specs.declared.read_fault.ReadFault.{ReadFault}
use Rattle.vl_disk.specs.declared.read_fault.ReadFault.TheVariants as table
use Rattle.vl_version.specs.Faults.{Failed}
use Rattle.vl_disk.specs.declared.read_fault.ReadFault.TheVariants.{NoMemory}

module _ (T U : Type 0) where
  failed_alike : (e : ReadFault) → table_answers.Failed {T = U} (Err e) ≡ Failed {T = T} (Err e)
  failed_alike table.NoMemory = refl
  failed_alike (table.Disk name) = refl
  failed_alike (table.Damaged name place) = refl

  -- it has the same cause,
  pub handed_cause : (before now : ℕ) (e : ReadFault) (result : Result T ReadFault) → result ≡ Err e
      → HasCause before now (table_answers.Failed {T = U} (Err e)) → HasCause before now (Failed result)
  handed_cause before now e result is cause =
      subst (λ (r : Result T ReadFault). HasCause before now (Failed r)) (sym is) (subst (HasCause before now) (failed_alike e) cause)

  -- fails as that does,
  pub handed_failure : (e : ReadFault) (result : Result T ReadFault) → result ≡ Err e → Failed result
      → table_answers.Failed {T = U} (Err e)
  handed_failure e result is failed =
      subst (λ (F : Type 0). F) (sym (failed_alike e)) (subst (λ (r : Result T ReadFault). Failed r) is failed)

  -- and isn't want of memory where that isn't
  pub handed_memory : (e : ReadFault) → NeedsNoMemory {T = U} (Err e) → e ≡ NoMemory → ⊥
  handed_memory table.NoMemory none is = none
  handed_memory (table.Disk name) none is = cc
  handed_memory (table.Damaged name place) none is = cc
