-- A pass whose readers never fail answers no fault of the disk.
use Rattle.std.specs.Prelude.{◌≡◌, ◌⊎◌, ◌≤◌, ◌<◌, ℕ, Bool, true}
use Rattle.std.proofs.Common.{arith, sym, subst, ⊎_elim, ◌∙◌}
use Rattle.vl_collect.specs.Faults.{Counts, FailsPassing, IsOfLog, IsOfLooks, IsTheirs, LacksMemory, failing}
use Rattle.vl_disk.specs.Faults.{HasCause, never}
use Rattle.vl_disk.specs.laws.Counting.{never_failed}
use Rattle.vl_disk.specs.declared.name.Name.{Name}
use Rattle.vl_disk.specs.declared.read_fault.ReadFault.TheVariants.{Disk, NoMemory}
use Rattle.vl_disk.specs.declared.read_fault.ReadFault.{ReadFault}
use Rattle.vl_model.specs.Cursors.{HasRisen, IsCounted}
use Rattle.vl_seglog.specs.Answers.{Failed}

-- the count of what never fails doesn't rise
pub never_risen : (before now : ℕ) → before ≡ never → HasRisen before now → ⊥
never_risen before now sure risen = let later = risen.later in let counts = risen.counts in omega (arith, sure, later, counts)

disk_memory : (name : Name) → Disk name ≡ NoMemory → ⊥
disk_memory name e = cc

module _ (is_read : ReadFault → Bool) (may : ReadFault → Type 0) (number : ℕ) (bad : ℕ → Type 0) (c : Counts) (name : Name)
    (reads : is_read (Disk name) ≡ true) (looks : c.sources_before ≡ never) (files : c.files_before ≡ never) where
  not_theirs : (told : ReadFault) → Disk name ≡ told → IsCounted (is_read told) c.sources_before c.sources_after → ⊥
  not_theirs told is counted = never_risen c.sources_before c.sources_after looks
      (subst (λ (b : Bool). IsCounted b c.sources_before c.sources_after) reads
      (subst (λ (f : ReadFault). IsCounted (is_read f) c.sources_before c.sources_after) (sym is) counted))

  pub passed_whole : (fault : ReadFault) → FailsPassing is_read may number bad c fault → fault ≡ Disk name → ⊥
  passed_whole fault fails is = ⊎_elim
      (λ (of : IsOfLooks is_read may c fault). ⊎_elim
      (λ (lacks : LacksMemory c.sources_before c.sources_after fault). let want = lacks.is in disk_memory name (sym is ∙ want))
      (λ (theirs : IsTheirs is_read may c.sources_before c.sources_after fault).
      let told = theirs.is in not_theirs theirs.told (sym is ∙ told) theirs.counted)
      of.fails)
      (λ (of : IsOfLog number bad c fault). let told = of.is in
      never_failed c.files_before c.files_after (Failed (failing (Disk name)))
      (subst (λ (f : ReadFault). HasCause c.files_before c.files_after (Failed (failing f))) (sym (sym is ∙ told)) of.counted)
      files tt)
      fails
