-- Up to which number the files of a disk go, by what is done to it.
use Rattle.std.proofs.Common.{◌≡◌, ◌≢◌, ⊎_elim, ℕ, ◌≤◌, List, [], ◌∷◌, Option, None, Some, refl, sym, ◌∙◌, ap, subst}
use Rattle.std.specs.Option.{option_map}
use Rattle.std.specs.FinMap.{get, remove}
use Rattle.vl_disk.specs.Changes.{changed_elsewhere, changed_there, without_elsewhere, without_removed}
use Rattle.vl_disk.specs.Crash.{last_file}
use Rattle.vl_disk.specs.DiskState.{DiskState, File, cut_to, settled, with_file, without}
use Rattle.vl_disk.specs.MadeFile.{made}
use Rattle.vl_disk.specs.Name.{file_number}
use Rattle.vl_disk.specs.laws.NameMap.{get_inserted_other, get_removed, get_removed_other, same_or_other}
use Rattle.vl_disk.specs.declared.name.Name.{Name}
use Rattle.vl_disk.specs.declared.name.Name.TheVariants.{Log, Manifest}
use Rattle.vl_recover.specs.repairing.Repairing.{Cut, Headed, Kept, LastLog, NoLast, Plan, Rewritten, behind_last}
use Rattle.vl_recover.specs.repairing.Repairing.{behind_log, behind_strays, headed, repaired, with_last, with_log}
use Rattle.vl_recover.specs.repairing.Repairing.{with_manifest}
use Rattle.vl_script_model.specs.Stopped.{AreNumberedUpTo}

module _ (n : ℕ) where
  -- a file is changed
  pub changed_numbered : (name : Name) (change : File → File) (disk : DiskState) → AreNumberedUpTo n disk
      → AreNumberedUpTo n (with_file name change disk)
  changed_numbered name change disk numbered = record {
    standing = λ other there. numbered.standing other (λ none. there (⊎_elim
        (λ (same : other ≡ name). ap (get (with_file name change disk).standing) same ∙ changed_there name disk change
        ∙ ap (option_map change) (ap (get disk.standing) (sym same) ∙ none))
        (λ (apart : other ≢ name). (changed_elsewhere name disk change).standing other apart ∙ none)
        (same_or_other other name)));
    removed = numbered.removed;
  }

  -- one is made
  pub made_numbered : (name : Name) (bytes : List ℕ) (disk : DiskState) → file_number name ≤ n → AreNumberedUpTo n disk
      → AreNumberedUpTo n (made name bytes disk)
  made_numbered name bytes disk within numbered = record {
    standing = λ other there. ⊎_elim
        (λ (same : other ≡ name). subst (λ (m : Name). file_number m ≤ n) (sym same) within)
        (λ (apart : other ≢ name). numbered.standing other
        (λ none. there (get_inserted_other disk.standing name (settled bytes) other apart ∙ none)))
        (same_or_other other name);
    removed = λ other there. numbered.removed other (λ none. there (⊎_elim
        (λ (same : other ≡ name). ap (get (remove disk.removed name)) same ∙ get_removed disk.removed name)
        (λ (apart : other ≢ name). get_removed_other disk.removed name other apart ∙ none)
        (same_or_other other name)));
  }

  -- one is removed
  pub without_numbered : (name : Name) (disk : DiskState) → AreNumberedUpTo n disk → AreNumberedUpTo n (without name disk)
  without_numbered name disk numbered = record {
    standing = λ other there. numbered.standing other (λ none. there (⊎_elim
        (λ (same : other ≡ name). ap (get (remove disk.standing name)) same ∙ get_removed disk.standing name)
        (λ (apart : other ≢ name). get_removed_other disk.standing name other apart ∙ none)
        (same_or_other other name)));
    removed = λ other there. ⊎_elim
        (λ (same : other ≡ name). subst (λ (m : Name). file_number m ≤ n) (sym same)
        (of (get disk.standing name) refl (λ none. there (ap (get (without name disk).removed) same ∙ without_removed name disk ∙ none))))
        (λ (apart : other ≢ name). numbered.removed other (λ none. there ((without_elsewhere name disk).removed other apart ∙ none)))
        (same_or_other other name);
  }
    where
      some_none : (file : File) → Some file ≡ None → ⊥
      some_none file e = cc

      of : (o : Option File) → get disk.standing name ≡ o → last_file o (get disk.removed name) ≢ None → file_number name ≤ n
      of None is some = numbered.removed name some
      of (Some file) is some = numbered.standing name (λ none. some_none file (sym is ∙ none))

  -- ---- a store is repaired

  abbrev pub IsLogUpTo : Option ℕ → Type 0
  IsLogUpTo None = Unit {0}
  IsLogUpTo (Some log) = log ≤ n

  last_numbered : (last : LastLog) (disk : DiskState) → AreNumberedUpTo n disk → AreNumberedUpTo n (behind_last last disk)
  last_numbered NoLast disk numbered = numbered
  last_numbered (Kept log) disk numbered = changed_numbered (Log log) _ disk numbered
  last_numbered (Cut log len) disk numbered = changed_numbered (Log log) _ (cut_to (Log log) len len disk)
      (changed_numbered (Log log) _ disk numbered)
  last_numbered (Rewritten log) disk numbered =
      changed_numbered (Log log) _ (headed log (cut_to (Log log) 0 0 disk))
      (changed_numbered (Log log) _ (cut_to (Log log) 0 0 disk) (changed_numbered (Log log) _ disk numbered))
  last_numbered (Headed log) disk numbered = changed_numbered (Log log) _ (headed log disk) (changed_numbered (Log log) _ disk numbered)

  log_numbered : (log : Option ℕ) (disk : DiskState) → IsLogUpTo log → AreNumberedUpTo n disk → AreNumberedUpTo n (behind_log log disk)
  log_numbered None disk within numbered = numbered
  log_numbered (Some log) disk within numbered = made_numbered (Log log) _ disk within numbered

  strays_numbered : (names : List Name) (disk : DiskState) → AreNumberedUpTo n disk → AreNumberedUpTo n (behind_strays names disk)
  strays_numbered [] disk numbered = numbered
  strays_numbered (name ∷ names) disk numbered = strays_numbered names (without name disk) (without_numbered name disk numbered)

  pub repaired_numbered : (plan : Plan) (disk : DiskState) → plan.manifest ≤ n → IsLogUpTo plan.log
      → AreNumberedUpTo n disk → AreNumberedUpTo n (repaired plan disk)
  repaired_numbered plan disk manifest log numbered =
      strays_numbered plan.strays (with_log plan disk)
      (log_numbered plan.log (with_last plan disk) log
      (last_numbered plan.last (with_manifest plan disk)
      (made_numbered (Manifest plan.manifest) plan.piece disk manifest numbered)))
