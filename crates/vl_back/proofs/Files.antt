-- Which files stand behind a run, and at which file it failed.
use Rattle.std.proofs.Common.{◌≡◌, ◌≢◌, ⊎_elim, ℕ, ◌≤◌, List, length, refl, sym, ap, subst, ◌∙◌, arith}
use Rattle.std.specs.Prelude.{Option, None, Some, Result}
use Rattle.std.specs.Option.{option_map}
use Rattle.std.specs.FinMap.{get}
use Rattle.vl_back.specs.Writing.{IsKept, KeepsOthers, WhileWriting}
use Rattle.vl_disk.specs.Changes.{SameElsewhere, changed_elsewhere, changed_there, created_elsewhere}
use Rattle.vl_disk.specs.DiskState.{DiskState, File, appended, created, lengthened, settled, synced_file, with_file}
use Rattle.vl_disk.specs.MadeFile.{WhileMaking, durable, empty, in_part, made, not_there}
use Rattle.vl_disk.specs.Performs.{Performs}
use Rattle.vl_disk.specs.declared.name.Name.{Name}
use Rattle.vl_disk.specs.declared.name.Name.TheVariants.{Manifest, Table}
use Rattle.vl_disk.specs.declared.watched.Watched.{Ghosts}
use Rattle.vl_disk.specs.laws.NameMap.{get_inserted_other, get_removed_other, same_or_other}
use Rattle.vl_manifest.specs.Switching.{WhileSwitching, switched}

-- ---- one change

-- what stands there is as it was
same_kept : (other : Name) (old new : DiskState) → get new.standing other ≡ get old.standing other
    → get new.removed other ≡ get old.removed other → IsKept other old new
same_kept other old new stands gone =
    ((λ none. sym stands ∙ none, λ none. stands ∙ none), (λ none. sym gone ∙ none, λ none. gone ∙ none))

kept_here : (other : Name) (disk : DiskState) → IsKept other disk disk
kept_here other disk = same_kept other disk disk refl refl

kept_then : (other : Name) (old mid new : DiskState) → IsKept other old mid → IsKept other mid new → IsKept other old new
kept_then other old mid new first second = (
  (λ none. first.0.0 (second.0.0 none), λ none. second.0.1 (first.0.1 none)),
  (λ none. first.1.0 (second.1.0 none), λ none. second.1.1 (first.1.1 none)),
)

elsewhere_kept : (name : Name) (old new : DiskState) → SameElsewhere name old new → (other : Name) → other ≢ name → IsKept other old new
elsewhere_kept name old new same other apart = same_kept other old new (same.standing other apart) (same.removed other apart)

-- a file that is changed stands as before, and so do all others
changed_kept : (name : Name) (change : File → File) (disk : DiskState) (other : Name) → IsKept other disk (with_file name change disk)
changed_kept name change disk other = ⊎_elim
    (λ (same : other ≡ name). subst (λ (n : Name). IsKept n disk (with_file name change disk)) (sym same) (
      (
        λ none. was (get disk.standing name) (sym (changed_there name disk change) ∙ none),
        λ none. changed_there name disk change ∙ ap (option_map change) none,
      ),
      (λ none. none, λ none. none),
    ))
    (λ (apart : other ≢ name). elsewhere_kept name disk (with_file name change disk) (changed_elsewhere name disk change) other apart)
    (same_or_other other name)
  where
    was : (file : Option File) → option_map change file ≡ None → file ≡ None
    was None is = refl
    was (Some file) is = absurd (some_none (change file) is)
      where
        some_none : (f : File) → Some f ≡ None → ⊥
        some_none f e = cc

made_kept : (name : Name) (bytes : List ℕ) (disk : DiskState) (other : Name) → other ≢ name → IsKept other disk (made name bytes disk)
made_kept name bytes disk other apart = same_kept other disk (made name bytes disk)
    (get_inserted_other disk.standing name (settled bytes) other apart) (get_removed_other disk.removed name other apart)

-- ---- while a run is under way

back : (other : Name) (disk : DiskState) {now then : DiskState} → now ≡ then → IsKept other disk then → IsKept other disk now
back other disk is kept = subst (IsKept other disk) (sym is) kept

pub making_keeps : (name : Name) (bytes : List ℕ) (disk now : DiskState) → WhileMaking name bytes disk now
    → (other : Name) → other ≢ name → IsKept other disk now
making_keeps name bytes disk now (not_there is) other apart = back other disk is (kept_here other disk)
making_keeps name bytes disk now (empty is) other apart =
    back other disk is (elsewhere_kept name disk (created name disk) (created_elsewhere name disk) other apart)
making_keeps name bytes disk now (in_part taken within is) other apart =
    back other disk is (kept_then other disk (created name disk) (appended name bytes taken (created name disk))
    (elsewhere_kept name disk (created name disk) (created_elsewhere name disk) other apart)
    (changed_kept name (lengthened bytes taken) (created name disk) other))
making_keeps name bytes disk now (durable is) other apart = back other disk is (made_kept name bytes disk other apart)

switching_keeps : (number : ℕ) (piece : List ℕ) (disk now : DiskState) → WhileSwitching number piece disk now
    → (other : Name) → IsKept other disk now
switching_keeps number piece disk now meanwhile other = ⊎_elim
    (λ appending. ⊎_elim
    (λ same. back other disk same (kept_here other disk))
    (λ part. back other disk part.2 (handed part.0))
    appending)
    (λ syncing. ⊎_elim
    (λ same. back other disk same (handed (length piece)))
    (λ same. back other disk same (kept_then other disk (appended (Manifest number) piece (length piece) disk) (switched number piece disk)
    (handed (length piece)) (changed_kept (Manifest number) synced_file (appended (Manifest number) piece (length piece) disk) other)))
    syncing)
    meanwhile
  where
    handed : (taken : ℕ) → IsKept other disk (appended (Manifest number) piece taken disk)
    handed taken = changed_kept (Manifest number) (lengthened piece taken) disk other

pub writing_keeps : (table : ℕ) (bytes : List ℕ) (manifest : ℕ) (frame : List ℕ) (disk now : DiskState)
    → WhileWriting table bytes manifest frame disk now → (other : Name) → other ≢ Table table → IsKept other disk now
writing_keeps table bytes manifest frame disk now meanwhile other apart = ⊎_elim
    (λ (making : WhileMaking (Table table) bytes disk now). making_keeps (Table table) bytes disk now making other apart)
    (λ (switching : WhileSwitching manifest frame (made (Table table) bytes disk) now).
    kept_then other disk (made (Table table) bytes disk) now (made_kept (Table table) bytes disk other apart)
    (switching_keeps manifest frame (made (Table table) bytes disk) now switching other))
    meanwhile

-- ---- at a run's end

-- So it is at the end of a run, also where it failed: the disk is as it was, or as it may be meanwhile.
pub run_keeps : {D T E : Type 0} (g : Ghosts D)
    → ((disk : D) (state : DiskState) (t : ℕ) → g.told disk ≡ Some state → t ≤ g.moment disk → g.states_since disk t state)
    → ((disk : D) (state other : DiskState) → g.told disk ≡ Some state → g.states_since disk (g.moment disk) other → other ≡ state)
    → (name : Name) (after : DiskState → DiskState) (during : DiskState → DiskState → Type 0)
    (count : ℕ) (old new : D) (result : Result T E)
    → ((disk now : DiskState) → during disk now → (other : Name) → other ≢ name → IsKept other disk now)
    → Performs g after during count old new result → KeepsOthers name (g.told old) (g.told new)
run_keeps g counts_now only_now name after during count old new result keeps run before now told told_now other apart = ⊎_elim
    (λ (was : g.states_since old (g.moment old) now). back other before (only_now old before now told was) (kept_here other before))
    (λ meanwhile. keeps before now (meanwhile before told) other apart)
    (run.time.nothing_else (g.moment old) now (omega arith)
    (counts_now new now (g.moment old) told_now run.time.later))
