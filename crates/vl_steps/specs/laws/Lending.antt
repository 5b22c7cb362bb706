-- What is lent to the open merge stays so where a step leaves it, and what each step on files leaves.
use Rattle.std.specs.Prelude.{◌≡◌, ◌≢◌, ◌<◌, ◌≤◌, ℕ, List, length, Option, None, Some, Result, Ok, Err, IsTrue, refl}
use Rattle.std.specs.List.{slice_index_or}
use Rattle.std.specs.Option.{ForSome}
use Rattle.std.proofs.Common.{ap, arith, subst, sym, ◌∙◌}
use Rattle.vl_back.specs.Room.{SameSpareBeside}
use Rattle.vl_back.specs.Writing.{KeepsOthers}
use Rattle.vl_disk.specs.Calls.{Appends, Syncs}
use Rattle.vl_disk.specs.Changes.{changed_elsewhere}
use Rattle.vl_disk.specs.Disk.{IsChangedBy, IsFree}
use Rattle.vl_disk.specs.DiskState.{DiskState, File, appended, lengthened, synced, synced_file, with_file}
use Rattle.vl_disk.specs.Spare.{SameSpareElsewhere, Spare}
use Rattle.vl_disk.specs.declared.name.Name.TheVariants.{Log, Manifest, Table}
use Rattle.vl_disk.specs.declared.name.Name.{Name}
use Rattle.vl_disk.specs.declared.watched.Watched.{Ghosts}
use Rattle.vl_engine_laws.specs.Lent.{AreLent, LeavesLent, LeavesTables}
use Rattle.vl_engine_laws.specs.declared.open.OpenMerge.{OpenMerge}
use Rattle.vl_manifest.specs.Switching.{Switches, switched}

-- ---- the files that are lent

-- They stay so behind a step that leaves them, also where it gave a number.
pub still_lent : {D : Type 0} (g : Ghosts D) (old new : D) (before after : ℕ) (merging : Option OpenMerge) → before ≤ after
    → LeavesLent g before old new → AreLent g old before merging → AreLent g new after merging
still_lent g old new before after merging up leaves lent o is k d within =
    let was = lent o is k d within in
    record {
      drawn = let drawn = was.drawn in omega (arith, drawn, up);
      room = subst IsTrue (sym (leaves.room (slice_index_or o.lent.items k d) was.drawn)) was.room;
      free = leaves.free (slice_index_or o.lent.items k d) was.drawn was.free;
    }

-- ---- names

-- no table has this name
abbrev pub IsNoTable : Name → Type 0
IsNoTable name = (n : ℕ) → Table n ≢ name

pub no_log : (number : ℕ) → IsNoTable (Log number)
no_log number n same = cc

pub no_manifest : (number : ℕ) → IsNoTable (Manifest number)
no_manifest number n same = cc

other_table : (next n : ℕ) → n < next → Table n ≢ Table next
other_table next n less same = let is : n ≡ next = cc in omega (arith, less, is)

-- ---- what is told

-- what didn't stand doesn't where the same is told,
free_told : (name : Name) (old new : Option DiskState) → new ≡ old → ForSome old (IsFree name) → ForSome new (IsFree name)
free_told name old new same free disk is = free disk (sym same ∙ is)

-- where a change doesn't make it stand,
free_changed : (name : Name) (change : DiskState → DiskState) (old new : Option DiskState)
    → ((disk : DiskState) → IsFree name disk → IsFree name (change disk)) → IsChangedBy change old new
    → ForSome old (IsFree name) → ForSome new (IsFree name)
free_changed name change None new keeps changed free now is = absurd (never (sym changed ∙ is))
  where
    never : None ≡ Some now → ⊥
    never e = cc
free_changed name change (Some disk) new keeps changed free now is =
    subst (IsFree name) (same (change disk) now (sym changed ∙ is)) (keeps disk (free disk refl))
  where
    same : (a b : DiskState) → Some a ≡ Some b → a ≡ b
    same a b e = cc

-- as the change of a file that is no table,
free_beside : (name : Name) (change : File → File) → IsNoTable name → (n : ℕ) (disk : DiskState) → IsFree (Table n) disk
    → IsFree (Table n) (with_file name change disk)
free_beside name change none n disk free = (changed_elsewhere name disk change).standing (Table n) (none n) ∙ free

-- and where the files but another one are kept.
free_kept : (name other : Name) (old new : Option DiskState) → other ≢ name → KeepsOthers name old new → (old ≡ None → new ≡ None)
    → ForSome old (IsFree other) → ForSome new (IsFree other)
free_kept name other None new apart keeps untold free now is = absurd (never (sym (untold refl) ∙ is))
  where
    never : None ≡ Some now → ⊥
    never e = cc
free_kept name other (Some disk) new apart keeps untold free now is =
    (keeps disk now refl is other apart).0.1 (free disk refl)

-- ---- steps

module _ {D : Type 0} (g : Ghosts D) where
  pub leaves_itself : (disk : D) → LeavesTables g disk disk
  leaves_itself disk next = record { room = λ n drawn. refl; free = λ n drawn free. free }

  -- one step behind the other
  pub leaves_then : (next : ℕ) (a b c : D) → LeavesLent g next a b → LeavesLent g next b c → LeavesLent g next a c
  leaves_then next a b c first second = record {
    room = λ n drawn. second.room n drawn ∙ first.room n drawn;
    free = λ n drawn free. second.free n drawn (first.free n drawn free);
  }

  module _ (old new : D) where
    same_room : (name other : Name) → SameSpareElsewhere name (g.spare old) (g.spare new) → other ≢ name
        → (g.spare new other).adopt ≡ (g.spare old other).adopt
    same_room name other elsewhere apart = ap (λ (s : Spare). s.adopt) (elsewhere other apart)

    -- room was made or used for a file that is no table, or it was held
    pub leaves_told : (name : Name) → IsNoTable name → g.told new ≡ g.told old
        → SameSpareElsewhere name (g.spare old) (g.spare new) → LeavesTables g old new
    leaves_told name none told elsewhere next = record {
      room = λ n drawn. same_room name (Table n) elsewhere (none n);
      free = λ n drawn free. free_told (Table n) (g.told old) (g.told new) told free;
    }

    -- it was changed
    leaves_changed : (name : Name) (change : DiskState → DiskState) → IsNoTable name
        → ((n : ℕ) (disk : DiskState) → IsFree (Table n) disk → IsFree (Table n) (change disk))
        → IsChangedBy change (g.told old) (g.told new) → SameSpareElsewhere name (g.spare old) (g.spare new)
        → LeavesTables g old new
    leaves_changed name change none keeps changed elsewhere next = record {
      room = λ n drawn. same_room name (Table n) elsewhere (none n);
      free = λ n drawn free. free_changed (Table n) change (g.told old) (g.told new) (keeps n) changed free;
    }

    -- so many bytes of a piece were appended to it
    leaves_part : (name : Name) (piece : List ℕ) (taken : ℕ) → IsNoTable name
        → IsChangedBy (appended name piece taken) (g.told old) (g.told new)
        → SameSpareElsewhere name (g.spare old) (g.spare new) → LeavesTables g old new
    leaves_part name piece taken none changed elsewhere =
        leaves_changed name (appended name piece taken) none (free_beside name (lengthened piece taken) none) changed elsewhere

    pub leaves_append : {T E : Type 0} (name : Name) (piece : List ℕ) → IsNoTable name → (result : Result T E)
        → Appends g name piece old new result → LeavesTables g old new
    leaves_append name piece none (Ok x) appends =
        leaves_part name piece (length piece) none appends.appended appends.spare.elsewhere
    leaves_append name piece none (Err e) appends =
        let (taken, within, changed) = appends.failed in
        leaves_part name piece taken none changed appends.spare.elsewhere

    pub leaves_sync : {T E : Type 0} (name : Name) → IsNoTable name → (result : Result T E)
        → Syncs g name old new result → LeavesTables g old new
    leaves_sync name none (Ok x) syncs =
        leaves_changed name (synced name) none (free_beside name synced_file none) syncs.synced
        (λ other apart. syncs.spare other)
    leaves_sync name none (Err e) syncs = leaves_told name none syncs.failed (λ other apart. syncs.spare other)

    -- the manifest with this number took a frame, or a part of one
    pub leaves_switch : {T E : Type 0} (number : ℕ) (piece : List ℕ) → (result : Result T E)
        → Switches g number piece old new result → LeavesTables g old new
    leaves_switch number piece (Ok x) switches =
        leaves_changed (Manifest number) (switched number piece) (no_manifest number)
        (λ n disk free.
        free_beside (Manifest number) synced_file (no_manifest number) n
        (appended (Manifest number) piece (length piece) disk)
        (free_beside (Manifest number) (lengthened piece (length piece)) (no_manifest number) n disk free))
        switches.performs.done switches.spare.elsewhere
    leaves_switch number piece (Err e) switches =
        let (taken, within, changed) = switches.failed in
        leaves_part (Manifest number) piece taken (no_manifest number) changed switches.spare.elsewhere

    -- the log with this number was made, or in part
    pub leaves_made : (number : ℕ) → KeepsOthers (Log number) (g.told old) (g.told new) → (g.told old ≡ None → g.told new ≡ None)
        → SameSpareElsewhere (Log number) (g.spare old) (g.spare new) → LeavesTables g old new
    leaves_made number keeps untold elsewhere next = record {
      room = λ n drawn. same_room (Log number) (Table n) elsewhere (no_log number n);
      free = λ n drawn free. free_kept (Log number) (Table n) (g.told old) (g.told new) (no_log number n) keeps untold free;
    }

    -- room was made for the next table, and for the manifest that is to name it
    beside_tables : (manifest next n : ℕ) → n < next
        → SameSpareBeside (Manifest manifest) (Table next) (g.spare old) (g.spare new)
        → (g.spare new (Table n)).adopt ≡ (g.spare old (Table n)).adopt
    beside_tables manifest next n less beside =
        ap (λ (s : Spare). s.adopt) (beside (Table n) (no_manifest manifest n) (other_table next n less))

    pub leaves_staged : (manifest next : ℕ) → g.told new ≡ g.told old
        → SameSpareBeside (Manifest manifest) (Table next) (g.spare old) (g.spare new) → LeavesLent g next old new
    leaves_staged manifest next told beside = record {
      room = λ n drawn. beside_tables manifest next n drawn beside;
      free = λ n drawn free. free_told (Table n) (g.told old) (g.told new) told free;
    }

    -- it was made, or in part
    pub leaves_written : (manifest next : ℕ) → KeepsOthers (Table next) (g.told old) (g.told new)
        → (g.told old ≡ None → g.told new ≡ None)
        → SameSpareBeside (Manifest manifest) (Table next) (g.spare old) (g.spare new) → LeavesLent g next old new
    leaves_written manifest next keeps untold beside = record {
      room = λ n drawn. beside_tables manifest next n drawn beside;
      free = λ n drawn free.
          free_kept (Table next) (Table n) (g.told old) (g.told new) (other_table next n drawn) keeps untold free;
    }
