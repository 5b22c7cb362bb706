-- Which names stand and which are free after a call, for a caller that asks the next one.
use Rattle.std.specs.Prelude.{◌≡◌, refl, Option, None, Some, IsSome}
use Rattle.std.specs.Option.{ForSome, option_map}
use Rattle.std.specs.FinMap.{get}
use Rattle.std.proofs.Common.{sym, ◌∙◌, subst}
use Rattle.vl_disk.specs.declared.name.Name.{Name}
use Rattle.vl_disk.specs.laws.NameMap.{get_removed}
use Rattle.vl_disk.specs.DiskState.{File, DiskState, with_file, created, without}
use Rattle.vl_disk.specs.Changes.{created_there, changed_there}
use Rattle.vl_disk.specs.Disk.{Stands, IsFree, IsChangedBy}

some_state : (a b : DiskState) → Some a ≡ Some b → a ≡ b
some_state a b e = cc

none_some : {X : Type 0} (x : X) → None ≡ Some x → ⊥
none_some x e = cc

-- what holds after a call, by what held before it
pub holds_after : (change : DiskState → DiskState) (old new : Option DiskState) (P Q : DiskState → Type 0)
    → IsChangedBy change old new → ((disk : DiskState) → P disk → Q (change disk)) → ForSome old P → ForSome new Q
holds_after change None new P Q changed keeps holds disk is = absurd (none_some disk (sym changed ∙ is))
holds_after change (Some old) new P Q changed keeps holds disk is = subst Q
    (some_state (change old) disk (sym changed ∙ is)) (keeps old (holds old refl))

-- a file that is changed stands
pub changed_stands : (name : Name) (change : File → File) (old new : Option DiskState)
    → IsChangedBy (with_file name change) old new → ForSome old (Stands name) → ForSome new (Stands name)
changed_stands name change old new changed = holds_after (with_file name change) old new (Stands name) (Stands name) changed
    (λ disk stands. subst IsSome (sym (changed_there name disk change)) (of (get disk.standing name) stands))
  where
    of : (file : Option File) → IsSome file → IsSome (option_map change file)
    of None is = is
    of (Some file) is = refl

pub created_stands : (name : Name) (old new : Option DiskState) → IsChangedBy (created name) old new → ForSome new (Stands name)
created_stands name old new changed = holds_after (created name) old new (λ _. Unit {0}) (Stands name) changed
    (λ disk _. subst IsSome (sym (created_there name disk)) refl) (λ _ _. tt)

pub removed_free : (name : Name) (old new : Option DiskState) → IsChangedBy (without name) old new → ForSome new (IsFree name)
removed_free name old new changed = holds_after (without name) old new (λ _. Unit {0}) (IsFree name) changed
    (λ disk _. get_removed disk.standing name) (λ _ _. tt)
