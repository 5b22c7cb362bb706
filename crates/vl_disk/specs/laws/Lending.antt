-- Laws of files that are lent and adopted.
use Rattle.std.specs.Prelude.{◌≡◌, true, false, ℕ, List, ◌++◌, length, take, Option, None, Some}
use Rattle.std.specs.Option.{ForSome, option_map}
use Rattle.std.specs.FinMap.{get, remove}
use Rattle.std.proofs.Common.{refl, sym, ◌∙◌, ap, subst, arith}
use Rattle.std.proofs.lemmas.List.{take_all}
use Rattle.vl_disk.specs.declared.name.Name.{Name}
use Rattle.vl_disk.specs.laws.NameMap.{get_inserted, get_removed}
use Rattle.vl_disk.specs.laws.Standing.{holds_after}
use Rattle.vl_disk.specs.Changes.{without_removed}
use Rattle.vl_disk.specs.Crash.{Image, MayLeave, MayLeaveOne, last_file}
use Rattle.vl_disk.specs.Disk.{IsChangedBy}
use Rattle.vl_disk.specs.DiskState.{DiskState, File, created, lengthened, new_file, settled, synced_file, without}
use Rattle.vl_disk.specs.Lending.{IsJustMade, Settles, TakesAll, adopted}

same_state : (a b : DiskState) → Some a ≡ Some b → a ≡ b
same_state a b e = cc

-- ---- what a crash leaves

-- whatever the image has there, it may be left of a file that was removed before its first sync
never_synced : (left : Option (List ℕ)) → MayLeaveOne None (Some new_file) left
never_synced None = tt
never_synced (Some bytes) = record { durable = refl; whole = λ is. absurd (let no : false ≡ true = is in cc) }

-- of a lent file a crash leaves anything, or nothing
pub lent_left : (name : Name) (disk : DiskState) → IsJustMade name disk → (left : Option (List ℕ))
    → MayLeaveOne (get (without name disk).standing name) (get (without name disk).removed name) left
lent_left name disk made left =
    subst (λ (standing : Option File). MayLeaveOne standing (get (without name disk).removed name) left)
    (sym (get_removed disk.standing name))
    (subst (λ (removed : Option File). MayLeaveOne None removed left)
    (sym (without_removed name disk ∙ ap (λ (o : Option File). last_file o (get disk.removed name)) made)) (never_synced left))

-- one that was adopted as it was synced stays
pub adopted_stays : (name : Name) (disk : DiskState) (bytes : List ℕ) (image : Image)
    → MayLeave (adopted name (settled bytes) disk) image → get image name ≡ Some bytes
adopted_stays name disk bytes image left =
    of (get image name) (subst (λ (o : Option File). MayLeaveOne o (get (remove disk.removed name) name) (get image name))
    (get_inserted disk.standing name (settled bytes)) (left name))
  where
    of : (o : Option (List ℕ)) → MayLeaveOne (Some (settled bytes)) (get (remove disk.removed name) name) o → o ≡ Some bytes
    of None may = absurd (let no : true ≡ false = may in cc)
    of (Some found) may = ap Some (may.whole refl)

-- ---- for a caller that asks the next call

pub created_just_made : (name : Name) (old new : Option DiskState) → IsChangedBy (created name) old new → ForSome new (IsJustMade name)
created_just_made name old new changed = holds_after (created name) old new (λ _. Unit {0}) (IsJustMade name) changed
    (λ disk _. get_inserted disk.standing name new_file) (λ _ _. tt)

-- the file of a writer to which two pieces were handed, and which was synced then
pub written_file : (first second : List ℕ) (f0 f1 f2 f3 : Option File) → f0 ≡ Some new_file → TakesAll first f0 f1
    → TakesAll second f1 f2 → Settles f2 f3 → f3 ≡ Some (settled (first ++ second))
written_file first second f0 f1 f2 f3 new one two settles =
    settles ∙ ap (option_map synced_file)
    (two ∙ ap (option_map (lengthened second (length second))) (one ∙ ap (option_map (lengthened first (length first))) new))
    ∙ ap (λ (bytes : List ℕ). Some (settled (bytes ++ take (length second) second))) (take_all (length first) first (omega arith))
    ∙ ap (λ (bytes : List ℕ). Some (settled (first ++ bytes))) (take_all (length second) second (omega arith))
