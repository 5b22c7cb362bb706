-- A disk that was just started from what stood on it, and what it leaves.
use Rattle.std.specs.Prelude.{◌≡◌, ◌≢◌, ℕ, true, false, List, Option, None, Some}
use Rattle.std.specs.Option.{option_map}
use Rattle.std.specs.FinMap.{get, empty, insert, remove, get-empty, same_map}
use Rattle.std.proofs.Common.{⊎_elim, refl, sym, ◌∙◌, ap, subst}
use Rattle.vl_disk.specs.declared.name.Name.{Name}
use Rattle.vl_disk.specs.Name.{IsNumbered, name_cmp, name_cmp_total, name_cmp_exact}
use Rattle.vl_disk.specs.laws.NameMap.{same_or_other, get_inserted, get_inserted_other, get_removed, get_removed_other}
use Rattle.vl_disk.specs.DiskState.{File, DiskState, IsLawfulFile, IsLawful, empty_disk, settled}
use Rattle.vl_disk.specs.MadeFile.{made}
use Rattle.vl_disk.specs.Crash.{Image, MayLeaveOne, MayLeave}
use Rattle.vl_disk.specs.laws.Lawful.{settled_lawful}

-- the image of what reads give
pub record IsRead (image : Image) (disk : DiskState) : Type 0 where
  pub each : (name : Name) → get image name ≡ option_map (λ file. file.bytes) (get disk.standing name)

-- It is the disk that was just started from this image: each file stands, whole and durable, and none was removed.
pub record Started (image : Image) (disk : DiskState) : Type 0 where
  pub standing : (name : Name) → get disk.standing name ≡ option_map settled (get image name)
  pub removed : (name : Name) → get disk.removed name ≡ None

-- the number of each file of an image is one that a file's name may have
abbrev pub AreNumbered : Image → Type 0
AreNumbered image = (name : Name) (bytes : List ℕ) → get image name ≡ Some bytes → IsNumbered name

-- a crash may leave what reads give
pub read_left : (image : Image) (disk : DiskState) → IsRead image disk → MayLeave disk image
read_left image disk read name = subst (MayLeaveOne (get disk.standing name) (get disk.removed name))
    (sym (read.each name)) (of (get disk.standing name) (get disk.removed name))
  where
    of : (standing removed : Option File) → MayLeaveOne standing removed (option_map (λ (file : File). file.bytes) standing)
    of (Some file) removed = record { durable = refl; whole = λ _. refl }
    of None (Some file) = tt
    of None None = tt

none_some : {X : Type 0} (x : X) → None ≡ Some x → ⊥
none_some x e = cc

module _ (image : Image) (disk : DiskState) (started : Started image disk) where
  pub started_read : IsRead image disk
  started_read = record { each = λ name. of name (get image name) refl }
    where
      of : (name : Name) (left : Option (List ℕ)) → get image name ≡ left
          → get image name ≡ option_map (λ (file : File). file.bytes) (get disk.standing name)
      of name None is = is ∙ sym (ap (option_map (λ (file : File). file.bytes)) (started.standing name ∙ ap (option_map settled) is))
      of name (Some bytes) is = is
          ∙ sym (ap (option_map (λ (file : File). file.bytes)) (started.standing name ∙ ap (option_map settled) is))

  -- it leaves this image,
  pub started_leaves : MayLeave disk image
  started_leaves = read_left image disk started_read

  -- and no other
  pub started_left : (left : Image) → MayLeave disk left → left ≡ image
  started_left left may = same_map name_cmp_total name_cmp_exact left image (λ name. of (get image name) (get left name)
      (subst (λ (o : Option File). MayLeaveOne o None (get left name)) (started.standing name)
      (subst (λ (o : Option File). MayLeaveOne (get disk.standing name) o (get left name)) (started.removed name) (may name))))
    where
      lasts : true ≡ false → ⊥
      lasts e = cc

      of : (there found : Option (List ℕ)) → MayLeaveOne (option_map settled there) None found → found ≡ there
      of None None one = refl
      of None (Some bytes) one = absurd one
      of (Some bytes) None one = absurd (lasts one)
      of (Some bytes) (Some found) one = ap Some (one.whole refl)

  pub started_lawful : AreNumbered image → IsLawful disk
  started_lawful numbered = record {
    standing = λ name file is. lawful (get image name) file (sym (started.standing name) ∙ is);
    removed = λ name file is. absurd (none_some file (sym (started.removed name) ∙ is));
    apart = λ name file is. started.removed name;
    numbered = λ name file is. named name file is (get image name) refl;
    removed_numbered = λ name file is. absurd (none_some file (sym (started.removed name) ∙ is));
  }
    where
      some_same : (x y : File) → Some x ≡ Some y → x ≡ y
      some_same x y e = cc

      lawful : (there : Option (List ℕ)) (file : File) → option_map settled there ≡ Some file → IsLawfulFile file
      lawful None file is = absurd (none_some file is)
      lawful (Some bytes) file is = subst IsLawfulFile (some_same (settled bytes) file is) (settled_lawful bytes)

      named : (name : Name) (file : File) → get disk.standing name ≡ Some file → (there : Option (List ℕ))
          → get image name ≡ there → IsNumbered name
      named name file is None none = absurd (none_some file (sym (started.standing name ∙ ap (option_map settled) none) ∙ is))
      named name file is (Some bytes) there = numbered name bytes there

-- the disk on which nothing ever stood was started from nothing
pub started_empty : Started empty empty_disk
started_empty = record {
  standing = λ name. get-empty name_cmp name
      ∙ sym (ap (option_map settled) (get-empty name_cmp name));
  removed = get-empty name_cmp;
}

-- and with one file more it is as if it had been started with it
pub started_made : (image : Image) (disk : DiskState) (name : Name) (bytes : List ℕ) → Started image disk
    → Started (insert image name bytes) (made name bytes disk)
started_made image disk name bytes started = record {
  standing = λ q. ⊎_elim
      (λ (same : q ≡ name). ap (get (insert disk.standing name (settled bytes))) same ∙ get_inserted disk.standing name (settled bytes)
      ∙ sym (ap (option_map settled) (ap (get (insert image name bytes)) same ∙ get_inserted image name bytes)))
      (λ (other : q ≢ name). get_inserted_other disk.standing name (settled bytes) q other ∙ started.standing q
      ∙ sym (ap (option_map settled) (get_inserted_other image name bytes q other)))
      (same_or_other q name);
  removed = λ q. ⊎_elim
      (λ (same : q ≡ name). ap (get (remove disk.removed name)) same ∙ get_removed disk.removed name)
      (λ (other : q ≢ name). get_removed_other disk.removed name q other ∙ started.removed q)
      (same_or_other q name);
}
