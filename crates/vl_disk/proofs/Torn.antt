-- What an image has under one name may be changed for what may be left there.
use Rattle.std.proofs.Common.{◌≡◌, ◌≢◌, ⊎_elim, ℕ, ◌≤◌, ◌++◌, true, false, min, List, length, take, Option, None}
use Rattle.std.proofs.Common.{Some, refl, sym, ◌∙◌, ap, subst, arith}
use Rattle.std.specs.Option.{option_map}
use Rattle.std.specs.FinMap.{get, insert, remove}
use Rattle.std.proofs.lemmas.List.{take_at, take-take, take-append-le, length-take-le}
use Rattle.vl_disk.specs.declared.name.Name.{Name}
use Rattle.vl_disk.specs.laws.NameMap.{same_or_other, get_inserted, get_inserted_other, get_removed, get_removed_other}
use Rattle.vl_disk.specs.DiskState.{File, DiskState, IsLawful, synced_file, lengthened, shortened, with_file, created}
use Rattle.vl_disk.specs.DiskState.{appended, synced, cut_to, without}
use Rattle.vl_disk.specs.Changes.{created_there, changed_there, without_removed}
use Rattle.vl_disk.specs.Crash.{Image, Agrees, last_file, MayLeaveOne, MayLeave}

false_true : false ≡ true → ⊥
false_true e = cc

true_false : true ≡ false → ⊥
true_false e = cc

module _ (disk : DiskState) (image : Image) (may : MayLeave disk image) (name : Name) where
  pub with_bytes : (bytes : List ℕ) → MayLeaveOne (get disk.standing name) (get disk.removed name) (Some bytes)
      → MayLeave disk (insert image name bytes)
  with_bytes bytes one q = ⊎_elim
      (λ (same : q ≡ name). subst
      (λ (n : Name). MayLeaveOne (get disk.standing n) (get disk.removed n) (get (insert image name bytes) n)) (sym same)
      (subst (MayLeaveOne (get disk.standing name) (get disk.removed name)) (sym (get_inserted image name bytes)) one))
      (λ (other : q ≢ name). subst (MayLeaveOne (get disk.standing q) (get disk.removed q))
      (sym (get_inserted_other image name bytes q other)) (may q))
      (same_or_other q name)

  pub with_none : MayLeaveOne (get disk.standing name) (get disk.removed name) None → MayLeave disk (remove image name)
  with_none one q = ⊎_elim
      (λ (same : q ≡ name). subst
      (λ (n : Name). MayLeaveOne (get disk.standing n) (get disk.removed n) (get (remove image name) n)) (sym same)
      (subst (MayLeaveOne (get disk.standing name) (get disk.removed name)) (sym (get_removed image name)) one))
      (λ (other : q ≢ name). subst (MayLeaveOne (get disk.standing q) (get disk.removed q))
      (sym (get_removed_other image name q other)) (may q))
      (same_or_other q name)

pub created_missing : (name : Name) (disk : DiskState) (image : Image) → MayLeave (created name disk) image
    → MayLeave (created name disk) (remove image name)
created_missing name disk image may =
    with_none (created name disk) image may name
    (subst (λ (o : Option File). MayLeaveOne o (get (created name disk).removed name) None) (sym (created_there name disk)) refl)

module _ (name : Name) (disk : DiskState) (image : Image) where
  -- a changed file with what it may be left with
  changed_left : (change : File → File) (file : File) → get disk.standing name ≡ Some file → (bytes : List ℕ) → Agrees (change file) bytes
      → MayLeave (with_file name change disk) image → MayLeave (with_file name change disk) (insert image name bytes)
  changed_left change file stands bytes agrees may = with_bytes (with_file name change disk) image may name bytes
      (subst (λ (o : Option File). MayLeaveOne o (get disk.removed name) (Some bytes))
      (sym (changed_there name disk change ∙ ap (option_map change) stands)) agrees)

  pub appended_torn : (file : File) (piece tail : List ℕ) (taken : ℕ) → IsLawful disk → get disk.standing name ≡ Some file
      → MayLeave (appended name piece taken disk) image
      → MayLeave (appended name piece taken disk) (insert image name (take file.synced file.bytes ++ tail))
  appended_torn file piece tail taken lawful stands =
      let within : file.synced ≤ length file.bytes = (lawful.standing name file stands).within in
      changed_left (lengthened piece taken) file stands (take file.synced file.bytes ++ tail)
      (record {
        durable = take_at (take file.synced file.bytes) tail file.synced (length-take-le file.synced file.bytes within)
            ∙ sym (take-append-le file.synced file.bytes (take taken piece) within);
        whole = λ whole. absurd (false_true whole);
      })

  pub cut_back : (file : File) (len left : ℕ) → len ≤ left → get disk.standing name ≡ Some file
      → MayLeave (cut_to name len left disk) image → MayLeave (cut_to name len left disk) (insert image name file.bytes)
  cut_back file len left short stands = changed_left (shortened len left) file stands file.bytes
      (record {
        durable = sym (take-take (min len file.synced) left file.bytes (omega (arith, short)));
        whole = λ whole. absurd (false_true whole);
      })

  -- what was removed is left as it may be
  gone_left : (file : File) → get disk.standing name ≡ Some file → (left : Option (List ℕ)) → MayLeaveOne None (Some file) left
      → MayLeaveOne (get (without name disk).standing name) (get (without name disk).removed name) left
  gone_left file stands left one =
      subst (λ (o : Option File). MayLeaveOne o (get (without name disk).removed name) left) (sym (get_removed disk.standing name))
      (subst (λ (o : Option File). MayLeaveOne None o left)
      (sym (without_removed name disk ∙ ap (λ (o : Option File). last_file o (get disk.removed name)) stands)) one)

  pub removed_again : (file : File) → get disk.standing name ≡ Some file → MayLeave (without name disk) image
      → MayLeave (without name disk) (insert image name file.bytes)
  removed_again file stands may = with_bytes (without name disk) image may name file.bytes
      (gone_left file stands (Some file.bytes) (record { durable = refl; whole = λ _. refl }))

  pub removed_away : MayLeave (without name disk) image → MayLeave (without name disk) (remove image name)
  removed_away may = with_none (without name disk) image may name
      (subst (λ (o : Option File). MayLeaveOne o (get (without name disk).removed name) None)
      (sym (get_removed disk.standing name)) (of (get (without name disk).removed name)))
    where
      of : (removed : Option File) → MayLeaveOne None removed None
      of None = tt
      of (Some file) = tt

  pub synced_stays : (file : File) → get disk.standing name ≡ Some file → MayLeave (synced name disk) image
      → get image name ≡ Some file.bytes
  synced_stays file stands may = of (get image name)
      (subst (λ (o : Option File). MayLeaveOne o (get disk.removed name) (get image name))
      (changed_there name disk synced_file ∙ ap (option_map synced_file) stands) (may name))
    where
      of : (left : Option (List ℕ)) → MayLeaveOne (Some (synced_file file)) (get disk.removed name) left → left ≡ Some file.bytes
      of None one = absurd (true_false one)
      of (Some bytes) one = ap Some (one.whole refl)
