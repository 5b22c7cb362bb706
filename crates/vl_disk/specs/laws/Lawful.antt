-- Each call keeps a disk lawful.
use Rattle.std.specs.Prelude.{◌≡◌, ◌≢◌, ℕ, ◌≤◌, true, false, List, length, take, Option, None, Some, IsTrue}
use Rattle.std.specs.Option.{option_map}
use Rattle.std.specs.FinMap.{get, get-empty}
use Rattle.std.proofs.Common.{⊎_elim, refl, sym, ◌∙◌, subst, arith, length-append}
use Rattle.std.proofs.lemmas.List.{length-take}
use Rattle.std.proofs.lemmas.List.Elements.{All-nil, All-push}
use Rattle.vl_disk.specs.declared.name.Name.{Name}
use Rattle.vl_disk.specs.Name.{name_cmp, IsNumbered}
use Rattle.vl_disk.specs.laws.NameMap.{same_or_other, get_inserted, get_inserted_other, get_removed, get_removed_other}
use Rattle.vl_disk.specs.Crash.{last_file}
use Rattle.vl_disk.specs.Changes.{SameElsewhere, created_there, created_elsewhere, changed_there, changed_elsewhere}
use Rattle.vl_disk.specs.Changes.{unchanged, without_removed, without_elsewhere}
use Rattle.vl_disk.specs.Lending.{adopted}
use Rattle.vl_disk.specs.MadeFile.{made}
use Rattle.vl_disk.specs.DiskState.{Piece, File, DiskState, IsLawfulFile, IsLawful, empty_disk, new_file, settled}
use Rattle.vl_disk.specs.DiskState.{synced_file, lengthened, shortened, with_file, created, appended, synced, cut_to}
use Rattle.vl_disk.specs.DiskState.{without}

none_some : {X : Type 0} (x : X) → None ≡ Some x → ⊥
none_some x e = cc

false_true : false ≡ true → ⊥
false_true e = cc

some_same : {X : Type 0} (x y : X) → Some x ≡ Some y → x ≡ y
some_same x y e = cc

-- ---- files

pub new_file_lawful : IsLawfulFile new_file
new_file_lawful = record
    { within = omega arith; as_synced = λ whole. absurd (false_true whole); unsynced = All-nil (λ (piece : Piece). 0 ≤ piece.place) }

pub settled_lawful : (bytes : List ℕ) → IsLawfulFile (settled bytes)
settled_lawful bytes = record
    { within = omega arith; as_synced = λ whole. refl; unsynced = All-nil (λ (piece : Piece). length bytes ≤ piece.place) }

pub lengthened_lawful : (piece : List ℕ) (taken : ℕ) (file : File) → IsLawfulFile file → IsLawfulFile (lengthened piece taken file)
lengthened_lawful piece taken file lawful = record {
  within = omega (arith, lawful.within, length-append file.bytes (take taken piece));
  as_synced = λ whole. absurd (false_true whole);
  unsynced = All-push (λ (p : Piece). file.synced ≤ p.place) file.unsynced
      (record { place = length file.bytes; bytes = piece }) lawful.unsynced lawful.within;
}

pub shortened_lawful : (len left : ℕ) → len ≤ left → (file : File) → IsLawfulFile file → IsLawfulFile (shortened len left file)
shortened_lawful len left short file lawful = record {
  within = omega (arith, short, lawful.within, length-take left file.bytes);
  as_synced = λ whole. absurd (false_true whole);
  unsynced = λ k d within. omega (arith, lawful.unsynced k d within);
}

-- ---- disks

-- what is so of one name, by the file that stands there and the one that was removed there
abbrev IsLawfulAt : Name → Option File → Option File → Type 0
IsLawfulAt name (Some file) None = IsLawfulFile file × IsNumbered name
IsLawfulAt name None (Some file) = IsLawfulFile file × IsNumbered name
IsLawfulAt name None None = Unit {0}
IsLawfulAt name (Some file) (Some other) = ⊥

lawful_at : (disk : DiskState) → IsLawful disk → (name : Name) → IsLawfulAt name (get disk.standing name) (get disk.removed name)
lawful_at disk lawful name = of (get disk.standing name) (get disk.removed name) refl refl
  where
    of : (standing removed : Option File) → get disk.standing name ≡ standing → get disk.removed name ≡ removed
        → IsLawfulAt name standing removed
    of (Some file) None stands gone = (lawful.standing name file stands, lawful.numbered name file stands)
    of None (Some file) stands gone = (lawful.removed name file gone, lawful.removed_numbered name file gone)
    of None None stands gone = tt
    of (Some file) (Some other) stands gone = none_some other (sym (lawful.apart name file stands) ∙ gone)

lawful_by : (disk : DiskState) → ((name : Name) → IsLawfulAt name (get disk.standing name) (get disk.removed name)) → IsLawful disk
lawful_by disk each = record {
  standing = λ name file is. (stood name file is).0;
  removed = λ name file is. (gone name file is).0;
  apart = λ name file is. alone name file is (get disk.removed name)
      (subst (λ (o : Option File). IsLawfulAt name o (get disk.removed name)) is (each name));
  numbered = λ name file is. (stood name file is).1;
  removed_numbered = λ name file is. (gone name file is).1;
}
  where
    alone : (name : Name) (file : File) → get disk.standing name ≡ Some file → (removed : Option File)
        → IsLawfulAt name (Some file) removed → removed ≡ None
    alone name file is None at = refl
    alone name file is (Some other) at = absurd at

    stood : (name : Name) (file : File) → get disk.standing name ≡ Some file → IsLawfulFile file × IsNumbered name
    stood name file is = of (get disk.removed name) (subst (λ (o : Option File). IsLawfulAt name o (get disk.removed name)) is (each name))
      where
        of : (removed : Option File) → IsLawfulAt name (Some file) removed → IsLawfulFile file × IsNumbered name
        of None at = at
        of (Some other) at = absurd at

    gone : (name : Name) (file : File) → get disk.removed name ≡ Some file → IsLawfulFile file × IsNumbered name
    gone name file is = of (get disk.standing name) (subst (IsLawfulAt name (get disk.standing name)) is (each name))
      where
        of : (standing : Option File) → IsLawfulAt name standing (Some file) → IsLawfulFile file × IsNumbered name
        of None at = at
        of (Some other) at = absurd at

-- where the other names are as they were, this one decides
lawful_there : (name : Name) (old new : DiskState) → SameElsewhere name old new
    → IsLawfulAt name (get new.standing name) (get new.removed name) → IsLawful old → IsLawful new
lawful_there name old new elsewhere there lawful = lawful_by new (λ q. ⊎_elim
    (λ (same : q ≡ name). subst (λ (n : Name). IsLawfulAt n (get new.standing n) (get new.removed n)) (sym same) there)
    (λ (other : q ≢ name). by q (sym (elsewhere.standing q other)) (sym (elsewhere.removed q other)) (lawful_at old lawful q))
    (same_or_other q name))
  where
    by : (q : Name) {a b c d : Option File} → a ≡ b → c ≡ d → IsLawfulAt q a c → IsLawfulAt q b d
    by q {a} {b} {c} {d} stands gone at = subst (IsLawfulAt q b) gone (subst (λ (o : Option File). IsLawfulAt q o c) stands at)

pub empty_lawful : IsLawful empty_disk
empty_lawful = lawful_by empty_disk (λ name. subst (IsLawfulAt name (get empty_disk.standing name)) (sym (get-empty name_cmp name))
    (subst (λ (o : Option File). IsLawfulAt name o None) (sym (get-empty name_cmp name)) tt))

module _ (disk : DiskState) (lawful : IsLawful disk) (name : Name) where
  pub created_lawful : IsNumbered name → IsLawful (created name disk)
  created_lawful numbered = lawful_there name disk (created name disk) (created_elsewhere name disk)
      (subst (IsLawfulAt name (get (created name disk).standing name)) (sym (get_removed disk.removed name))
      (subst (λ (o : Option File). IsLawfulAt name o None) (sym (created_there name disk)) (new_file_lawful, numbered))) lawful

  pub made_lawful : (bytes : List ℕ) → IsNumbered name → IsLawful (made name bytes disk)
  made_lawful bytes numbered = lawful_there name disk (made name bytes disk)
      (record { standing = get_inserted_other disk.standing name (settled bytes); removed = get_removed_other disk.removed name })
      (subst (IsLawfulAt name (get (made name bytes disk).standing name)) (sym (get_removed disk.removed name))
      (subst (λ (o : Option File). IsLawfulAt name o None) (sym (get_inserted disk.standing name (settled bytes)))
      (settled_lawful bytes, numbered))) lawful

  pub adopted_lawful : (file : File) → IsLawfulFile file → IsNumbered name → IsLawful (adopted name file disk)
  adopted_lawful file whole numbered = lawful_there name disk (adopted name file disk)
      (record { standing = get_inserted_other disk.standing name file; removed = get_removed_other disk.removed name })
      (subst (IsLawfulAt name (get (adopted name file disk).standing name)) (sym (get_removed disk.removed name))
      (subst (λ (o : Option File). IsLawfulAt name o None) (sym (get_inserted disk.standing name file)) (whole, numbered))) lawful

  -- of a change that keeps a file lawful
  pub with_file_lawful : (change : File → File) → ((file : File) → IsLawfulFile file → IsLawfulFile (change file))
      → IsLawful (with_file name change disk)
  with_file_lawful change keeps = lawful_there name disk (with_file name change disk) (changed_elsewhere name disk change)
      (subst (λ (o : Option File). IsLawfulAt name o (get disk.removed name)) (sym (changed_there name disk change))
      (of (get disk.standing name) (get disk.removed name) (lawful_at disk lawful name))) lawful
    where
      of : (standing removed : Option File) → IsLawfulAt name standing removed → IsLawfulAt name (option_map change standing) removed
      of (Some file) None at = (keeps file at.0, at.1)
      of None (Some file) at = at
      of None None at = tt
      of (Some file) (Some other) at = absurd at

  pub appended_lawful : (piece : List ℕ) (taken : ℕ) → IsLawful (appended name piece taken disk)
  appended_lawful piece taken = with_file_lawful (lengthened piece taken) (lengthened_lawful piece taken)

  pub synced_lawful : IsLawful (synced name disk)
  synced_lawful = with_file_lawful synced_file (λ file _. settled_lawful file.bytes)

  pub cut_lawful : (len left : ℕ) → len ≤ left → IsLawful (cut_to name len left disk)
  cut_lawful len left short = with_file_lawful (shortened len left) (shortened_lawful len left short)

  pub without_lawful : IsLawful (without name disk)
  without_lawful = lawful_there name disk (without name disk) (without_elsewhere name disk)
      (subst (IsLawfulAt name (get (without name disk).standing name)) (sym (without_removed name disk))
      (subst (λ (o : Option File). IsLawfulAt name o (last_file (get disk.standing name) (get disk.removed name)))
      (sym (get_removed disk.standing name))
      (of (get disk.standing name) (get disk.removed name) (lawful_at disk lawful name)))) lawful
    where
      of : (standing removed : Option File) → IsLawfulAt name standing removed → IsLawfulAt name None (last_file standing removed)
      of (Some file) None at = at
      of None (Some file) at = at
      of None None at = tt
      of (Some file) (Some other) at = absurd at

-- a sync of a file that is wholly synced changes nothing
pub synced_again : (name : Name) (disk : DiskState) (file : File) → IsLawful disk → get disk.standing name ≡ Some file
    → IsTrue file.wholly_synced → synced name disk ≡ disk
synced_again name disk file lawful stands whole = unchanged name disk synced_file file stands
    (sym ((lawful.standing name file stands).as_synced whole))
