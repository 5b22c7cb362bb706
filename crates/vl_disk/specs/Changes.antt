-- What stands under each name after a call.
use Rattle.std.specs.Prelude.{◌≡◌, ◌≢◌, Option, None, Some}
use Rattle.std.specs.Option.{option_map}
use Rattle.std.specs.FinMap.{get, insert}
use Rattle.std.proofs.Common.{refl, sym, ◌∙◌, ap}
use Rattle.vl_disk.specs.declared.name.Name.{Name}
use Rattle.vl_disk.specs.laws.NameMap.{get_inserted, get_inserted_other, get_removed_other, inserted_again}
use Rattle.vl_disk.specs.DiskState.{File, Files, DiskState, new_file, placed, with_file, created, without}
use Rattle.vl_disk.specs.Crash.{last_file}

-- the same stands, and was removed, under the other names
pub record SameElsewhere (name : Name) (old new : DiskState) : Type 0 where
  pub standing : (other : Name) → other ≢ name → get new.standing other ≡ get old.standing other
  pub removed : (other : Name) → other ≢ name → get new.removed other ≡ get old.removed other

module _ (name : Name) (files : Files) where
  pub placed_there : (file : Option File) → get (placed name file files) name ≡ last_file file (get files name)
  placed_there None = refl
  placed_there (Some file) = get_inserted files name file

  pub placed_elsewhere : (file : Option File) (other : Name) → other ≢ name → get (placed name file files) other ≡ get files other
  placed_elsewhere None other apart = refl
  placed_elsewhere (Some file) other apart = get_inserted_other files name file other apart

module _ (name : Name) (disk : DiskState) where
  pub created_there : get (created name disk).standing name ≡ Some new_file
  created_there = get_inserted disk.standing name new_file

  pub created_elsewhere : SameElsewhere name disk (created name disk)
  created_elsewhere = record { standing = get_inserted_other disk.standing name new_file; removed = get_removed_other disk.removed name }

  pub without_removed : get (without name disk).removed name ≡ last_file (get disk.standing name) (get disk.removed name)
  without_removed = placed_there name disk.removed (get disk.standing name)

  pub without_elsewhere : SameElsewhere name disk (without name disk)
  without_elsewhere = record
      { standing = get_removed_other disk.standing name; removed = placed_elsewhere name disk.removed (get disk.standing name) }

  module _ (change : File → File) where
    pub changed_there : get (with_file name change disk).standing name ≡ option_map change (get disk.standing name)
    changed_there = of (get disk.standing name) refl
      where
        of : (file : Option File) → get disk.standing name ≡ file
            → get (placed name (option_map change file) disk.standing) name ≡ option_map change file
        of None is = is
        of (Some file) is = get_inserted disk.standing name (change file)

    pub changed_files : (file : File) → get disk.standing name ≡ Some file
        → (with_file name change disk).standing ≡ insert disk.standing name (change file)
    changed_files file stands = ap (λ (o : Option File). placed name (option_map change o) disk.standing) stands

    pub changed_elsewhere : SameElsewhere name disk (with_file name change disk)
    changed_elsewhere = record
        { standing = placed_elsewhere name disk.standing (option_map change (get disk.standing name)); removed = λ other apart. refl }

    -- a change that leaves the file as it is leaves the disk as it is
    pub unchanged : (file : File) → get disk.standing name ≡ Some file → change file ≡ file → with_file name change disk ≡ disk
    unchanged file stands same =
        ap (λ (files : Files). record disk { standing = files })
        (changed_files file stands ∙ inserted_again disk.standing name (change file) (stands ∙ ap Some (sym same)))
