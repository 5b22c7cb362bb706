-- A file that is written beside the disk, and another one that is made meanwhile.
use Rattle.std.proofs.Common.{◌≡◌, ◌≢◌, true, false, List, ℕ, Option, None, Some, sym, ◌∙◌, ap, subst, refl}
use Rattle.std.specs.Option.{ForSome, option_map}
use Rattle.vl_disk.specs.declared.name.Name.{Name}
use Rattle.vl_disk.specs.laws.NameMap.{get_inserted, get_inserted_other, get_removed, get_removed_other}
use Rattle.vl_disk.specs.laws.Standing.{holds_after}
use Rattle.vl_disk.specs.Beside.{HasBoth}
use Rattle.vl_disk.specs.Disk.{IsChangedBy, IsFree}
use Rattle.vl_disk.specs.DiskState.{DiskState, created, new_file, settled, without}
use Rattle.vl_disk.specs.Lending.{adopted}
use Rattle.vl_disk.specs.MadeFile.{made}

some_state : (a b : DiskState) → Some a ≡ Some b → a ≡ b
some_state a b e = cc

pub not_failed : false ≡ true → ⊥
not_failed e = cc

module _ (name other : Name) (apart : other ≢ name) where
  -- the other name stays free while the file is made and lent
  other_free : (disk : DiskState) → IsFree other disk → IsFree other (without name (created name disk))
  other_free disk free = get_removed_other (created name disk).standing name other apart
      ∙ get_inserted_other disk.standing name new_file other apart ∙ free

  pub other_stays_free : (old mid new : Option DiskState) → IsChangedBy (created name) old mid → IsChangedBy (without name) mid new
      → ForSome old (IsFree other) → ForSome new (IsFree other)
  other_stays_free old mid new makes lends = holds_after (λ disk. without name (created name disk)) old new (IsFree other) (IsFree other)
      (lends ∙ ap (option_map (without name)) makes ∙ twice old) other_free
    where
      twice : (o : Option DiskState) → option_map (without name) (option_map (created name) o) ≡ option_map
          (λ disk. without name (created name disk)) o
      twice None = refl
      twice (Some disk) = refl

  module _ (bytes others : List ℕ) where
    -- the lent name stays free while another file is made
    pub lent_stays_free : (old mid new : Option DiskState) → IsChangedBy (without name) old mid → IsChangedBy (made other others) mid new
        → ForSome new (IsFree name)
    lent_stays_free old mid new lends makes = holds_after (made other others) mid new (IsFree name) (IsFree name) makes
        (λ disk free. get_inserted_other disk.standing other (settled others) name (λ e. apart (sym e)) ∙ free)
        (holds_after (without name) old mid (λ _. Unit {0}) (IsFree name) lends (λ disk _. get_removed disk.standing name) (λ _ _. tt))

    pub both_stand : (disk last : DiskState) (lent : Option DiskState) (held new : Option DiskState)
        → IsChangedBy (made other others) lent held
        → lent ≡ Some disk → ((now : DiskState) → held ≡ Some now → new ≡ Some (adopted name (settled bytes) now)) → new ≡ Some last
        → HasBoth name bytes other others last
    both_stand disk last lent held new makes is adopts here =
        let now : held ≡ Some (made other others disk) = makes ∙ ap (option_map (made other others)) is in
        subst (HasBoth name bytes other others)
        (some_state (adopted name (settled bytes) (made other others disk)) last
        (sym (adopts (made other others disk) now) ∙ here)) (record {
          one = get_inserted (made other others disk).standing name (settled bytes);
          two = get_inserted_other (made other others disk).standing name (settled bytes) other apart
              ∙ get_inserted disk.standing other (settled others);
        })
