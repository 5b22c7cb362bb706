-- A file that was lent is taken back, so that it stands.
use Rattle.std.specs.Prelude.{◌≡◌, IsSome, Option, None, Some, is_some, refl}
use Rattle.std.specs.Option.{ForSome}
use Rattle.std.proofs.Common.{sym, subst, ap, ◌∙◌}
use Rattle.vl_disk.specs.Disk.{Stands}
use Rattle.vl_disk.specs.DiskState.{DiskState, File}
use Rattle.vl_disk.specs.Lending.{Adopts, adopted}
use Rattle.vl_disk.specs.declared.name.Name.{Name}
use Rattle.vl_disk.specs.declared.watched.Watched.{Ghosts}
use Rattle.vl_disk.specs.laws.NameMap.{get_inserted}
use Rattle.vl_space.specs.laws.There.Kept.{stands_not_free, told_before}

some_is : (a b : DiskState) → Some a ≡ Some b → a ≡ b
some_is a b e = cc

-- what is told then is what was told, with the file
pub record IsTaken (name : Name) (file : Option File) (old new : Option DiskState) (now : DiskState) : Type 0 where
  pub before : DiskState
  pub was : old ≡ Some before
  pub taken : File
  pub has : file ≡ Some taken
  pub is : now ≡ adopted name taken before

module _ {D : Type 0} (g : Ghosts D) (name : Name) (file : Option File) (old new : D) (adopts : Adopts g name file old new)
    (tells : ForSome (g.told old) (λ _. IsSome file)) where
  pub told_taken : (now : DiskState) → g.told new ≡ Some now → IsTaken name file (g.told old) (g.told new) now
  told_taken now told = let was = told_before (g.told old) (g.told new) now adopts.untold told in by was.0 was.1 file refl
    where
      by : (before : DiskState) → g.told old ≡ Some before → (o : Option File) → file ≡ o
          → IsTaken name file (g.told old) (g.told new) now
      by before was None none = absurd (stands_not_free file (tells before was) none)
      by before was (Some f) some = record {
        before = before;
        was = was;
        taken = f;
        has = some;
        is = some_is now (adopted name f before) (sym told ∙ adopts.adopted before was f some);
      }

  pub taken_stands : ForSome (g.told new) (Stands name)
  taken_stands now told = let is = told_taken now told in
      subst (Stands name) (sym is.is) (ap is_some (get_inserted is.before.standing name is.taken))
