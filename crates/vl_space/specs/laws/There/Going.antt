-- What a removal of a retired file leaves of the disk, also where it fails; and that what the engine keeps is so behind it.
use Rattle.std.specs.Prelude.{◌≡◌, ◌≢◌, ℕ, Bool}
use Rattle.std.specs.Prelude.{Option, None, Some, Result, Ok, Err, is_some, true, false, refl}
use Rattle.std.specs.Option.{ForSome, option_map}
use Rattle.std.proofs.Common.{sym, subst, ap, ◌∙◌, ⊎_elim}
use Rattle.vl_compact.specs.declared.files.Lent.{Lent}
use Rattle.vl_engine_laws.specs.Carries.{StaysUntold}
use Rattle.vl_disk.specs.Calls.{Removes}
use Rattle.vl_disk.specs.Changes.{SameElsewhere, without_elsewhere}
use Rattle.vl_disk.specs.Disk.{IsChangedBy}
use Rattle.vl_disk.specs.DiskState.{DiskState, File, without}
use Rattle.vl_disk.specs.Lending.{Adopts}
use Rattle.vl_disk.specs.declared.errors.Failed.{Failed}
use Rattle.vl_disk.specs.declared.name.Name.{Name}
use Rattle.vl_disk.specs.declared.name.Name.TheVariants.{Table}
use Rattle.vl_disk.specs.declared.watched.Watched.{Ghosts}
use Rattle.vl_disk.specs.declared.writer.Writer.{Ghosts as Writers}
use Rattle.vl_disk.specs.laws.NameMap.{get_inserted_other, get_removed_other}
use Rattle.vl_space.specs.laws.There.Kept.{told_before}
use Rattle.vl_space.specs.laws.There.Taking.{told_taken}
use Rattle.vl_space.specs.Sweeping.{RemovesOne, TakesIfLent}
use Rattle.vl_pins.specs.declared.retired_file.RetiredFile.{RetiredFile}
use Rattle.vl_recover.specs.laws.crash.OneName.{elsewhere_then}
use Rattle.vl_engine_laws.specs.laws.KeptLaws.{nothing_elsewhere}

-- beside this name the same files stand, and were removed
abbrev pub StandBeside : Name → (old new : Option DiskState) → Type 0
StandBeside name old new = (before now : DiskState) → old ≡ Some before → new ≡ Some now → SameElsewhere name before now

-- What a removal of a file leaves of the disk. Where it was lent, its own room to be taken back may be used up.
pub record Goes {D : Type 0} (g : Ghosts D) (lent : Bool) (name : Name) (old new : D) : Type 0 where
  pub untold : StaysUntold (g.told old) (g.told new)
  pub beside : StandBeside name (g.told old) (g.told new)
  pub room : (n : ℕ) → (lent ≡ true → Table n ≢ name) → (g.spare new (Table n)).adopt ≡ (g.spare old (Table n)).adopt

some_is : (a b : DiskState) → Some a ≡ Some b → a ≡ b
some_is a b e = cc

same_beside : (name : Name) (old new : Option DiskState) → new ≡ old → StandBeside name old new
same_beside name old new same before now was is =
    subst (SameElsewhere name before) (some_is before now (sym was ∙ sym same ∙ is)) (nothing_elsewhere name before)

without_beside : (name : Name) (old new : Option DiskState) → IsChangedBy (without name) old new → StandBeside name old new
without_beside name old new changed before now was is =
    subst (SameElsewhere name before) (some_is (without name before) now (sym (ap (option_map (without name)) was) ∙ sym changed ∙ is))
    (without_elsewhere name before)

untold_same : (old new : Option DiskState) → new ≡ old → StaysUntold old new
untold_same old new same none = same ∙ none

untold_changed : (change : DiskState → DiskState) (old new : Option DiskState) → IsChangedBy change old new → StaysUntold old new
untold_changed change old new changed none = changed ∙ ap (option_map change) none

module _ {D W : Type 0} (g : Ghosts D) (w : Writers W) where
  -- a removal, whatever it answers
  removes_goes : {T : Type 0} (lent : Bool) (name : Name) (old new : D) (result : Result T Failed) → Removes g name old new result
      → Goes g lent name old new
  removes_goes {T} lent name old new result removes = by result removes
    where
      by : (r : Result T Failed) → Removes g name old new r → Goes g lent name old new
      by (Ok done) is = record {
        untold = untold_changed (without name) (g.told old) (g.told new) is.removed;
        beside = without_beside name (g.told old) (g.told new) is.removed;
        room = λ n apart. ap (λ (sp : _). sp.adopt) (is.spare (Table n));
      }
      by (Err why) is = record {
        untold = ⊎_elim (untold_same (g.told old) (g.told new)) (untold_changed (without name) (g.told old) (g.told new)) is.failed;
        beside = ⊎_elim (same_beside name (g.told old) (g.told new)) (without_beside name (g.told old) (g.told new)) is.failed;
        room = λ n apart. ap (λ (sp : _). sp.adopt) (is.spare (Table n));
      }

  adopts_goes : (name : Name) (file : Option File) (old mid : D) → Adopts g name file old mid
      → ForSome (g.told old) (λ _. is_some file ≡ true) → Goes g true name old mid
  adopts_goes name file old mid adopts tells = record {
    untold = adopts.untold;
    beside = λ before now was is. let taken = told_taken g name file old mid adopts tells now is in
        subst (λ (d : DiskState). SameElsewhere name d now) (some_is taken.before before (sym taken.was ∙ was))
        (subst (SameElsewhere name taken.before) (sym taken.is) (record {
          standing = get_inserted_other taken.before.standing name taken.taken;
          removed = get_removed_other taken.before.removed name;
        }));
    room = λ n apart. ap (λ (sp : _). sp.adopt) (adopts.spare.elsewhere (Table n) (apart refl));
  }

  goes_then : (lent : Bool) (name : Name) (old mid new : D) → Goes g lent name old mid → Goes g lent name mid new
      → Goes g lent name old new
  goes_then lent name old mid new first second = record {
    untold = λ none. second.untold (first.untold none);
    beside = λ before now was is. let between = told_before (g.told mid) (g.told new) now second.untold is in
        elsewhere_then name before between.0 now (first.beside before between.0 was between.1) (second.beside between.0 now between.1 is);
    room = λ n apart. second.room n apart ∙ first.room n apart;
  }

  -- a retired file goes, or the disk fails at that
  pub one_goes : {s : _} (file : RetiredFile (Lent W s)) (old new : D) (result : Result (Unit {0}) Failed)
      → ForSome file.lent (λ lent. ForSome (g.told old) (λ _. is_some (w.file lent.writer) ≡ true))
      → RemovesOne g w file old new result → Goes g (is_some file.lent) file.name old new
  one_goes {s} file old new result tells removes = by file.lent refl removes.takes
    where
      by : (lent : Option (Lent W s)) → file.lent ≡ lent → TakesIfLent g w lent file.name old removes.mid
          → Goes g (is_some lent) file.name old new
      by None none takes = subst (λ (d : D). Goes g false file.name d new) takes
          (removes_goes false file.name removes.mid new result removes.removes)
      by (Some lent) some takes = goes_then true file.name old removes.mid new
          (adopts_goes file.name (w.file lent.writer) old removes.mid takes (tells lent some))
          (removes_goes true file.name removes.mid new result removes.removes)
