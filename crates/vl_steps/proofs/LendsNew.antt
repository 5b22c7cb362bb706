-- The two calls that make and lend a file.
use Rattle.std.proofs.Common.{◌≡◌, ◌≢◌, ◌⊎◌, inl, inr, ⊎_elim, ℕ, true, false, Option, None, Some, Result, Ok, Err}
use Rattle.std.proofs.Common.{IsErr, ◌∙◌, subst, sym, arith, refl}
use Rattle.std.specs.Option.{ForSome}
use Rattle.vl_back.specs.Writing.{IsKept, KeepsOthers}
use Rattle.vl_disk.specs.Calls.{Creates}
use Rattle.vl_disk.specs.Changes.{SameElsewhere, created_elsewhere, created_there, without_elsewhere}
use Rattle.vl_disk.specs.Crash.{WhileCreating, WhileRemoving}
use Rattle.vl_disk.specs.Disk.{IsChangedBy}
use Rattle.vl_disk.specs.DiskState.{DiskState, created, without}
use Rattle.vl_disk.specs.Faults.{HasCause, after_calls}
use Rattle.vl_disk.specs.Lending.{IsJustMade, Lends}
use Rattle.vl_disk.specs.Moments.{While, passes_then, passes_weaker}
use Rattle.vl_disk.specs.Performs.{GoesOnTelling}
use Rattle.vl_disk.specs.declared.name.Name.{Name}
use Rattle.vl_disk.specs.declared.watched.Watched.{Ghosts}
use Rattle.vl_steps.specs.Drawing.{LendsNew, WhileLent, lent_new}
use Rattle.vl_recover.specs.laws.crash.OneName.{elsewhere_then}

module _ (name : Name) where
  while_created : (told : Option DiskState) (now : DiskState) → While told (WhileCreating name) now → While told (WhileLent name) now
  while_created told now is disk there = inl (is disk there)

  while_lent : (told0 told1 : Option DiskState) (now : DiskState) → IsChangedBy (created name) told0 told1
      → While told1 (WhileRemoving name) now → While told0 (WhileLent name) now
  while_lent told0 told1 now creates is disk there =
      let after : told1 ≡ Some (created name disk) = cc in
      inr (is (created name disk) after)

  pub just_made : (told0 told1 : Option DiskState) → IsChangedBy (created name) told0 told1 → ForSome told1 (IsJustMade name)
  just_made None told1 creates disk is = absurd (let never : None ≡ Some disk = cc in cc)
  just_made (Some old) told1 creates disk is =
      let same : created name old ≡ disk = cc in
      subst (IsJustMade name) same (created_there name old)

  told_lent : (told0 told1 told2 : Option DiskState) → IsChangedBy (created name) told0 told1
      → IsChangedBy (without name) told1 told2 → IsChangedBy (lent_new name) told0 told2
  told_lent None told1 told2 a b = cc
  told_lent (Some disk) told1 told2 a b = cc

  untold_created : (told0 told1 : Option DiskState) → (told1 ≡ told0) ⊎ IsChangedBy (created name) told0 told1
      → told0 ≡ None → told1 ≡ None
  untold_created None told1 failed none = ⊎_elim (λ (same : told1 ≡ None). same) (λ (same : told1 ≡ None). same) failed
  untold_created (Some disk) told1 failed none = absurd (let never : Some disk ≡ None = none in cc)

  goes_on_created : (told0 told1 : Option DiskState) → (told1 ≡ told0) ⊎ IsChangedBy (created name) told0 told1
      → GoesOnTelling told0 told1
  goes_on_created told0 told1 failed disk there = ⊎_elim
      (λ (same : told1 ≡ told0). (disk, same ∙ there))
      (λ (made : IsChangedBy (created name) told0 told1).
      let after : told1 ≡ Some (created name disk) = cc in
      (created name disk, after))
      failed

  kept : (before now : DiskState) → SameElsewhere name before now → (other : Name) → other ≢ name → IsKept other before now
  kept before now same other apart = (
    (λ none. sym (same.standing other apart) ∙ none, λ none. same.standing other apart ∙ none),
    (λ none. sym (same.removed other apart) ∙ none, λ none. same.removed other apart ∙ none),
  )

  keeps_same : (told0 told1 : Option DiskState) → told1 ≡ told0 → KeepsOthers name told0 told1
  keeps_same told0 told1 same before now was is other apart =
      let one : before ≡ now = cc in
      subst (λ (d : DiskState). IsKept other before d) one
      (kept before before (record { standing = λ q no. refl; removed = λ q no. refl }) other apart)

  keeps_changed : (change : DiskState → DiskState) → ((disk : DiskState) → SameElsewhere name disk (change disk))
      → (told0 told1 : Option DiskState) → IsChangedBy change told0 told1 → KeepsOthers name told0 told1
  keeps_changed change same None told1 changed before now was is other apart = absurd (let never : None ≡ Some before = was in cc)
  keeps_changed change same (Some old) told1 changed before now was is other apart =
      let one : old ≡ before = cc in
      let then : change old ≡ now = cc in
      subst (λ (d : DiskState). IsKept other before d) then
      (subst (λ (d : DiskState). IsKept other d (change old)) one (kept old (change old) (same old) other apart))

  keeps_created : (told0 told1 : Option DiskState) → (told1 ≡ told0) ⊎ IsChangedBy (created name) told0 told1
      → KeepsOthers name told0 told1
  keeps_created told0 told1 failed = ⊎_elim (λ (same : told1 ≡ told0). keeps_same told0 told1 same)
      (λ (made : IsChangedBy (created name) told0 told1). keeps_changed (created name) (created_elsewhere name) told0 told1 made) failed

  keeps_lent : (told0 told1 : Option DiskState) → IsChangedBy (lent_new name) told0 told1 → KeepsOthers name told0 told1
  keeps_lent told0 told1 changed = keeps_changed (lent_new name)
      (λ disk. elsewhere_then name disk (created name disk) (lent_new name disk) (created_elsewhere name disk)
      (without_elsewhere name (created name disk)))
      told0 told1 changed

  -- the same is told as behind the first call
  keeps_told : (told0 told1 told2 : Option DiskState) → told2 ≡ told1 → KeepsOthers name told0 told1 → KeepsOthers name told0 told2
  keeps_told told0 told1 told2 same keeps = subst (KeepsOthers name told0) (sym same) keeps

false_true : false ≡ true → ⊥
false_true e = cc

module _ {D U X E : Type 0} (g : Ghosts D) (name : Name) (old one : D) where
  pub ends_at_create : (e : E) (result : Result X E) → IsErr result → Creates {T = U} g name old one (Err e)
      → LendsNew g name old one result
  ends_at_create e (Ok x) fails call = absurd (false_true fails)
  ends_at_create e (Err f) fails call = record {
    performs = record {
      done = tt;
      calls = tt;
      stops = (1, omega arith, omega arith, call.as_call.calls);
      tells = goes_on_created name (g.told old) (g.told one) call.failed;
      time = passes_weaker _ _ _ _ call.as_call.time (while_created name (g.told old));
      cause = call.as_call.cause;
    };
    adopt = tt;
    elsewhere = call.spare.elsewhere;
    files = keeps_created name (g.told old) (g.told one) call.failed;
    untold = untold_created name (g.told old) (g.told one) call.failed;
  }

  module _ (u : U) (creates : Creates {E = E} g name old one (Ok u)) (new : D) where
    pub ends_at_lend : (result : Result X E) → Lends g name one new (IsErr result) → LendsNew g name old new result
    ends_at_lend result call = by result call
      where
        cause_then : (a b c : ℕ) (P Q : Type 0) → HasCause a b P → (P → ⊥) → HasCause b c Q → HasCause a c Q
        cause_then a b c P Q first passed second = subst (λ n. HasCause n c Q) (first.steady passed) second

        counts : g.calls new ≡ g.calls one → g.calls new ≡ after_calls 1 (g.calls old)
        counts same = same ∙ creates.as_call.calls

        made : (g.told one ≡ g.told old) ⊎ IsChangedBy (created name) (g.told old) (g.told one)
        made = inr creates.created

        goes_on : g.told new ≡ g.told one → GoesOnTelling (g.told old) (g.told new)
        goes_on same disk there =
            let (now, is) = goes_on_created name (g.told old) (g.told one) made disk there in
            (now, same ∙ is)

        goes_on_lent : IsChangedBy (without name) (g.told one) (g.told new) → GoesOnTelling (g.told old) (g.told new)
        goes_on_lent changed disk there =
            let lent = told_lent name (g.told old) (g.told one) (g.told new) creates.created changed in
            (lent_new name disk, (let after : g.told new ≡ Some (lent_new name disk) = cc in after))

        untold_lent : IsChangedBy (without name) (g.told one) (g.told new) → g.told old ≡ None → g.told new ≡ None
        untold_lent changed none = let lent = told_lent name (g.told old) (g.told one) (g.told new) creates.created changed in cc

        by : (r : Result X E) → Lends g name one new (IsErr r) → LendsNew g name old new r
        by (Ok x) lends = record {
          performs = record {
            done = told_lent name (g.told old) (g.told one) (g.told new) creates.created (lends.lent false_true);
            calls = counts lends.calls;
            stops = tt;
            tells = goes_on_lent (lends.lent false_true);
            time = passes_then _ _ _ _ _ _ creates.as_call.time lends.time (while_created name (g.told old))
                (λ now. while_lent name (g.told old) (g.told one) now creates.created);
            cause = cause_then _ _ _ _ _ creates.as_call.cause false_true lends.cause;
          };
          adopt = (lends.spare false_true).adopt;
          elsewhere = λ other apart. (lends.spare false_true).elsewhere other apart ∙ creates.spare.elsewhere other apart;
          files = keeps_lent name (g.told old) (g.told new)
              (told_lent name (g.told old) (g.told one) (g.told new) creates.created (lends.lent false_true));
          untold = untold_lent (lends.lent false_true);
        }
        by (Err e) lends = record {
          performs = record {
            done = tt;
            calls = tt;
            stops = (1, omega arith, omega arith, counts lends.calls);
            tells = goes_on (lends.kept refl);
            time = passes_then _ _ _ _ _ _ creates.as_call.time lends.time (while_created name (g.told old))
                (λ now. while_lent name (g.told old) (g.told one) now creates.created);
            cause = cause_then _ _ _ _ _ creates.as_call.cause false_true lends.cause;
          };
          adopt = tt;
          elsewhere = λ other apart. (lends.spare_kept refl) other ∙ creates.spare.elsewhere other apart;
          files = keeps_told name (g.told old) (g.told one) (g.told new) (lends.kept refl)
              (keeps_created name (g.told old) (g.told one) made);
          untold = λ none. lends.kept refl ∙ untold_created name (g.told old) (g.told one) made none;
        }
