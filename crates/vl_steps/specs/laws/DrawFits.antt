-- What an engine's next calls ask of its disk, and of the files that are lent, is so behind the making of a merge's next table.
use Rattle.std.specs.Prelude.{◌≡◌, ◌≢◌, ◌≤◌, ◌<◌, ℕ, ◌+◌, ◌==◌, ◌||◌, true, false, All, List, [], ◌∷◌, ◌++◌, Option}
use Rattle.std.specs.Prelude.{None, Some, Result, Ok, Err, OnOk, Vec, is_some, refl}
use Rattle.std.specs.Global.{Global}
use Rattle.std.specs.Option.{ForSome}
use Rattle.std.proofs.Common.{ap, arith, subst, sym, ◌∙◌}
use Rattle.std.proofs.lemmas.Bool.Decides.{nat_tests}
use Rattle.std.proofs.lemmas.List.Elements.{All-append, All-cons, All-nil, All-tail}
use Rattle.vl_back.specs.Writing.{KeepsOthers}
use Rattle.vl_disk.specs.Changes.{SameElsewhere, created_elsewhere, without_elsewhere}
use Rattle.vl_disk.specs.Disk.{IsChangedBy, IsFree, Stands}
use Rattle.vl_disk.specs.DiskState.{DiskState, created}
use Rattle.vl_disk.specs.Spare.{SameSpareElsewhere}
use Rattle.vl_disk.specs.declared.name.Name.TheVariants as names
use Rattle.vl_disk.specs.declared.name.Name.{Name}
use Rattle.vl_disk.specs.declared.watched.Watched.{Ghosts}
use Rattle.vl_disk.specs.laws.NameMap.{get_removed}
use Rattle.vl_engine_laws.specs.laws.FlushKeeps.{stands_kept}
use Rattle.vl_steps.specs.laws.Lending.{leaves_staged, leaves_written, still_lent}
use Rattle.vl_steps.specs.Drawing.{IsLentMore, IsNewTo, IsSameMerge, LendsNew, drawn_core, lent_new}
use Rattle.vl_engine_laws.specs.Fit.{IsFitFor}
use Rattle.vl_engine_laws.specs.Lent.{AreLent, IsLent, LeavesLent}
use Rattle.vl_engine_laws.specs.declared.kept.Core.{Core}
use Rattle.vl_engine_laws.specs.declared.open.OpenMerge.{OpenMerge}
use Rattle.vl_model.specs.Numbers.{has}
use Rattle.vl_recover.specs.laws.crash.OneName.{elsewhere_then}

-- ---- room

same_items : {X : Type 0} (a b : Vec X Global) → a ≡ b → a.items ≡ b.items
same_items {X} a b same = ap (λ (v : Vec X Global). v.items) same

pub same_merge : (was : Option OpenMerge) (merge next : OpenMerge) → was ≡ Some merge → next.lent.items ≡ merge.lent.items
    → next.moved ≡ merge.moved → IsSameMerge was (Some next)
same_merge was merge next is lent moved = record {
  merge = merge;
  was_open = is;
  next = next;
  is_open = refl;
  lent = lent;
  moved = same_items next.moved merge.moved moved;
}

pub on_ok_always : {T E : Type 0} {P : Type 0} (r : Result T E) → P → OnOk r P
on_ok_always (Ok x) p = p
on_ok_always (Err e) p = tt

-- ---- what is lent

module _ {D : Type 0} (g : Ghosts D) where
  module _ (old new : D) (next : ℕ) (elsewhere : SameSpareElsewhere (names.Table next) (g.spare old) (g.spare new)) where
    -- room was made for the next table,
    pub leaves_ready : g.told new ≡ g.told old → LeavesLent g next old new
    leaves_ready told = leaves_staged g old new 0 next told (λ other a b. elsewhere other b)

    -- and it was made and lent, or in part
    pub leaves_lending : KeepsOthers (names.Table next) (g.told old) (g.told new) → (g.told old ≡ None → g.told new ≡ None)
        → LeavesLent g next old new
    leaves_lending keeps untold = leaves_written g old new 0 next keeps untold (λ other a b. elsewhere other b)

  module _ (disk : D) (next : ℕ) (was now : Option OpenMerge) where
    same_one : (a b : OpenMerge) → Some a ≡ Some b → a ≡ b
    same_one a b e = cc

    pub lent_same : IsSameMerge was now → AreLent g disk next was → AreLent g disk next now
    lent_same same lent o is =
        let at = same_one same.next o (sym same.is_open ∙ is) in
        subst (All (IsLent g disk next)) (sym (ap (λ (x : OpenMerge). x.lent.items) (sym at) ∙ same.lent))
        (lent same.merge same.was_open)

    -- a file more is lent
    pub lent_more : (number : ℕ) → IsLentMore was now number → IsLent g disk next number → AreLent g disk next was
        → AreLent g disk next now
    lent_more number more one lent o is =
        let at = same_one more.next o (sym more.is_open ∙ is) in
        subst (All (IsLent g disk next)) (sym (ap (λ (x : OpenMerge). x.lent.items) (sym at) ∙ more.lent))
        (All-append (IsLent g disk next) more.merge.lent.items (number ∷ []) (lent more.merge more.was_open)
        (All-cons (IsLent g disk next) number [] one (All-nil (IsLent g disk next))))

-- One step that leaves the open merge, and one that lends it a file: they lend it a file.
pub more_then : (was mid now : Option OpenMerge) (number : ℕ) → IsSameMerge was mid → IsLentMore mid now number
    → IsLentMore was now number
more_then was mid now number same more =
    let at = same_merge_of same.next more.merge (sym same.is_open ∙ more.was_open) in
    record {
      merge = same.merge;
      was_open = same.was_open;
      next = more.next;
      is_open = more.is_open;
      lent = more.lent ∙ ap (λ (x : OpenMerge). x.lent.items ++ number ∷ []) (sym at)
          ∙ ap (λ (ns : List ℕ). ns ++ number ∷ []) same.lent;
      moved = more.moved ∙ ap (λ (x : OpenMerge). x.moved.items) (sym at) ∙ same.moved;
    }
  where
    same_merge_of : (a b : OpenMerge) → Some a ≡ Some b → a ≡ b
    same_merge_of a b e = cc

-- where nothing was done the open merge stays
pub same_itself : (merging : Option OpenMerge) → is_some merging ≡ true → IsSameMerge merging merging
same_itself None some = absurd cc
same_itself (Some m) some = record { merge = m; was_open = refl; next = m; is_open = refl; lent = refl; moved = refl }

-- ---- the invariant

-- a file that was lent doesn't stand
pub free_lent : (name : Name) (old new : Option DiskState) → IsChangedBy (lent_new name) old new → ForSome new (IsFree name)
free_lent name None new changed state told = absurd (let never : None ≡ Some state = cc in cc)
free_lent name (Some disk) new changed state told =
    subst (IsFree name) (same changed told) (get_removed (created name disk).standing name)
  where
    same : new ≡ Some (lent_new name disk) → new ≡ Some state → lent_new name disk ≡ state
    same a b = cc

-- What is lent stays so behind room that was made for the next table,
module _ {D : Type 0} (g : Ghosts D) (old mid : D) (next : ℕ) (was now : Option OpenMerge)
    (elsewhere : SameSpareElsewhere (names.Table next) (g.spare old) (g.spare mid)) (told : g.told mid ≡ g.told old)
    (same : IsSameMerge was now) (lent : AreLent g old next was) where
  still_mid : AreLent g mid next was
  still_mid = still_lent g old mid next next was (omega arith) (leaves_ready g old mid next elsewhere told) lent

  pub lent_ready : AreLent g mid next now
  lent_ready = lent_same g mid next was now same still_mid

  -- where the file was made and lent, or in part,
  module _ {X E : Type 0} (new : D) (result : Result X E) (lends : LendsNew g (names.Table next) mid new result) where
    pub lent_failed : AreLent g new next now
    lent_failed = still_lent g mid new next next now (omega arith)
        (leaves_lending g mid new next lends.elsewhere lends.files lends.untold) lent_ready

  -- and where it is lent to the merge.
  module _ {X E : Type 0} (new : D) (x : X) (lends : LendsNew {E = E} g (names.Table next) mid new (Ok x)) where
    pub lent_then : (then : Option OpenMerge) → IsLentMore now then next → AreLent g new (next + 1) then
    lent_then then more = lent_more g new (next + 1) now then next more
        (record {
          drawn = omega arith;
          room = lends.adopt;
          free = free_lent (names.Table next) (g.told mid) (g.told new) lends.performs.done;
        })
        (still_lent g mid new next (next + 1) now (omega arith)
        (leaves_lending g mid new next lends.elsewhere lends.files lends.untold) lent_ready)

-- none of these has a number that is above them all
pub none_has : (number : ℕ) (ns : List ℕ) → All (λ n. n < number) ns → has number ns ≡ false
none_has number [] below = refl
none_has number (n ∷ ns) below =
    let low : n < number = below 0 0 (omega arith) in
    let other : (n == number) ≡ false = grind (arith, nat_tests, low) in
    ap (λ b. b || has number ns) other ∙ none_has number ns (All-tail (λ (m : ℕ). m < number) n ns below)

-- The next number is none that was lent.
pub is_new : {D : Type 0} (g : Ghosts D) (disk : D) (next : ℕ) (merging : Option OpenMerge) → AreLent g disk next merging
    → IsNewTo merging next
is_new g disk next merging lent o is = none_has next o.lent.items (λ k d within. (lent o is k d within).drawn)

-- ---- what the next calls ask

module _ {H : Type 0} (core : Core H) where
  abbrev name : Name
  name = names.Table core.back.state.next_table

  module _ (disk : DiskState) (fit : IsFitFor core disk) where
    pub lent_elsewhere : SameElsewhere name disk (lent_new name disk)
    lent_elsewhere = elsewhere_then name disk (created name disk) (lent_new name disk) (created_elsewhere name disk)
        (without_elsewhere name (created name disk))

    stands_then : (other : Name) → other ≢ name → Stands other disk → Stands other (lent_new name disk)
    stands_then other apart stands = ap is_some (lent_elsewhere.standing other apart) ∙ stands

    free_then : (other : Name) → other ≢ name → IsFree other disk → IsFree other (lent_new name disk)
    free_then other apart free = lent_elsewhere.standing other apart ∙ free

    no_log : (n : ℕ) → names.Log n ≢ name
    no_log n e = cc

    no_manifest : (n : ℕ) → names.Manifest n ≢ name
    no_manifest n e = cc

    other_table : (n : ℕ) → core.back.state.next_table + 1 ≤ n → names.Table n ≢ name
    other_table n above e = let is : n ≡ core.back.state.next_table = cc in omega (arith, above, is)

    fit_lent : IsFitFor (drawn_core core) (lent_new name disk)
    fit_lent = record {
      log = stands_then (names.Log core.front.log.number) (no_log core.front.log.number) fit.log;
      steps = λ running. let steps = fit.steps running in record {
        manifest = stands_then (names.Manifest core.back.manifest.number) (no_manifest core.back.manifest.number) steps.manifest;
        logs = λ n above. free_then (names.Log n) (no_log n) (steps.logs n above);
        tables = λ n above. free_then (names.Table n) (other_table n above) (steps.tables n (omega (arith, above)));
      };
    }

  -- behind it
  pub fit_drawn : (old new : Option DiskState) → IsChangedBy (lent_new name) old new → ForSome old (IsFitFor core)
      → ForSome new (IsFitFor (drawn_core core))
  fit_drawn None new changed fit state told = absurd (let never : None ≡ Some state = cc in cc)
  fit_drawn (Some disk) new changed fit state told =
      subst (IsFitFor (drawn_core core)) (same changed told) (fit_lent disk (fit disk refl))
    where
      same : new ≡ Some (lent_new name disk) → new ≡ Some state → lent_new name disk ≡ state
      same a b = cc

  -- where the same is told
  pub fit_told : (old new : Option DiskState) → new ≡ old → ForSome old (IsFitFor core) → ForSome new (IsFitFor core)
  fit_told old new same fit state told = fit state (sym same ∙ told)

  -- and where it failed the active log stands
  pub log_kept : (old new : Option DiskState) → KeepsOthers name old new → (old ≡ None → new ≡ None) → ForSome old (IsFitFor core)
      → ForSome new (Stands (names.Log core.front.log.number))
  log_kept None new keeps untold fit state told = absurd (let never : None ≡ Some state = sym (untold refl) ∙ told in cc)
  log_kept (Some disk) new keeps untold fit state told =
      stands_kept (names.Log core.front.log.number) disk state
      (keeps disk state refl told (names.Log core.front.log.number) (no_log core.front.log.number)) (fit disk refl).log
    where
      no_log : (n : ℕ) → names.Log n ≢ name
      no_log n e = cc
