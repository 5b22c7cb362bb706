-- The files of a job that is handed in can be taken back.
use Rattle.std.specs.Prelude.{◌≡◌, ◌<◌, ℕ, ◌||◌, ◌==◌, Bool, true, false, List, [], ◌∷◌, ◌++◌, map, Option, None, IsSome, IsTrue}
use Rattle.std.specs.List.{AllByRecursion}
use Rattle.std.specs.Option.{ForSome}
use Rattle.std.proofs.Common.{sym, subst, ◌∙◌, arith, refl}
use Rattle.std.proofs.lemmas.Bool.Decides.{nat_tests}
use Rattle.std.proofs.lemmas.List.Elements.{recursion_from_All}
use Rattle.vl_compact.specs.declared.files.Lent.{Lent}
use Rattle.vl_compact.specs.declared.files.Synced.{Synced}
use Rattle.vl_compact.specs.declared.job.Job.{Job}
use Rattle.vl_disk.specs.Spare.{SameSpareElsewhere, Spare}
use Rattle.vl_disk.specs.declared.name.Name.TheVariants.{Manifest, Table}
use Rattle.vl_disk.specs.declared.name.Name.{Name}
use Rattle.vl_disk.specs.declared.watched.Watched.{Ghosts}
use Rattle.vl_disk.specs.declared.writer.Writer.{Ghosts as Writers}
use Rattle.vl_steps.specs.Installing.{IsHandedIn}
use Rattle.vl_engine_laws.specs.Lent.{AreLent, IsLent}
use Rattle.vl_steps.specs.Taking.{MayTake, MayTakeAll}
use Rattle.vl_engine_laws.specs.declared.open.OpenMerge.{OpenMerge}
use Rattle.vl_engine_model.specs.Jobs.{AreDistinct}
use Rattle.vl_model.specs.Numbers.{has}

-- what is so of all of some numbers is so of one of them
pub of_one : (P : ℕ → Type 0) (n : ℕ) (ns : List ℕ) → AllByRecursion P ns → has n ns ≡ true → P n
of_one P n [] all is = absurd (let no : false ≡ true = is in cc)
of_one P n (m ∷ ns) all is = by (m == n) refl is (of_one P n ns all.1)
  where
    by : (b : Bool) → (m == n) ≡ b → (b || has n ns) ≡ true → (has n ns ≡ true → P n) → P n
    by true same there later = subst P (let e : m ≡ n = grind (arith, nat_tests, same) in e) all.0
    by false other there later = later there

no_manifest : (n m : ℕ) → Table n ≡ Manifest m → ⊥
no_manifest n m e = cc

-- the first of some that differ
front_differ : (ns ms : List ℕ) → AreDistinct (ns ++ ms) → AreDistinct ns
front_differ [] ms apart = tt
front_differ (n ∷ ns) ms apart = (none ns apart.0, front_differ ns ms apart.1)
  where
    none : (ks : List ℕ) → has n (ks ++ ms) ≡ false → has n ks ≡ false
    none [] off = refl
    none (k ∷ ks) off = by (k == n) off (none ks)
      where
        by : (b : Bool) → (b || has n (ks ++ ms)) ≡ false → (has n (ks ++ ms) ≡ false → has n ks ≡ false) → (b || has n ks) ≡ false
        by true off later = off
        by false off later = later off

front_all : (P : ℕ → Type 0) (ns ms : List ℕ) → AllByRecursion P (ns ++ ms) → AllByRecursion P ns
front_all P [] ms all = tt
front_all P (n ∷ ns) ms all = (all.0, front_all P ns ms all.1)

module _ {D V H W : Type 0} (g : Ghosts D) (w : Writers W) (old mid : D) (next manifest : ℕ) {s : _} (job : Job V H W s)
    (told : g.told mid ≡ g.told old) (elsewhere : SameSpareElsewhere (Manifest manifest) (g.spare old) (g.spare mid)) where
  may_one : (t : Synced W s) → IsLent g old next t.number → ForSome (g.told old) (λ _. IsSome (w.file t.writer)) → MayTake g w mid t
  may_one t lent tells = record {
    room = subst (λ (sp : Spare). IsTrue sp.adopt) (sym (elsewhere (Table t.number) (no_manifest t.number manifest))) lent.room;
    free = λ disk is. lent.free disk (sym told ∙ is);
    tells = λ disk is. tells disk (sym told ∙ is);
  }

  may_each : (ts : List (Synced W s)) → AllByRecursion (IsLent g old next) (map (λ (t : Synced W s). t.number) ts)
      → ForSome (g.told old) (λ _. AllByRecursion (λ (t : Synced W s). IsSome (w.file t.writer)) ts)
      → AllByRecursion (MayTake g w mid) ts
  may_each [] lent tells = tt
  may_each (t ∷ ts) lent tells =
      (may_one t lent.0 (λ disk is. (tells disk is).0), may_each ts lent.1 (λ disk is. (tells disk is).1))

  module _ (halted : Option Name) (merging : Option OpenMerge) (lent : AreLent g old next merging)
      (handed : IsHandedIn g w old halted merging job) where
    abbrev made : List ℕ
    made = map (λ (t : Synced W s). t.number) job.made.items

    abbrev left : List ℕ
    left = map (λ (f : Lent W s). f.number) job.leavings.items

    all_lent : (ns : List ℕ) → AllByRecursion (IsLent g old next) handed.merge.lent.items
        → AllByRecursion (λ (n : ℕ). has n handed.merge.lent.items ≡ true) ns → AllByRecursion (IsLent g old next) ns
    all_lent [] each drawn = tt
    all_lent (n ∷ ns) each drawn = (of_one (IsLent g old next) n handed.merge.lent.items each drawn.0, all_lent ns each drawn.1)

    made_lent : AllByRecursion (IsLent g old next) made
    made_lent = all_lent made
        (recursion_from_All (IsLent g old next) handed.merge.lent.items (lent handed.merge handed.is_open))
        (front_all (λ (n : ℕ). has n handed.merge.lent.items ≡ true) made left handed.drawn)

    -- While the engine isn't halted each table's file can be taken back,
    pub may_take_all : halted ≡ None → MayTakeAll g w mid job.made.items
    may_take_all running = record {
      each = may_each job.made.items made_lent (handed.tells running);
      distinct = front_differ made left handed.distinct;
    }

    -- and each table's number was given before.
    pub made_given : AllByRecursion (λ (t : Synced W s). t.number < next) job.made.items
    made_given = of_each job.made.items made_lent
      where
        of_each : (ts : List (Synced W s)) → AllByRecursion (IsLent g old next) (map (λ (t : Synced W s). t.number) ts)
            → AllByRecursion (λ (t : Synced W s). t.number < next) ts
        of_each [] all = tt
        of_each (t ∷ ts) all = (all.0.drawn, of_each ts all.1)
