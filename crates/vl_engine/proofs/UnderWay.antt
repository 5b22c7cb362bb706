-- A merge that is carried out beside the engine: what each table that it makes leaves of what an install asks.
use Rattle.std.specs.Prelude.{◌≡◌, ℕ, ◌||◌, ◌==◌, Bool, true, false, List, [], ◌∷◌, ◌++◌, map, Option, None, Some, IsSome, Err}
use Rattle.std.specs.List.{AllByRecursion}
use Rattle.std.specs.Option.{ForSome, option_map}
use Rattle.std.proofs.Common.{sym, ap, subst, ◌∙◌, arith, refl}
use Rattle.std.proofs.lemmas.Bool.Decides.{nat_tests}
use Rattle.std.proofs.lemmas.List.{map-append}
use Rattle.vl_compact.specs.Progress.{IsNew, KeepsAll, Leaves, Takes}
use Rattle.vl_compact.specs.declared.files.Lent.{Lent}
use Rattle.vl_compact.specs.declared.files.Synced.{Synced}
use Rattle.vl_compact.specs.declared.job.Job.{Job}
use Rattle.vl_engine_laws.specs.declared.kept.Core.{Core}
use Rattle.vl_disk.specs.Calls.{ChangesNothing}
use Rattle.vl_disk.specs.Disk.{IsChangedBy}
use Rattle.vl_disk.specs.DiskState.{DiskState, new_file}
use Rattle.vl_disk.specs.declared.name.Name.{Name}
use Rattle.vl_disk.specs.declared.watched.Watched.{Ghosts}
use Rattle.vl_disk.specs.declared.writer.Writer.{Ghosts as Writers}
use Rattle.vl_steps.specs.Drawing.{DrawsCore, FreshLeavesDisk, IsLentMore, IsNewTo, IsSameJob, IsSameMerge}
use Rattle.vl_steps.specs.Installing.{HandsBack, InstallLeavesDisk, InstallsCore, IsHandedIn, numbers_in}
use Rattle.vl_steps.specs.Merging.{IsJustOpen}
use Rattle.vl_engine.specs.UnderWay.{GivesUp, IfHandedBack, IsUnderWay}
use Rattle.vl_steps.specs.declared.fails.InstallFail.TheVariants as install
use Rattle.vl_steps.specs.declared.fails.InstallFail.{InstallFail}
use Rattle.vl_steps.specs.declared.fails.StepFail.TheVariants as fails
use Rattle.vl_steps.specs.declared.fails.StepFail.{StepFail}
use Rattle.vl_engine_laws.specs.declared.open.OpenMerge.{OpenMerge}
use Rattle.vl_space.specs.declared.kept.Removing.{Removing}
use Rattle.vl_engine_model.specs.Jobs.{AreDistinct}
use Rattle.vl_model.specs.Numbers.{has}

-- ---- numbers

-- one more is put between some and others
put_in_all : (P : ℕ → Type 0) (ms ls : List ℕ) (n : ℕ) → AllByRecursion P (ms ++ ls) → P n → AllByRecursion P ((ms ++ n ∷ []) ++ ls)
put_in_all P [] ls n all is = (is, all)
put_in_all P (m ∷ ms) ls n all is = (all.0, put_in_all P ms ls n all.1 is)

all_then : (P Q : ℕ → Type 0) (ns : List ℕ) → ((n : ℕ) → P n → Q n) → AllByRecursion P ns → AllByRecursion Q ns
all_then P Q [] weak all = tt
all_then P Q (n ∷ ns) weak all = (weak n all.0, all_then P Q ns weak all.1)

still_has : (n m : ℕ) (ns : List ℕ) → has n ns ≡ true → has n (ns ++ m ∷ []) ≡ true
still_has n m [] is = absurd (let no : false ≡ true = is in cc)
still_has n m (k ∷ ns) is = by (k == n) is (still_has n m ns)
  where
    by : (b : Bool) → (b || has n ns) ≡ true → (has n ns ≡ true → has n (ns ++ m ∷ []) ≡ true) → (b || has n (ns ++ m ∷ [])) ≡ true
    by true is later = refl
    by false is later = later is

last_has : (n : ℕ) (ns : List ℕ) → has n (ns ++ n ∷ []) ≡ true
last_has n [] = grind (arith, nat_tests)
last_has n (k ∷ ns) = by (k == n) (last_has n ns)
  where
    by : (b : Bool) → has n (ns ++ n ∷ []) ≡ true → (b || has n (ns ++ n ∷ [])) ≡ true
    by true later = refl
    by false later = later

-- what isn't among those that were lent is none of the job's
not_among : (n : ℕ) (lent ns : List ℕ) → AllByRecursion (λ (k : ℕ). has k lent ≡ true) ns → has n lent ≡ false → has n ns ≡ false
not_among n lent [] all off = refl
not_among n lent (k ∷ ns) all off = by (k == n) refl (not_among n lent ns all.1 off)
  where
    by : (b : Bool) → (k == n) ≡ b → has n ns ≡ false → (b || has n ns) ≡ false
    by true same later =
        let e : k ≡ n = grind (arith, nat_tests, same) in
        absurd (let no : true ≡ false = sym (subst (λ (i : ℕ). has i lent ≡ true) e all.0) ∙ off in cc)
    by false other later = later

off_still : (m n : ℕ) (ms ls : List ℕ) → (n == m) ≡ false → has m (ms ++ ls) ≡ false → has m ((ms ++ n ∷ []) ++ ls) ≡ false
off_still m n [] ls other off = ap (λ (b : Bool). b || has m ls) other ∙ off
off_still m n (k ∷ ms) ls other off = by (k == m) off (off_still m n ms ls other)
  where
    by : (b : Bool) → (b || has m (ms ++ ls)) ≡ false → (has m (ms ++ ls) ≡ false → has m ((ms ++ n ∷ []) ++ ls) ≡ false)
        → (b || has m ((ms ++ n ∷ []) ++ ls)) ≡ false
    by true off later = absurd (let no : true ≡ false = off in cc)
    by false off later = later off

put_in_distinct : (ms ls : List ℕ) (n : ℕ) → AreDistinct (ms ++ ls) → has n (ms ++ ls) ≡ false → AreDistinct ((ms ++ n ∷ []) ++ ls)
put_in_distinct [] ls n apart off = (off, apart)
put_in_distinct (m ∷ ms) ls n apart off = by (m == n) refl off (put_in_distinct ms ls n apart.1)
  where
    by : (b : Bool) → (m == n) ≡ b → (b || has n (ms ++ ls)) ≡ false
        → (has n (ms ++ ls) ≡ false → AreDistinct ((ms ++ n ∷ []) ++ ls))
        → (has m ((ms ++ n ∷ []) ++ ls) ≡ false) × AreDistinct ((ms ++ n ∷ []) ++ ls)
    by true same off later = absurd (let no : true ≡ false = off in cc)
    by false other off later =
        let turned : (n == m) ≡ false = grind (arith, nat_tests, other) in
        (off_still m n ms ls turned apart.0, later off)

all_more : {T : Type 0} (P : T → Type 0) (ts : List T) (t : T) → AllByRecursion P ts → P t → AllByRecursion P (ts ++ t ∷ [])
all_more P [] t all is = (is, tt)
all_more P (x ∷ ts) t all is = (all.0, all_more P ts t all.1 is)

was_told : {A : Type 0} (f : A → A) (o : Option A) (x : A) → option_map f o ≡ Some x → (y : A) × (o ≡ Some y)
was_told f None x is = absurd (let no : None ≡ Some x = is in cc)
was_told f (Some y) x is = (y, refl)

-- ---- the merge

module _ {D V H W : Type 0} (g : Ghosts D) (w : Writers W) {s : _} where
  -- One that was just planned has no files.
  pub just_planned : (disk : D) (halted : Option Name) (merging : Option OpenMerge) (job : Job V H W s) → IsJustOpen merging → IsNew job
      → IsUnderWay g w disk halted merging job
  just_planned disk halted merging job begun new = record {
    merge = begun.merge;
    is_open = begun.is_open;
    drawn = none (λ ns. AllByRecursion (λ (n : ℕ). has n begun.merge.lent.items ≡ true) ns) tt;
    distinct = none AreDistinct tt;
    tells = λ running state is. subst (λ (ts : List (Synced W s)). AllByRecursion (λ (t : Synced W s). IsSome (w.file t.writer)) ts)
        (sym new.made) tt;
    leavings_tell = λ running state is. subst (λ (fs : List (Lent W s)). AllByRecursion (λ (f : Lent W s). IsSome (w.file f.writer)) fs)
        (sym new.leavings) tt;
  }
    where
      none : (P : List ℕ → Type 0) → P [] → P (numbers_in job)
      none P is =
          subst (λ (ts : List (Synced W s)). P
          (map (λ (t : Synced W s). t.number) ts ++ map (λ (f : Lent W s). f.number) job.leavings.items))
          (sym new.made) (subst (λ (fs : List (Lent W s)). P (map (λ (f : Lent W s). f.number) fs)) (sym new.leavings) is)

  -- One that has made all of its tables is ready to be handed in.
  pub handed_in : (disk : D) (halted : Option Name) (merging : Option OpenMerge) (old new : Job V H W s)
      → IsUnderWay g w disk halted merging old → KeepsAll old new → new.ended ≡ true → IsHandedIn g w disk halted merging new
  handed_in disk halted merging old new way kept ended = record {
    ended = ended;
    merge = way.merge;
    is_open = way.is_open;
    drawn = subst (λ (j : Job V H W s). AllByRecursion (λ (n : ℕ). has n way.merge.lent.items ≡ true) (numbers_in j)) (sym kept) way.drawn;
    distinct = subst (λ (j : Job V H W s). AreDistinct (numbers_in j)) (sym kept) way.distinct;
    tells = λ running state is. subst (λ (j : Job V H W s). AllByRecursion (λ (t : Synced W s). IsSome (w.file t.writer)) j.made.items)
        (sym kept) (way.tells running state is);
    leavings_tell = λ running state is. subst (λ (j : Job V H W s). AllByRecursion (λ (f : Lent W s). IsSome (w.file f.writer))
        j.leavings.items) (sym kept) (way.leavings_tell running state is);
  }

  -- It stays one while it reads on,
  pub still_way : (disk : D) (halted : Option Name) (merging : Option OpenMerge) (old new : Job V H W s)
      → IsUnderWay g w disk halted merging old → KeepsAll old new → IsUnderWay g w disk halted merging new
  still_way disk halted merging old new way kept = record {
    merge = way.merge;
    is_open = way.is_open;
    drawn = subst (λ (j : Job V H W s). AllByRecursion (λ (n : ℕ). has n way.merge.lent.items ≡ true) (numbers_in j)) (sym kept) way.drawn;
    distinct = subst (λ (j : Job V H W s). AreDistinct (numbers_in j)) (sym kept) way.distinct;
    tells = λ running state is. subst (λ (j : Job V H W s). AllByRecursion (λ (t : Synced W s). IsSome (w.file t.writer)) j.made.items)
        (sym kept) (way.tells running state is);
    leavings_tell = λ running state is. subst (λ (j : Job V H W s). AllByRecursion (λ (f : Lent W s). IsSome (w.file f.writer))
        j.leavings.items) (sym kept) (way.leavings_tell running state is);
  }

  -- So it stays where one more table is made, in a file that was lent for it.
  pub one_more : (change : DiskState → DiskState) (old new : D) (before after : Option Name) (was now : Option OpenMerge)
      (first asked roomy last : Job V H W s) (file : Lent W s) → IsUnderWay g w old before was first → KeepsAll first asked
      → IsSameJob asked roomy → Takes w file roomy last → IsLentMore was now file.number → IsNewTo was file.number
      → ForSome (g.told old) (λ _. w.file file.writer ≡ Some new_file) → IsChangedBy change (g.told old) (g.told new) → after ≡ before
      → IsUnderWay g w new after now last
  one_more change old new before after was now first asked roomy last file way kept same takes lent fresh empty changed halts = record {
    merge = lent.next;
    is_open = lent.is_open;
    drawn = numbers (λ ns. AllByRecursion (λ (n : ℕ). has n lent.next.lent.items ≡ true) ns)
        (put_in_all (λ (n : ℕ). has n lent.next.lent.items ≡ true) made left file.number
        (all_then (λ (n : ℕ). has n way.merge.lent.items ≡ true) (λ (n : ℕ). has n lent.next.lent.items ≡ true)
        (made ++ left) among way.drawn)
        (subst (λ (ns : List ℕ). has file.number ns ≡ true) (sym lent.lent) (last_has file.number lent.merge.lent.items)));
    distinct = numbers AreDistinct (put_in_distinct made left file.number way.distinct
        (not_among file.number way.merge.lent.items (made ++ left) way.drawn (fresh way.merge way.is_open)));
    tells = λ running state is.
        let was_so = was_told change (g.told old) state (sym changed ∙ is) in
        subst (λ (ts : List (Synced W s)). AllByRecursion (λ (t : Synced W s). IsSome (w.file t.writer)) ts) (sym made_are)
        (all_more (λ (t : Synced W s). IsSome (w.file t.writer)) first.made.items takes.table
        (way.tells (sym halts ∙ running) was_so.0 was_so.1)
        (takes.tells (subst (λ (o : Option _). IsSome o) (sym (empty was_so.0 was_so.1)) refl)));
    leavings_tell = λ running state is.
        let was_so = was_told change (g.told old) state (sym changed ∙ is) in
        subst (λ (fs : List (Lent W s)). AllByRecursion (λ (f : Lent W s). IsSome (w.file f.writer)) fs) (sym left_are)
        (way.leavings_tell (sym halts ∙ running) was_so.0 was_so.1);
  }
    where
      made : List ℕ
      made = map (λ (t : Synced W s). t.number) first.made.items

      left : List ℕ
      left = map (λ (f : Lent W s). f.number) first.leavings.items

      made_are : last.made.items ≡ first.made.items ++ takes.table ∷ []
      made_are = takes.made ∙ ap (λ (ts : List (Synced W s)). ts ++ takes.table ∷ [])
          (same.made ∙ ap (λ (j : Job V H W s). j.made.items) kept)

      left_are : last.leavings.items ≡ first.leavings.items
      left_are = ap (λ l. l.items) takes.leavings ∙ (same.leavings ∙ ap (λ (j : Job V H W s). j.leavings.items) kept)

      merge_is : way.merge ≡ lent.merge
      merge_is = let e : Some way.merge ≡ Some lent.merge = sym way.is_open ∙ lent.was_open in cc

      among : (n : ℕ) → has n way.merge.lent.items ≡ true → has n lent.next.lent.items ≡ true
      among n is = subst (λ (ns : List ℕ). has n ns ≡ true) (sym lent.lent)
          (still_has n file.number lent.merge.lent.items (subst (λ (m : OpenMerge). has n m.lent.items ≡ true) merge_is is))

      numbers_are : numbers_in last ≡ (made ++ file.number ∷ []) ++ left
      numbers_are =
          ap (λ (fs : List (Lent W s)). map (λ (t : Synced W s). t.number) last.made.items ++ map (λ (f : Lent W s). f.number) fs) left_are
          ∙ ap (λ (ns : List ℕ). ns ++ left) (ap (λ (ts : List (Synced W s)). map (λ (t : Synced W s). t.number) ts) made_are
          ∙ (map-append (λ (t : Synced W s). t.number) first.made.items (takes.table ∷ [])
          ∙ ap (λ (n : ℕ). made ++ n ∷ []) takes.number))

      numbers : (P : List ℕ → Type 0) → P ((made ++ file.number ∷ []) ++ left) → P (numbers_in last)
      numbers P is = subst P (sym numbers_are) is

  -- ---- no table came of it

  -- where no file was lent, and unless the engine is halted then nothing was done to the disk
  pub unlent_way : (old new : D) (before after : Option Name) (was now : Option OpenMerge) (first asked roomy : Job V H W s)
      → IsUnderWay g w old before was first → KeepsAll first asked → IsSameJob asked roomy → IsSameMerge was now
      → (after ≡ None → (before ≡ None) × (g.told new ≡ g.told old)) → IsUnderWay g w new after now roomy
  unlent_way old new before after was now first asked roomy way kept same merge quiet = record {
    merge = merge.next;
    is_open = merge.is_open;
    drawn = subst (λ (ns : List ℕ). AllByRecursion (λ (n : ℕ). has n merge.next.lent.items ≡ true) ns) (sym numbers_are)
        (subst (λ (lent : List ℕ). AllByRecursion (λ (n : ℕ). has n lent ≡ true) (numbers_in first)) (sym lent_are) way.drawn);
    distinct = subst AreDistinct (sym numbers_are) way.distinct;
    tells = λ running state is. let so = quiet running in
        subst (λ (ts : List (Synced W s)). AllByRecursion (λ (t : Synced W s). IsSome (w.file t.writer)) ts) (sym made_are)
        (way.tells so.0 state (sym so.1 ∙ is));
    leavings_tell = λ running state is. let so = quiet running in
        subst (λ (fs : List (Lent W s)). AllByRecursion (λ (f : Lent W s). IsSome (w.file f.writer)) fs) (sym left_are)
        (way.leavings_tell so.0 state (sym so.1 ∙ is));
  }
    where
      made_are : roomy.made.items ≡ first.made.items
      made_are = same.made ∙ ap (λ (j : Job V H W s). j.made.items) kept

      left_are : roomy.leavings.items ≡ first.leavings.items
      left_are = same.leavings ∙ ap (λ (j : Job V H W s). j.leavings.items) kept

      numbers_are : numbers_in roomy ≡ numbers_in first
      numbers_are = λ i. map (λ (t : Synced W s). t.number) (made_are i) ++ map (λ (f : Lent W s). f.number) (left_are i)

      merge_is : way.merge ≡ merge.merge
      merge_is = let e : Some way.merge ≡ Some merge.merge = sym way.is_open ∙ merge.was_open in cc

      lent_are : merge.next.lent.items ≡ way.merge.lent.items
      lent_are = merge.lent ∙ ap (λ (m : OpenMerge). m.lent.items) (sym merge_is)

  -- where one was lent that didn't become a table
  pub unfilled_way : (change : DiskState → DiskState) (old new : D) (before after : Option Name) (was now : Option OpenMerge)
      (first asked roomy last : Job V H W s) (file : Lent W s) → IsUnderWay g w old before was first → KeepsAll first asked
      → IsSameJob asked roomy → Leaves w file roomy last → IsLentMore was now file.number → IsNewTo was file.number
      → ForSome (g.told old) (λ _. w.file file.writer ≡ Some new_file) → IsChangedBy change (g.told old) (g.told new) → after ≡ before
      → IsUnderWay g w new after now last
  unfilled_way change old new before after was now first asked roomy last file way kept same leaves lent fresh empty changed halts =
      record {
        merge = lent.next;
        is_open = lent.is_open;
        drawn = subst (λ (ns : List ℕ). AllByRecursion (λ (n : ℕ). has n lent.next.lent.items ≡ true) ns) (sym numbers_are)
            (all_more (λ (n : ℕ). has n lent.next.lent.items ≡ true) (numbers_in first) file.number
            (all_then (λ (n : ℕ). has n way.merge.lent.items ≡ true) (λ (n : ℕ). has n lent.next.lent.items ≡ true)
            (numbers_in first) among way.drawn)
            (subst (λ (ns : List ℕ). has file.number ns ≡ true) (sym lent.lent) (last_has file.number lent.merge.lent.items)));
        distinct = subst AreDistinct (sym numbers_are) (subst AreDistinct (nothing_behind ((numbers_in first) ++ file.number ∷ []))
            (put_in_distinct (numbers_in first) [] file.number (subst AreDistinct (sym (nothing_behind (numbers_in first))) way.distinct)
            (ap (has file.number) (nothing_behind (numbers_in first))
            ∙ not_among file.number way.merge.lent.items (numbers_in first) way.drawn (fresh way.merge way.is_open))));
        tells = λ running state is.
            let was_so = was_told change (g.told old) state (sym changed ∙ is) in
            subst (λ (ts : List (Synced W s)). AllByRecursion (λ (t : Synced W s). IsSome (w.file t.writer)) ts) (sym made_are)
            (way.tells (sym halts ∙ running) was_so.0 was_so.1);
        leavings_tell = λ running state is.
            let was_so = was_told change (g.told old) state (sym changed ∙ is) in
            subst (λ (fs : List (Lent W s)). AllByRecursion (λ (f : Lent W s). IsSome (w.file f.writer)) fs) (sym left_are)
            (all_more (λ (f : Lent W s). IsSome (w.file f.writer)) first.leavings.items leaves.leaving
            (way.leavings_tell (sym halts ∙ running) was_so.0 was_so.1)
            (leaves.tells (subst (λ (o : Option _). IsSome o) (sym (empty was_so.0 was_so.1)) refl)));
      }
    where
      made_are : last.made.items ≡ first.made.items
      made_are = ap (λ (j : Job V H W s). j.made.items) leaves.kept
          ∙ (same.made ∙ ap (λ (j : Job V H W s). j.made.items) kept)

      left_are : last.leavings.items ≡ first.leavings.items ++ leaves.leaving ∷ []
      left_are = leaves.left ∙ ap (λ (fs : List (Lent W s)). fs ++ leaves.leaving ∷ [])
          (same.leavings ∙ ap (λ (j : Job V H W s). j.leavings.items) kept)

      merge_is : way.merge ≡ lent.merge
      merge_is = let e : Some way.merge ≡ Some lent.merge = sym way.is_open ∙ lent.was_open in cc

      among : (n : ℕ) → has n way.merge.lent.items ≡ true → has n lent.next.lent.items ≡ true
      among n is = subst (λ (ns : List ℕ). has n ns ≡ true) (sym lent.lent)
          (still_has n file.number lent.merge.lent.items (subst (λ (m : OpenMerge). has n m.lent.items ≡ true) merge_is is))

      nothing_behind : (ns : List ℕ) → ns ++ [] ≡ ns
      nothing_behind [] = refl
      nothing_behind (n ∷ ns) = ap (λ (l : List ℕ). n ∷ l) (nothing_behind ns)

      together : (xs ys : List ℕ) (n : ℕ) → xs ++ (ys ++ n ∷ []) ≡ (xs ++ ys) ++ n ∷ []
      together [] ys n = refl
      together (x ∷ xs) ys n = ap (λ (l : List ℕ). x ∷ l) (together xs ys n)

      numbers_are : numbers_in last ≡ numbers_in first ++ file.number ∷ []
      numbers_are =
          (λ i. map (λ (t : Synced W s). t.number) (made_are i) ++ map (λ (f : Lent W s). f.number) (left_are i))
          ∙ ap (λ (ns : List ℕ). map (λ (t : Synced W s). t.number) first.made.items ++ ns)
          (map-append (λ (f : Lent W s). f.number) first.leavings.items (leaves.leaving ∷ [])
          ∙ ap (λ (n : ℕ). map (λ (f : Lent W s). f.number) first.leavings.items ++ n ∷ []) leaves.number)
          ∙ together (map (λ (t : Synced W s). t.number) first.made.items) (map (λ (f : Lent W s). f.number) first.leavings.items)
          file.number

-- where no file was lent the engine is halted then, or nothing was done to the disk
pub quiet_draw : {D H W : Type 0} (g : Ghosts D) (s : Writers W) (old new : D) (before after : Core H) (why : StepFail)
    → DrawsCore {W = W} before after {g = s} (Err why) → (FreshLeavesDisk {W = W} {g = s} (Err why) → ChangesNothing g old new ⊥)
    → after.front.halted ≡ None → (before.front.halted ≡ None) × (g.told new ≡ g.told old)
quiet_draw g s old new before after (fails.Halted name) core untouched running =
    (sym (ap (λ (c : Core _). c.front.halted) core.1) ∙ running, (untouched tt).told)
quiet_draw g s old new before after (fails.Exhausted counter) core untouched running =
    (sym (ap (λ (c : Core _). c.front.halted) core.1) ∙ running, (untouched tt).told)
quiet_draw g s old new before after fails.NoMemory core untouched running =
    (sym (ap (λ (c : Core _). c.front.halted) core) ∙ running, (untouched tt).told)
quiet_draw g s old new before after (fails.Disk name) core untouched running =
    absurd (never (sym (ap (λ (c : Core _). c.front.halted) core) ∙ running))
  where
    never : Some name ≡ None → ⊥
    never e = cc

-- ---- an install that failed

-- Where it handed the job back, this is under way yet,
pub handed_back_way : {D V H W : Type 0} (g : Ghosts D) {s : Writers W} (old new : D) (before after : Core H) (job : Job V H W s)
    (was mid : Option OpenMerge) (fail : InstallFail V H W s) → IsHandedIn g s old before.front.halted was job
    → HandsBack job was mid (Err fail) → InstallsCore before after (Err fail)
    → (InstallLeavesDisk (Err fail) → ChangesNothing g old new ⊥) → IfHandedBack g s new after.front.halted mid fail
handed_back_way g old new before after job was mid (install.Halted name) way handed core untouched = tt
handed_back_way g old new before after job was mid (install.Raced key number) way handed core untouched = tt
handed_back_way g old new before after job was mid (install.Exhausted counter) way handed core untouched = tt
handed_back_way {V = V} {H = H} {W = W} g {s = s} old new before after job was mid (install.NoMemory back) way handed core
    untouched = record {
      merge = way.merge;
      is_open = handed.1 ∙ way.is_open;
      drawn = subst (λ (j : Job V H W s). AllByRecursion (λ (n : ℕ). has n way.merge.lent.items ≡ true) (numbers_in j)) (sym handed.0)
          way.drawn;
      distinct = subst (λ (j : Job V H W s). AreDistinct (numbers_in j)) (sym handed.0) way.distinct;
      tells = λ running state is. subst (λ (j : Job V H W s). AllByRecursion (λ (t : Synced W s). IsSome (s.file t.writer)) j.made.items)
          (sym handed.0) (way.tells (sym (ap (λ (x : Core _). x.front.halted) core) ∙ running) state (sym (untouched tt).told ∙ is));
      leavings_tell = λ running state is. subst (λ (j : Job V H W s). AllByRecursion (λ (f : Lent W s). IsSome (s.file f.writer))
          j.leavings.items)
          (sym handed.0) (way.leavings_tell (sym (ap (λ (x : Core _). x.front.halted) core) ∙ running) state
          (sym (untouched tt).told ∙ is));
    }
handed_back_way g old new before after job was mid (install.Disk name) way handed core untouched = tt

-- and then no merge is open, since it was given up.
pub none_open : {V H W : Type 0} {s : Writers W} (job : Job V H W s) (was mid later : Option OpenMerge) (kept now : Removing (Lent W s))
    (fail : InstallFail V H W s) → HandsBack job was mid (Err fail) → GivesUp fail kept now mid later → later ≡ None
none_open job was mid later kept now (install.Halted name) handed ended = ended.1 ∙ handed
none_open job was mid later kept now (install.Raced key number) handed ended = ended.1 ∙ handed
none_open job was mid later kept now (install.Exhausted counter) handed ended = ended.1 ∙ handed
none_open job was mid later kept now (install.NoMemory back) handed ended = ended.2
none_open job was mid later kept now (install.Disk name) handed ended = ended.1 ∙ handed
