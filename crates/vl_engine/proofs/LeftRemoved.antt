-- The files of a merge that has ended wait for their removal, as the layout has them; each of them can be removed.
use Rattle.std.specs.Prelude.{◌≡◌, ◌≢◌, ◌≤◌, ◌<◌, ◌+◌, ◌++◌, ◌==◌, ◌&&◌, ◌||◌, not, ℕ, All, Bool, IsSome, List, [], ◌∷◌, length, map, take}
use Rattle.std.specs.Prelude.{if◌then◌else◌, Option, None, Some, is_some, true, false, refl}
use Rattle.std.specs.List.{AllByRecursion, AllZip}
use Rattle.std.specs.Option.{ForSome, option_map}
use Rattle.std.specs.VecDeque.{deque_capacity, deque_len}
use Rattle.std.proofs.Common.{sym, subst, ap, ◌∙◌, arith}
use Rattle.std.proofs.lemmas.Bool.{eq-eqb, eqb-true}
use Rattle.std.proofs.lemmas.List.Elements.{All-append, All-from_recursion, recursion_from_All}
use Rattle.vl_compact.specs.Progress.{made_of}
use Rattle.vl_compact.specs.declared.files.Lent.{Lent}
use Rattle.vl_compact.specs.declared.files.Synced.{Synced}
use Rattle.vl_compact.specs.declared.job.Job.{Job as Merging}
use Rattle.vl_engine_laws.specs.Represents.{file_of}
use Rattle.vl_engine_laws.specs.declared.kept.Core.{Core}
use Rattle.vl_disk.specs.Disk.{Stands}
use Rattle.vl_disk.specs.DiskState.{DiskState}
use Rattle.vl_disk.specs.declared.name.Name.{Name}
use Rattle.vl_disk.specs.declared.name.Name.TheVariants.{Log as LogName, Table as TableName}
use Rattle.vl_disk.specs.declared.watched.Watched.{Ghosts}
use Rattle.vl_disk.specs.declared.writer.Writer.{Ghosts as Writers}
use Rattle.vl_space.specs.laws.There.Left.{numbers_both, standing_both}
use Rattle.vl_steps.specs.Installing.{numbers_in}
use Rattle.vl_engine_laws.specs.Lent.{AreLent, IsLent}
use Rattle.vl_steps.specs.Merging.{HasMerge}
use Rattle.vl_space.specs.Removing.{HasInUse, IsLeft, IsStockOf, IsThere, IsWaiting, Removes}
use Rattle.vl_space.specs.Removing.{UsesThoseOf, all_retired}
use Rattle.vl_space.specs.Removing.{are_distinct, are_unused, is_none_of, logs_in_use, numbers_left, standing_names}
use Rattle.vl_engine_laws.specs.Lent.{lent_in}
use Rattle.vl_space.specs.Removing.{tables_in_use}
use Rattle.vl_space.specs.Retiring.{LeavesFiles, all_left, files_in, left_of}
use Rattle.vl_engine.specs.UnderWay.{IsUnderWay}
use Rattle.vl_engine_laws.specs.declared.open.OpenMerge.{OpenMerge}
use Rattle.vl_space.specs.declared.kept.Removing.{Removing}
use Rattle.vl_engine_model.specs.Jobs.{AreDistinct, Made, job_ended, loose, tables_made}
use Rattle.vl_engine_model.specs.Merging.{outputs}
use Rattle.vl_engine_model.specs.Sources.{numbers_of}
use Rattle.vl_engine_model.specs.declared.file_name.Retired.{Retired}
use Rattle.vl_engine_model.specs.declared.job.Job.{Job}
use Rattle.vl_engine_model.specs.declared.layout.Layout.{Layout}
use Rattle.vl_model.specs.Numbers.{has}
use Rattle.vl_model.specs.declared.entry.Entry.{Entry}
use Rattle.vl_pins.specs.Files.{left_at, retired_of}
use Rattle.vl_pins.specs.Pins.{ArePinsOf}
use Rattle.vl_pins.specs.declared.in_use.InUse.{InUse}
use Rattle.vl_pins.specs.declared.pins.Pins.{Pins}
use Rattle.vl_pins.specs.declared.retired_file.RetiredFile.{RetiredFile}
use Rattle.vl_pins.specs.declared.stock.Stock.{Stock}
use Rattle.vl_seglog.specs.declared.sealed.SealedLog.{SealedLog}
use Rattle.vl_version.specs.declared.base.Base.{Base}

-- ---- numbers

false_true : false ≡ true → ⊥
false_true e = cc

or_right : (a b : Bool) → b ≡ true → (a || b) ≡ true
or_right true b is = refl
or_right false b is = is

and_left : (a b : Bool) → (a && b) ≡ true → a ≡ true
and_left true b is = refl
and_left false b is = is

and_right : (a b : Bool) → (a && b) ≡ true → b ≡ true
and_right true b is = is
and_right false b is = absurd (false_true is)

and_both : (a b : Bool) → a ≡ true → b ≡ true → (a && b) ≡ true
and_both true b a_is b_is = b_is
and_both false b a_is b_is = a_is

not_true : (a : Bool) → not a ≡ true → a ≡ true → ⊥
not_true true is was = cc
not_true false is was = cc

not_so : (a : Bool) → (a ≡ true → ⊥) → not a ≡ true
not_so true never = absurd (never refl)
not_so false never = refl

false_or_true : (a : Bool) → a ≡ false → a ≡ true → ⊥
false_or_true a off is = false_true (sym off ∙ is)

-- a number is taken out, once
out : ℕ → List ℕ → List ℕ
out n [] = []
out n (y ∷ ys) = if y == n then ys else y ∷ out n ys

length_out : (n : ℕ) (ys : List ℕ) → has n ys ≡ true → length ys ≡ length (out n ys) + 1
unfolding out
length_out n [] is = absurd (false_true is)
length_out n (y ∷ ys) is = by (y == n) is (length_out n ys)
  where
    by : (b : Bool) → (b || has n ys) ≡ true → (has n ys ≡ true → length ys ≡ length (out n ys) + 1)
        → length (y ∷ ys) ≡ length (if b then ys else y ∷ out n ys) + 1
    by true is later = omega arith
    by false is later = let e = later is in omega (arith, e)

has_out : (n m : ℕ) (ys : List ℕ) → (m ≡ n → ⊥) → has m ys ≡ true → has m (out n ys) ≡ true
unfolding out
has_out n m [] apart is = is
has_out n m (y ∷ ys) apart is = by (y == n) refl (y == m) refl is (has_out n m ys apart)
  where
    by : (b : Bool) → (y == n) ≡ b → (c : Bool) → (y == m) ≡ c → (c || has m ys) ≡ true → (has m ys ≡ true → has m (out n ys) ≡ true)
        → has m (if b then ys else y ∷ out n ys) ≡ true
    by true at true same is later = absurd (apart (sym (eqb-true y m same) ∙ eqb-true y n at))
    by true at false other is later = is
    by false at true same is later = ap (λ (c : Bool). c || has m (out n ys)) same
    by false at false other is later = or_right (y == m) (has m (out n ys)) (later is)

-- numbers of their own, each among others, are no more than these
pub few : (xs ys : List ℕ) → AreDistinct xs → AllByRecursion (λ (n : ℕ). has n ys ≡ true) xs → length xs ≤ length ys
few [] ys distinct among = omega arith
few (x ∷ xs) ys distinct among =
    let less = few xs (out x ys) distinct.1 (others xs distinct.0 among.1) in
    let long = length_out x ys among.0 in omega (arith, less, long)
  where
    others : (zs : List ℕ) → has x zs ≡ false → AllByRecursion (λ (n : ℕ). has n ys ≡ true) zs
        → AllByRecursion (λ (n : ℕ). has n (out x ys) ≡ true) zs
    others [] off all = tt
    others (z ∷ zs) off all = by (λ (rest : has x zs ≡ false). others zs rest all.1) (z == x) refl off
      where
        by : (has x zs ≡ false → AllByRecursion (λ (n : ℕ). has n (out x ys) ≡ true) zs) → (b : Bool) → (z == x) ≡ b
            → (b || has x zs) ≡ false → AllByRecursion (λ (n : ℕ). has n (out x ys) ≡ true) (z ∷ zs)
        by later true same off = absurd (false_or_true true off refl)
        by later false other off =
            (has_out x z ys (λ (same : z ≡ x). false_or_true (z == x) other (eq-eqb z x same)) all.0, later off)

-- ---- distinct ones

distinct_behind : (xs ys : List ℕ) → are_distinct (xs ++ ys) ≡ true → are_distinct ys ≡ true
distinct_behind [] ys is = is
distinct_behind (x ∷ xs) ys is = distinct_behind xs ys (and_right (not (has x (xs ++ ys))) (are_distinct (xs ++ ys)) is)

has_behind : (n : ℕ) (xs ys : List ℕ) → has n ys ≡ true → has n (xs ++ ys) ≡ true
has_behind n [] ys is = is
has_behind n (x ∷ xs) ys is = or_right (x == n) (has n (xs ++ ys)) (has_behind n xs ys is)

distinct_apart : (n : ℕ) (xs ys : List ℕ) → are_distinct (xs ++ ys) ≡ true → has n xs ≡ true → has n ys ≡ true → ⊥
distinct_apart n [] ys is here there = false_true here
distinct_apart n (x ∷ xs) ys is here there =
    by (distinct_apart n xs ys (and_right (not (has x (xs ++ ys))) (are_distinct (xs ++ ys)) is)) (x == n) refl here
  where
    by : (has n xs ≡ true → has n ys ≡ true → ⊥) → (b : Bool) → (x == n) ≡ b → (b || has n xs) ≡ true → ⊥
    by later true same here = not_true (has x (xs ++ ys)) (and_left (not (has x (xs ++ ys))) (are_distinct (xs ++ ys)) is)
        (has_behind x xs ys (subst (λ (m : ℕ). has m ys ≡ true) (sym (eqb-true x n same)) there))
    by later false other here = later here there

has_either : (n : ℕ) (xs ys : List ℕ) → (has n xs ≡ true → ⊥) → (has n ys ≡ true → ⊥) → has n (xs ++ ys) ≡ true → ⊥
has_either n [] ys one other is = other is
has_either n (x ∷ xs) ys one other is = by (has_either n xs ys) (x == n) one is
  where
    by : ((has n xs ≡ true → ⊥) → (has n ys ≡ true → ⊥) → has n (xs ++ ys) ≡ true → ⊥) → (b : Bool)
        → ((b || has n xs) ≡ true → ⊥) → (b || has n (xs ++ ys)) ≡ true → ⊥
    by later true one is = one refl
    by later false one is = later one other is

as_distinct : (xs : List ℕ) → AreDistinct xs → are_distinct xs ≡ true
as_distinct [] all = refl
as_distinct (x ∷ xs) all = and_both (not (has x xs)) (are_distinct xs) (ap not all.0) (as_distinct xs all.1)

-- two such lists that have none in common
distinct_both : (xs ys : List ℕ) → are_distinct xs ≡ true → are_distinct ys ≡ true → ((n : ℕ) → has n xs ≡ true → has n ys ≡ true → ⊥)
    → are_distinct (xs ++ ys) ≡ true
distinct_both [] ys one other apart = other
distinct_both (x ∷ xs) ys one other apart = and_both (not (has x (xs ++ ys))) (are_distinct (xs ++ ys))
    (not_so (has x (xs ++ ys)) (has_either x xs ys (not_true (has x xs) (and_left (not (has x xs)) (are_distinct xs) one))
    (apart x (ap (λ (b : Bool). b || has x xs) (eq-eqb x x refl)))))
    (distinct_both xs ys (and_right (not (has x xs)) (are_distinct xs) one) other
    (λ n here. apart n (or_right (x == n) (has n xs) here)))

among_is : (n : ℕ) (xs ys : List ℕ) → AllByRecursion (λ (m : ℕ). has m ys ≡ true) xs → has n xs ≡ true → has n ys ≡ true
among_is n [] ys all is = absurd (false_true is)
among_is n (x ∷ xs) ys all is = by (among_is n xs ys all.1) (x == n) refl is
  where
    by : (has n xs ≡ true → has n ys ≡ true) → (b : Bool) → (x == n) ≡ b → (b || has n xs) ≡ true → has n ys ≡ true
    by later true same is = subst (λ (m : ℕ). has m ys ≡ true) (eqb-true x n same) all.0
    by later false other is = later is

-- ---- files that are left

map_both : {X Y : Type 0} (f : X → Y) (xs ys : List X) → map f (xs ++ ys) ≡ map f xs ++ map f ys
map_both f [] ys = refl
map_both f (x ∷ xs) ys = ap (λ (l : List _). f x ∷ l) (map_both f xs ys)

length_map : {X Y : Type 0} (f : X → Y) (xs : List X) → length (map f xs) ≡ length xs
length_map f [] = refl
length_map f (x ∷ xs) = omega (arith, length_map f xs)

length_both : {X : Type 0} (xs ys : List X) → length (xs ++ ys) ≡ length xs + length ys
length_both [] ys = omega arith
length_both (x ∷ xs) ys = omega (arith, length_both xs ys)

module _ {W : Type 0} {s : Writers W} where
  abbrev number_is : Lent W s → ℕ
  number_is file = file.number

  numbers_all : (files : List (Lent W s)) → numbers_left (all_left files) ≡ map number_is files
  numbers_all [] = refl
  numbers_all (f ∷ fs) = ap (λ (l : List ℕ). f.number ∷ l) (numbers_all fs)

  none_standing : (files : List (Lent W s)) → standing_names (all_left files) ≡ []
  none_standing [] = refl
  none_standing (f ∷ fs) = none_standing fs

  retired_all : (files : List (Lent W s)) → all_retired (all_left files) ≡ loose (map number_is files)
  retired_all [] = refl
  retired_all (f ∷ fs) = ap (λ (l : List Retired). retired_of (left_at f.number f) ∷ l) (retired_all fs)

  numbers_same : (ts : List (Synced W s)) → map number_is (map left_of ts) ≡ map (λ (t : Synced W s). t.number) ts
  numbers_same [] = refl
  numbers_same (t ∷ ts) = ap (λ (l : List ℕ). t.number ∷ l) (numbers_same ts)

  module _ {V H : Type 0} (job : Merging V H W s) where
    pub files_numbers : map number_is (files_in job) ≡ numbers_in job
    files_numbers = map_both number_is (map left_of job.made.items) job.leavings.items
        ∙ ap (λ (l : List ℕ). l ++ map number_is job.leavings.items) (numbers_same job.made.items)

    -- there is room for them
    pub room_left : {D : Type 0} (g : Ghosts D) (disk : D) (halted : Option Name) (merging : Option OpenMerge)
        → IsUnderWay g s disk halted merging job → length (files_in job) ≤ length (lent_in merging)
    room_left g disk halted merging way =
        let less = few (numbers_in job) way.merge.lent.items way.distinct way.drawn in
        let long = sym (length_map number_is (files_in job)) ∙ ap length files_numbers in
        let lent = ap (λ (m : Option OpenMerge). length (lent_in m)) way.is_open in
        omega (arith, less, long, lent)

-- ---- they wait, and can be removed

module _ {D W H V K : Type 0} (g : Ghosts D) {s : Writers W} (disk : D) (core : Core H) (merging : Option OpenMerge)
    (job : Merging V K W s) (old new : Stock (Lent W s)) (is : IsThere g s disk core merging old)
    (way : IsUnderWay g s disk core.front.halted merging job) (left : LeavesFiles (files_in job) old new) where
  waits_now : new.trash.items ≡ old.trash.items ++ all_left (files_in job)
  waits_now = left.left (let room = is.room in let less = room_left job g disk core.front.halted merging way in
      omega (arith, room, less))

  module _ (running : core.front.halted ≡ None) (lent : AreLent g disk core.back.state.next_table merging) where
    abbrev Fine : Lent W s → Type 0
    Fine file = (has file.number way.merge.lent.items ≡ true) × ForSome (g.told disk) (λ _. is_some (s.file file.writer) ≡ true)

    each_lent : (ns : List ℕ) → AllByRecursion (IsLent g disk core.back.state.next_table) ns → (n : ℕ) → has n ns ≡ true
        → IsLent g disk core.back.state.next_table n
    each_lent [] all n is = absurd (false_true is)
    each_lent (m ∷ ns) all n is = by (each_lent ns all.1 n) (m == n) refl is
      where
        by : (has n ns ≡ true → IsLent g disk core.back.state.next_table n) → (b : Bool) → (m == n) ≡ b → (b || has n ns) ≡ true
            → IsLent g disk core.back.state.next_table n
        by later true same is = subst (IsLent g disk core.back.state.next_table) (eqb-true m n same) all.0
        by later false other is = later is

    one_waits : (file : Lent W s) → Fine file → IsWaiting g s disk core.back.state.next_table (left_at file.number file)
    one_waits file fine = record {
      stands = λ none. absurd (never none);
      left = λ x some. subst (λ (f : Lent W s). IsLeft g s disk core.back.state.next_table f) (same x some) (record {
        lent = each_lent way.merge.lent.items (recursion_from_All (IsLent g disk core.back.state.next_table) way.merge.lent.items
            (lent way.merge way.is_open)) file.number fine.0;
        tells = fine.1;
      });
      named = λ x some. ap (λ (f : Lent W s). TableName f.number) (same x some);
    }
      where
        never : Some file ≡ None → ⊥
        never e = cc

        same : (x : Lent W s) → Some file ≡ Some x → file ≡ x
        same x e = cc

    waiting_all : (files : List (Lent W s)) → AllByRecursion Fine files
        → AllByRecursion (IsWaiting g s disk core.back.state.next_table) (all_left files)
    waiting_all [] all = tt
    waiting_all (f ∷ fs) all = (one_waits f all.0, waiting_all fs all.1)

    fine_made : (ts : List (Synced W s)) → AllByRecursion (λ (n : ℕ). has n way.merge.lent.items ≡ true)
        (map (λ (t : Synced W s). t.number) ts)
        → ForSome (g.told disk) (λ _. AllByRecursion (λ (t : Synced W s). IsSome (s.file t.writer)) ts)
        → AllByRecursion Fine (map left_of ts)
    fine_made [] drawn tells = tt
    fine_made (t ∷ ts) drawn tells =
        ((drawn.0, λ state told. (tells state told).0), fine_made ts drawn.1 (λ state told. (tells state told).1))

    fine_left : (fs : List (Lent W s)) → AllByRecursion (λ (n : ℕ). has n way.merge.lent.items ≡ true) (map number_is fs)
        → ForSome (g.told disk) (λ _. AllByRecursion (λ (f : Lent W s). IsSome (s.file f.writer)) fs) → AllByRecursion Fine fs
    fine_left [] drawn tells = tt
    fine_left (f ∷ fs) drawn tells =
        ((drawn.0, λ state told. (tells state told).0), fine_left fs drawn.1 (λ state told. (tells state told).1))

    parts : {X : Type 0} (P : X → Type 0) (xs ys : List X) → AllByRecursion P (xs ++ ys) → AllByRecursion P xs × AllByRecursion P ys
    parts P [] ys all = (tt, all)
    parts P (x ∷ xs) ys all = let rest = parts P xs ys all.1 in ((all.0, rest.0), rest.1)

    both : {X : Type 0} (P : X → Type 0) (xs ys : List X) → AllByRecursion P xs → AllByRecursion P ys → AllByRecursion P (xs ++ ys)
    both P [] ys one other = other
    both P (x ∷ xs) ys one other = (one.0, both P xs ys one.1 other)

    fine_all : AllByRecursion Fine (files_in job)
    fine_all = let drawn = parts (λ (n : ℕ). has n way.merge.lent.items ≡ true) (map (λ (t : Synced W s). t.number) job.made.items)
        (map number_is job.leavings.items) way.drawn in
        both Fine (map left_of job.made.items) job.leavings.items (fine_made job.made.items drawn.0 (way.tells running))
        (fine_left job.leavings.items drawn.1 (way.leavings_tell running))

    lent_is : lent_in merging ≡ way.merge.lent.items
    lent_is = ap lent_in way.is_open

    pub there_left : IsThere g s disk core None new
    there_left = record {
      waiting = subst (All (IsWaiting g s disk core.back.state.next_table)) (sym waits_now)
          (All-append (IsWaiting g s disk core.back.state.next_table) old.trash.items (all_left (files_in job)) is.waiting
          (All-from_recursion (IsWaiting g s disk core.back.state.next_table) (all_left (files_in job))
          (waiting_all (files_in job) fine_all)));
      distinct = ap (λ (files : List (RetiredFile (Lent W s))). are_distinct (numbers_left files)) waits_now
          ∙ ap are_distinct (numbers_both old.trash.items (all_left (files_in job))
          ∙ ap (λ (l : List ℕ). numbers_left old.trash.items ++ l) (numbers_all (files_in job) ∙ files_numbers job))
          ∙ distinct_both (numbers_left old.trash.items) (numbers_in job)
          (distinct_behind (lent_in merging) (numbers_left old.trash.items) is.distinct) (as_distinct (numbers_in job) way.distinct)
          (λ n here there. distinct_apart n (lent_in merging) (numbers_left old.trash.items) is.distinct
          (subst (λ (ns : List ℕ). has n ns ≡ true) (sym lent_is) (among_is n (numbers_in job) way.merge.lent.items way.drawn there)) here);
      room = let room = is.room in let less = room_left job g disk core.front.halted merging way in
          let old_len = old.trash.ok.0 in let new_len = new.trash.ok.0 in let capacity = left.capacity in
          let long = ap length waits_now ∙ length_both old.trash.items (all_left (files_in job)) in
          let more = length_map (λ (file : Lent W s). left_at file.number file) (files_in job) in
          omega (arith, room, less, old_len, new_len, capacity, long, more);
      files = λ state told. let has_use = is.files state told in record {
        tables = subst (λ (o : Option InUse). All (λ n. Stands (TableName n) state) (tables_in_use core.version o)) (sym left.in_use)
            has_use.tables;
        logs = subst (λ (o : Option InUse). All (λ n. Stands (LogName n) state) (logs_in_use core.version o)) (sym left.in_use)
            has_use.logs;
        unused = (λ i. are_unused core.front.log.number (tables_in_use core.version (left.in_use i))
            (logs_in_use core.version (left.in_use i))
            (standing_is i)) ∙ has_use.unused;
        active = ap (is_none_of core.front.log.number) left.in_use ∙ has_use.active;
      };
    }
      where
        nothing : (ns : List Name) → ns ++ [] ≡ ns
        nothing [] = refl
        nothing (n ∷ ns) = ap (λ (l : List Name). n ∷ l) (nothing ns)

        standing_is : standing_names new.trash.items ≡ standing_names old.trash.items
        standing_is = ap standing_names waits_now ∙ standing_both old.trash.items (all_left (files_in job))
            ∙ ap (λ (l : List Name). standing_names old.trash.items ++ l) (none_standing (files_in job)) ∙
            nothing (standing_names old.trash.items)

  -- ---- as the layout has them

  pub stock_left : (l : Layout) (made : Made) → numbers_of made.tables ++ made.leavings ≡ numbers_in job → IsStockOf core old l
      → IsStockOf core new (job_ended made l)
  stock_left l made numbers stock = record {
    in_use = subst (λ (o : Option InUse). UsesThoseOf core.version.behind.logs.items o (job_ended made l)) (sym left.in_use)
        (uses core.version.behind.logs.items old.in_use stock.in_use);
    trash = ap all_retired waits_now ∙ map_both retired_of old.trash.items (all_left (files_in job))
        ∙ (λ i. stock.trash i ++ (retired_all (files_in job) ∙ ap loose (files_numbers job ∙ sym numbers)) i);
    aged = both_aged l.retired (numbers_of made.tables ++ made.leavings) stock.aged;
    room = let room = is.room in let less = room_left job g disk core.front.halted merging way in
        let old_len = old.trash.ok.0 in let new_len = new.trash.ok.0 in let capacity = left.capacity in
        let long = ap length waits_now ∙ length_both old.trash.items (all_left (files_in job)) in
        let more = length_map (λ (file : Lent W s). left_at file.number file) (files_in job) in
        omega (arith, room, less, old_len, new_len, capacity, long, more);
  }
    where
      uses : (logs : List (SealedLog H)) (o : Option InUse) → UsesThoseOf logs o l → UsesThoseOf logs o (job_ended made l)
      uses logs None is = is
      uses logs (Some in_use) is = record { tables = is.tables; logs = is.logs }

      both_aged : (rs : List Retired) (ns : List ℕ) → AllByRecursion (λ (r : Retired). r.epoch ≤ l.epoch) rs
          → AllByRecursion (λ (r : Retired). r.epoch ≤ l.epoch) (rs ++ loose ns)
      both_aged [] ns all = zeros ns
        where
          zeros : (ms : List ℕ) → AllByRecursion (λ (r : Retired). r.epoch ≤ l.epoch) (loose ms)
          zeros [] = tt
          zeros (m ∷ ms) = (omega arith, zeros ms)
      both_aged (r ∷ rs) ns all = (all.0, both_aged rs ns all.1)

-- What is kept of which files can go is so of the layout in which the job has ended.
module _ {D W H V K : Type 0} (g : Ghosts D) {s : Writers W} (disk : D) (core : Core H) (merging : Option OpenMerge)
    (job : Merging V K W s) (before after : Removing (Lent W s))
    (there : core.front.halted ≡ None → IsThere g s disk core merging before.stock)
    (way : IsUnderWay g s disk core.front.halted merging job) (left : LeavesFiles (files_in job) before.stock after.stock) where
  pub removes_left : (l : Layout) (made : Made) → numbers_of made.tables ++ made.leavings ≡ numbers_in job
      → (l.halted ≡ None → core.front.halted ≡ None) → after.pins ≡ record before.pins { merge = None }
      → Removes core before l → Removes core after (job_ended made l)
  removes_left l made numbers runs_too pins removes = record {
    pins = subst (λ (p : Pins). ArePinsOf p (job_ended made l)) (sym pins) (record {
      live = removes.pins.live;
      merge = refl;
      pass = removes.pins.pass;
      last = removes.pins.last;
    });
    stock = λ runs. stock_left g disk core merging job before.stock after.stock (there (runs_too runs)) way left l made numbers
        (removes.stock runs);
  }

-- where a layout isn't halted the engine isn't
pub halted_none : (o : Option Name) → option_map file_of o ≡ None → o ≡ None
halted_none None none = refl
halted_none (Some name) none = absurd (never none)
  where
    never : Some (file_of name) ≡ None → ⊥
    never e = cc

-- ---- the numbers of what a merge has made

prefix_numbers : {W : Type 0} {s : Writers W} (P : Synced W s → List Entry → Type 0) (ts : List (Synced W s)) (ess : List (List Entry))
    → AllZip P ts (take (length ts) ess) → numbers_of (tables_made (map (λ (t : Synced W s). t.number) ts) ess)
    ≡ map (λ (t : Synced W s). t.number) ts
prefix_numbers P [] ess all = refl
prefix_numbers P (t ∷ ts) [] all = absurd all
prefix_numbers P (t ∷ ts) (es ∷ ess) all = ap (λ (l : List ℕ). t.number ∷ l) (prefix_numbers P ts ess all.1)

pub merge_numbers : {H R W : Type 0} {s : Writers W} (bytes : H → Option (List ℕ)) (job : Merging (Base H R) H W s) (j : Job)
    → HasMerge s bytes job j → numbers_of (made_of job j).tables ++ (made_of job j).leavings ≡ numbers_in job
merge_numbers bytes job j has = ap (λ (l : List ℕ). l ++ map number_is job.leavings.items)
    (prefix_numbers _ job.made.items (outputs j) has.made)
