-- An install leaves the merge's other files before its tables come into use.
use Rattle.std.specs.Prelude.{◌≡◌, ◌≤◌, ◌+◌, ◌++◌, ◌==◌, ◌&&◌, ◌||◌, not, ℕ, Bool, true, false, List, [], ◌∷◌, length, map}
use Rattle.std.specs.Prelude.{IsSome, Option, None, Some, Vec, vec_capacity, vec_len, refl}
use Rattle.std.specs.Global.{Global}
use Rattle.std.specs.List.{AllByRecursion, filter}
use Rattle.std.specs.Option.{ForSome}
use Rattle.std.specs.VecDeque.{deque_capacity, deque_len}
use Rattle.std.proofs.Common.{sym, ap, subst, ◌∙◌, arith}
use Rattle.std.proofs.lemmas.Bool.Decides.{nat_tests}
use Rattle.std.proofs.lemmas.List.{length-append, length-map}
use Rattle.vl_compact.specs.declared.files.Lent.{Lent}
use Rattle.vl_compact.specs.declared.files.Synced.{Synced}
use Rattle.vl_compact.specs.declared.job.Job.{Job}
use Rattle.vl_engine_laws.specs.declared.kept.Core.{Core}
use Rattle.vl_disk.specs.Disk.{IsFree}
use Rattle.vl_disk.specs.declared.name.Name.TheVariants.{Table}
use Rattle.vl_disk.specs.declared.watched.Watched.{Ghosts}
use Rattle.vl_disk.specs.declared.writer.Writer.{Ghosts as Writers}
use Rattle.vl_engine.proofs.LeftRemoved.{few, room_left, there_left}
use Rattle.vl_space.specs.laws.Retired.Changing.{readied_for}
use Rattle.vl_space.specs.laws.There.Left.{numbers_both}
use Rattle.vl_space.specs.Collecting.{head_in}
use Rattle.vl_steps.specs.Installing.{IsHandedIn, numbers_in}
use Rattle.vl_engine_laws.specs.Lent.{AreLent}
use Rattle.vl_space.specs.Removing.{IsThere, are_distinct, numbers_left}
use Rattle.vl_engine_laws.specs.Lent.{lent_in}
use Rattle.vl_space.specs.Retiring.{HoldsNeeded, InstallsInto, IsReadied, LeavesFiles, all_left, files_in, is_idle_in, is_idle_log}
use Rattle.vl_space.specs.Retiring.{left_of, switching}
use Rattle.vl_steps.specs.Taking.{MayTake}
use Rattle.vl_engine.specs.UnderWay.{IsUnderWay}
use Rattle.vl_engine_laws.specs.declared.open.OpenMerge.{OpenMerge}
use Rattle.vl_engine_model.specs.Jobs.{AreDistinct}
use Rattle.vl_model.specs.Numbers.{has}
use Rattle.vl_pins.specs.Files.{BecomesBy, Has, HasRoom, Kept, left_at}
use Rattle.vl_pins.specs.declared.in_use.InUse.{InUse}
use Rattle.vl_pins.specs.declared.stock.Stock.{Stock}
use Rattle.vl_stats.specs.Tallies.{Tallied}
use Rattle.vl_table.specs.Tables.{number_of}
use Rattle.vl_version.specs.Bases.{is_input}
use Rattle.vl_version.specs.declared.base.Base.{Base}
use Rattle.vl_version.specs.levels.LevelsLooked.{tables_of}

-- ---- numbers

back_all : (P : ℕ → Type 0) (ns ms : List ℕ) → AllByRecursion P (ns ++ ms) → AllByRecursion P ms
back_all P [] ms all = all
back_all P (n ∷ ns) ms all = back_all P ns ms all.1

back_distinct : (ns ms : List ℕ) → AreDistinct (ns ++ ms) → AreDistinct ms
back_distinct [] ms distinct = distinct
back_distinct (n ∷ ns) ms distinct = back_distinct ns ms distinct.1

either : (a b : Bool) → (a || b) ≡ false → (a ≡ false) × (b ≡ false)
either true b is = absurd cc
either false b is = (refl, is)

off_behind : (n : ℕ) (ns ms : List ℕ) → has n (ns ++ ms) ≡ false → has n ms ≡ false
off_behind n [] ms off = off
off_behind n (m ∷ ns) ms off = off_behind n ns ms (either (m == n) (has n (ns ++ ms)) off).1

off_both : (n : ℕ) (ns ms : List ℕ) → has n ns ≡ false → has n ms ≡ false → has n (ns ++ ms) ≡ false
off_both n [] ms one other = other
off_both n (m ∷ ns) ms one other =
    let parts = either (m == n) (has n ns) one in
    ap (λ (b : Bool). b || has n (ns ++ ms)) parts.0 ∙ off_both n ns ms parts.1 other

-- what is one of the first is none of the others
off_apart : (n : ℕ) (xs ys : List ℕ) → has n xs ≡ true → (are : are_distinct (xs ++ ys) ≡ true) → has n ys ≡ false
off_apart n [] ys here are = absurd cc
off_apart n (x ∷ xs) ys here are =
    let parts = and_parts (not (has x (xs ++ ys))) (are_distinct (xs ++ ys)) are in
    by (x == n) refl here (off_behind x xs ys (not_true (has x (xs ++ ys)) parts.0)) (λ later. off_apart n xs ys later parts.1)
  where
    and_parts : (a b : Bool) → (a && b) ≡ true → (a ≡ true) × (b ≡ true)
    and_parts true b is = (refl, is)
    and_parts false b is = absurd cc

    not_true : (a : Bool) → not a ≡ true → a ≡ false
    not_true true is = absurd cc
    not_true false is = refl

    by : (b : Bool) → (x == n) ≡ b → (b || has n xs) ≡ true → has x ys ≡ false → (has n xs ≡ true → has n ys ≡ false) → has n ys ≡ false
    by true same here off later = let e : x ≡ n = grind (arith, nat_tests, same) in subst (λ (k : ℕ). has k ys ≡ false) e off
    by false other here off later = later here

-- ---- the other files

module _ {D W H R K : Type 0} (g : Ghosts D) {s : Writers W} (disk : D) (core : Core K) (merging : Option OpenMerge)
    (job : Job (Base H R) H W s) (handed : IsHandedIn g s disk core.front.halted merging job)
    (none : Vec (Synced W s) Global) (none_is : none.items ≡ [])
    (readied mid : Stock (Lent W s)) (left : LeavesFiles (map left_of none.items ++ job.leavings.items) readied mid) where
  abbrev others : Job (Base H R) H W s
  others = record job { made = none }

  abbrev made_numbers : List ℕ
  made_numbers = map (λ (t : Synced W s). t.number) job.made.items

  abbrev left_numbers : List ℕ
  left_numbers = map (λ (f : Lent W s). f.number) job.leavings.items

  abbrev NumbersWith : List (Synced W s) → List ℕ
  NumbersWith ts = map (λ (t : Synced W s). t.number) ts ++ left_numbers

  way : IsUnderWay g s disk core.front.halted merging others
  way = record {
    merge = handed.merge;
    is_open = handed.is_open;
    drawn = subst (λ (ts : List (Synced W s)). AllByRecursion (λ (n : ℕ). has n handed.merge.lent.items ≡ true) (NumbersWith ts))
        (sym none_is)
        (back_all (λ (n : ℕ). has n handed.merge.lent.items ≡ true) made_numbers left_numbers handed.drawn);
    distinct = subst (λ (ts : List (Synced W s)). AreDistinct (NumbersWith ts)) (sym none_is)
        (back_distinct made_numbers left_numbers handed.distinct);
    tells = λ running state told. subst (λ (ts : List (Synced W s)). AllByRecursion (λ (t : Synced W s). IsSome (s.file t.writer)) ts)
        (sym none_is) tt;
    leavings_tell = handed.leavings_tell;
  }

  files_are : files_in others ≡ job.leavings.items
  files_are = ap (λ (ts : List (Synced W s)). map left_of ts ++ job.leavings.items) none_is

  few_left : length job.leavings.items ≤ length (lent_in merging)
  few_left =
      let all = room_left others g disk core.front.halted merging way in
      let same = ap length files_are in
      omega (arith, all, same)

  leaves : deque_len readied.trash + length job.leavings.items ≤ deque_capacity readied.trash
      → mid.trash.items ≡ readied.trash.items ++ all_left job.leavings.items
  leaves room =
      left.left (let same = ap length files_are in omega (arith, same, room))
      ∙ ap (λ (fs : List (Lent W s)). readied.trash.items ++ all_left fs) files_are

  -- There is room for the tables then,
  pub room_put : (tables lent : ℕ) → lent ≡ length (lent_in merging) → HasRoom readied tables 1 lent → HasRoom mid tables 0 0
  room_put tables lent lent_is room =
      let a = room.trash in
      let fewer = few_left in
      let now = ap length (leaves (omega (arith, a, fewer, lent_is))) in
      let both = length-append readied.trash.items (all_left job.leavings.items) in
      let many = length-map job.leavings.items (λ (f : Lent W s). left_at f.number f) in
      let m = mid.trash.ok.0 in
      let r = readied.trash.ok.0 in
      let cap = left.capacity in
      let logs = room.logs_in in
      record {
        in_use = room.in_use;
        is_some = left.in_use ∙ room.is_some;
        tables_in = room.tables_in;
        logs_in = omega (arith, logs);
        trash = omega (arith, a, fewer, now, both, many, m, r, cap, lent_is);
      }

  -- and each can be removed.
  pub there_others : core.front.halted ≡ None → AreLent g disk core.back.state.next_table merging
      → IsThere g s disk core merging readied → IsThere g s disk core None mid
  there_others running lent is =
      there_left g disk core merging others readied mid is way left running lent

  numbers_all : (files : List (Lent W s)) → numbers_left (all_left files) ≡ map (λ (f : Lent W s). f.number) files
  numbers_all [] = refl
  numbers_all (f ∷ fs) = ap (λ (l : List ℕ). f.number ∷ l) (numbers_all fs)

  -- The tables' numbers are none of those that were left.
  pub off_left : IsThere g s disk core merging readied
      → AllByRecursion (λ (t : Synced W s). has t.number (numbers_left mid.trash.items) ≡ false) job.made.items
  off_left is = of job.made.items handed.drawn handed.distinct
    where
      numbers : numbers_left mid.trash.items ≡ numbers_left readied.trash.items ++ left_numbers
      numbers =
          ap numbers_left (leaves (let room = is.room in let fewer = few_left in omega (arith, room, fewer)))
          ∙ numbers_both readied.trash.items (all_left job.leavings.items)
          ∙ ap (λ (ns : List ℕ). numbers_left readied.trash.items ++ ns) (numbers_all job.leavings.items)

      lent_is : lent_in merging ≡ handed.merge.lent.items
      lent_is = ap lent_in handed.is_open

      of : (ts : List (Synced W s)) → AllByRecursion (λ (n : ℕ). has n handed.merge.lent.items ≡ true) (NumbersWith ts)
          → AreDistinct (NumbersWith ts) → AllByRecursion (λ (t : Synced W s). has t.number (numbers_left mid.trash.items) ≡ false) ts
      of [] drawn distinct = tt
      of (t ∷ ts) drawn distinct = (
        ap (has t.number) numbers
            ∙ off_both t.number (numbers_left readied.trash.items) left_numbers
            (off_apart t.number (lent_in merging) (numbers_left readied.trash.items)
            (subst (λ (ns : List ℕ). has t.number ns ≡ true) (sym lent_is) drawn.0) is.distinct)
            (off_behind t.number (map (λ (u : Synced W s). u.number) ts) left_numbers distinct.0),
        of ts drawn.1 distinct.1,
      )

  -- So the tables are put in.
  pub put_into : (before after : Core H) (added dropped : List ℕ) (head version tables counted : ℕ) (live : List (ℕ × ℕ))
      (kept : Option Tallied) (old now : Stock (Lent W s)) → added ≡ made_numbers
      → dropped ≡ map number_of (filter (is_input (map number_of job.inputs.tables.items)) (tables_of before.version.behind.levels))
      → version ≡ before.back.epoch + 1 → head ≡ head_in after
      → ((n : ℕ) → is_idle_in head kept n ≡ is_idle_log head live n) → tables ≡ length added → counted ≡ length (lent_in merging)
      → IsReadied before old readied tables counted
      → BecomesBy (switching version added dropped (is_idle_log head live)) mid now → HoldsNeeded before after kept
      → InstallsInto job before after kept old now (length (lent_in merging))
  put_into before after added dropped head version tables counted live kept old now added_is dropped_is version_is head_is idle long same
      ready switched held = record {
        readied = readied;
        is_ready = readied_for before old readied tables (length job.made.items) counted (length (lent_in merging))
            (long ∙ ap length added_is ∙ length-map job.made.items (λ (t : Synced W s). t.number)) same ready;
        mid = mid;
        left = subst (λ (fs : List (Lent W s)). LeavesFiles fs readied mid) files_are left;
        switched = λ (k : Kept (Lent W s)) has_it. subst (Has now)
            (ap (λ v. switching v added dropped (is_idle_log head live) k) version_is
            ∙ ap (λ ns. switching (before.back.epoch + 1) ns dropped (is_idle_log head live) k) added_is
            ∙ ap (λ ns. switching (before.back.epoch + 1) made_numbers ns (is_idle_log head live) k) dropped_is
            ∙ ap (λ (i : ℕ → Bool). switching (before.back.epoch + 1) made_numbers
            (map number_of (filter (is_input (map number_of job.inputs.tables.items)) (tables_of before.version.behind.levels))) i k)
            (λ j n. sym (idle n) j)
            ∙ ap (λ m. switching (before.back.epoch + 1) made_numbers
            (map number_of (filter (is_input (map number_of job.inputs.tables.items)) (tables_of before.version.behind.levels)))
            (is_idle_in m kept) k) head_is)
            (switched k has_it);
        held = held;
      }

-- The files of tables that may be taken back don't stand.
pub free_of : {D W : Type 0} (g : Ghosts D) {s : Writers W} (old begun : D) → g.told begun ≡ g.told old → (ts : List (Synced W s))
    → AllByRecursion (MayTake g s begun) ts → ForSome (g.told old)
    (λ state. AllByRecursion (λ (n : ℕ). IsFree (Table n) state) (map (λ (t : Synced W s). t.number) ts))
free_of g old begun told [] may state is = tt
free_of g old begun told (t ∷ ts) may state is = (may.0.free state (told ∙ is), free_of g old begun told ts may.1 state is)
