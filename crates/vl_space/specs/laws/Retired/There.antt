-- The files in use stand, and retired files can be removed, also where a log was sealed.
use Rattle.std.specs.Prelude.{◌≡◌, ◌≢◌, ◌≤◌, ◌<◌, ◌+◌, ◌++◌, ◌==◌, ◌&&◌, ◌||◌, not, ℕ, All, Bool, List, [], ◌∷◌, length, map}
use Rattle.std.specs.Prelude.{Option, None, Some, IsSome, is_some, true, false, refl, cond}
use Rattle.std.specs.FinMap.{get}
use Rattle.std.specs.List.{AllByRecursion, slice_index_or}
use Rattle.std.specs.Option.{ForSome}
use Rattle.std.specs.VecDeque.{deque_capacity, deque_items, deque_len}
use Rattle.std.proofs.Common.{sym, subst, ap, ◌∙◌, arith, ⊎_elim}
use Rattle.std.proofs.lemmas.Bool.{and_parts}
use Rattle.std.proofs.lemmas.Bool.Decides.{nat_tests}
use Rattle.std.proofs.lemmas.List.Elements.{All-filter, All-head, All-push, All-tail, All-weaker}
use Rattle.vl_back.specs.Writing.{KeepsOthers}
use Rattle.vl_compact.specs.declared.files.Lent.{Lent}
use Rattle.vl_engine_laws.specs.Carries.{StaysUntold}
use Rattle.vl_engine_laws.specs.declared.kept.Core.{Core}
use Rattle.vl_disk.specs.Disk.{IsFree, Stands}
use Rattle.vl_disk.specs.DiskState.{DiskState, File}
use Rattle.vl_disk.specs.declared.name.Name.{Name}
use Rattle.vl_disk.specs.declared.name.Name.TheVariants.{Log, Manifest, Table}
use Rattle.vl_disk.specs.declared.watched.Watched.{Ghosts}
use Rattle.vl_disk.specs.declared.writer.Writer.{Ghosts as Writers}
use Rattle.vl_space.specs.laws.Retired.Changing.{has_some, taken_out}
use Rattle.vl_space.specs.laws.Retired.Retiring.{has_filtered, same_either_way as either_way}
use Rattle.vl_space.specs.laws.There.Kept.{StandStill, not_free_stands, stands_not_free, there_kept, told_before, told_stand}
use Rattle.vl_space.specs.laws.There.Kept.{waiting_kept}
use Rattle.vl_engine_laws.specs.Lent.{LeavesLent}
use Rattle.vl_space.specs.Removing.{HasInUse, IsThere, IsWaiting, are_distinct, are_unused, is_none_of, is_unused}
use Rattle.vl_engine_laws.specs.Lent.{lent_in}
use Rattle.vl_space.specs.Removing.{logs_in_use, numbers_left, standing_names, tables_in_use, with_standing}
use Rattle.vl_space.specs.Retiring.{StaysUsed, used_by, used_in}
use Rattle.vl_engine_laws.specs.declared.open.OpenMerge.{OpenMerge}
use Rattle.vl_engine_model.specs.Stock.{is_in}
use Rattle.vl_model.specs.Numbers.{has}
use Rattle.vl_pins.specs.Files.{Has, Kept, file_of, kept_in, log_sealed}
use Rattle.vl_pins.specs.InUse.{but}
use Rattle.vl_pins.specs.declared.in_use.InUse.{InUse}
use Rattle.vl_pins.specs.declared.retired_file.RetiredFile.{RetiredFile}
use Rattle.vl_pins.specs.declared.stock.Stock.{Stock}
use Rattle.vl_seglog.specs.declared.sealed.SealedLog.{SealedLog}

-- ---- tests

pub and_false : (a : Bool) → (a && false) ≡ false
and_false true = refl
and_false false = refl

and_true : (a : Bool) → (a && true) ≡ a
and_true true = refl
and_true false = refl

pub both_true : (a b : Bool) → a ≡ true → b ≡ true → (a && b) ≡ true
both_true a b one other = ap (λ c. c && b) one ∙ other

not_false : (a : Bool) → a ≡ false → not a ≡ true
not_false a is = ap not is

-- whether the active log is left out of the logs in use or not
unused_without : (a n : ℕ) (ls : List ℕ) → (not (has n (but a ls)) && not (n == a)) ≡ (not (has n ls) && not (n == a))
unused_without a n ls =
    by (n == a) (has_filtered (λ (m : ℕ). not (m == a)) n ls)
  where
    by : (b : Bool) → has n (but a ls) ≡ (has n ls && not b) → (not (has n (but a ls)) && not b) ≡ (not (has n ls) && not b)
    by true is = and_false (not (has n (but a ls))) ∙ sym (and_false (not (has n ls)))
    by false is = ap (λ c. not c && true) (is ∙ and_true (has n ls))

one_without : (a : ℕ) (ts ls : List ℕ) (name : Name) → is_unused a ts (but a ls) name ≡ is_unused a ts ls name
one_without a ts ls (Log n) = unused_without a n ls
one_without a ts ls (Table n) = refl
one_without a ts ls (Manifest n) = refl

all_without : (a : ℕ) (ts ls : List ℕ) (names : List Name) → are_unused a ts (but a ls) names ≡ are_unused a ts ls names
all_without a ts ls [] = refl
all_without a ts ls (n ∷ ns) =
    ap (λ b. b && not (is_in (file_of n) (map file_of ns)) && are_unused a ts (but a ls) ns) (one_without a ts ls n)
    ∙ ap (λ b. is_unused a ts ls n && not (is_in (file_of n) (map file_of ns)) && b) (all_without a ts ls ns)

has_last : (n a : ℕ) (ls : List ℕ) → has n (ls ++ a ∷ []) ≡ (has n ls || (a == n))
has_last n a [] = or_false (a == n)
  where
    or_false : (b : Bool) → (b || false) ≡ b
    or_false true = refl
    or_false false = refl
has_last n a (m ∷ ls) = ap (λ b. (m == n) || b) (has_last n a ls) ∙ turn (m == n) (has n ls) (a == n)
  where
    turn : (x y z : Bool) → (x || (y || z)) ≡ ((x || y) || z)
    turn true y z = refl
    turn false y z = refl

pub neither_one : (x y : Bool) → not x ≡ true → not y ≡ true → not (x || y) ≡ true
neither_one true y one other = one
neither_one false y one other = other

-- ---- the files that are kept

-- Those in use stand, and no retired file is one of these.
pub record Standing {W : Type 0} {s : Writers W} (active : ℕ) (kept : Kept (Lent W s)) (state : DiskState) : Type 0 where
  pub tables : All (λ n. Stands (Table n) state) kept.tables
  pub logs : All (λ n. Stands (Log n) state) kept.logs
  pub unused : are_unused active kept.tables kept.logs (standing_names kept.trash) ≡ true
  pub off : not (has active kept.logs) ≡ true

module _ {H W : Type 0} {s : Writers W} (core : Core H) (state : DiskState) where
  pub to_use : (stock : Stock (Lent W s)) (kept : Kept (Lent W s)) → Has stock kept → Standing core.front.log.number kept state
      → HasInUse core stock state
  to_use stock kept has standing =
      let now = subst (λ (k : Kept (Lent W s)). Standing core.front.log.number k state) has.kept_are standing in record {
        tables = subst (λ (o : Option InUse). All (λ n. Stands (Table n) state) (tables_in_use core.version o)) (sym has.is_some)
            now.tables;
        logs = subst (λ (o : Option InUse). All (λ n. Stands (Log n) state) (logs_in_use core.version o)) (sym has.is_some) now.logs;
        unused = (λ i. are_unused core.front.log.number (tables_in_use core.version (has.is_some i))
            (logs_in_use core.version (has.is_some i)) (standing_names stock.trash.items)) ∙ now.unused;
        active = ap (is_none_of core.front.log.number) has.is_some ∙ now.off;
      }

  pub from_use : (stock : Stock (Lent W s)) (u : InUse) → stock.in_use ≡ Some u → HasInUse core stock state
      → Standing core.front.log.number (kept_in u stock) state
  from_use stock u some is = record {
    tables = subst (λ (o : Option InUse). All (λ n. Stands (Table n) state) (tables_in_use core.version o)) some is.tables;
    logs = subst (λ (o : Option InUse). All (λ n. Stands (Log n) state) (logs_in_use core.version o)) some is.logs;
    unused = sym (λ i. are_unused core.front.log.number (tables_in_use core.version (some i))
        (logs_in_use core.version (some i)) (standing_names stock.trash.items)) ∙ is.unused;
    off = sym (ap (is_none_of core.front.log.number) some) ∙ is.active;
  }

  -- to begin with
  pub first_use : (stock : Stock (Lent W s)) → HasInUse core stock state → Standing core.front.log.number (used_in core stock) state
  first_use stock is = by stock.in_use is.tables is.logs is.unused is.active
    where
      by : (o : Option InUse) → All (λ n. Stands (Table n) state) (tables_in_use core.version o)
          → All (λ n. Stands (Log n) state) (logs_in_use core.version o)
          → are_unused core.front.log.number (tables_in_use core.version o) (logs_in_use core.version o)
          (standing_names stock.trash.items) ≡ true
          → is_none_of core.front.log.number o ≡ true
          → Standing core.front.log.number (used_by core stock.trash.items o) state
      by None tables logs unused active = record {
        tables = tables;
        logs = All-filter (λ (m : ℕ). not (m == core.front.log.number)) (λ n. Stands (Log n) state) (logs_in_use core.version None) logs;
        unused = all_without core.front.log.number (tables_in_use core.version None) (logs_in_use core.version None)
            (standing_names stock.trash.items) ∙ unused;
        off = ap not (taken_out core.front.log.number (logs_in_use core.version None));
      }
      by (Some u) tables logs unused active = record { tables = tables; logs = logs; unused = unused; off = active }

-- ---- where the files in use were noted

module _ {D H W : Type 0} {s : Writers W} (g : Ghosts D) (w : Writers W) (disk : D) (core : Core H) (merging : Option OpenMerge)
    (was now : Stock (Lent W s)) where
  pub there_used : StaysUsed core was now → IsThere g w disk core merging was → IsThere g w disk core merging now
  there_used stays is = record {
    waiting = subst (λ (ts : List (RetiredFile (Lent W s))). All (IsWaiting g w disk core.back.state.next_table) ts) (sym stays.trash)
        is.waiting;
    distinct = ap (λ (ts : List (RetiredFile (Lent W s))). are_distinct (lent_in merging ++ numbers_left ts)) stays.trash ∙ is.distinct;
    room =
        let a = is.room in
        let b = stays.capacity in
        let c = ap length stays.trash in
        let d = was.trash.ok.0 in
        let e = now.trash.ok.0 in
        omega (arith, a, b, c, d, e);
    files = λ state told. used state (is.files state told);
  }
    where
      used : (state : DiskState) → HasInUse core was state → HasInUse core now state
      used state has =
          ⊎_elim (λ (none : (was.in_use ≡ None) × (now.in_use ≡ None)).
          let e : was.in_use ≡ now.in_use = none.0 ∙ sym none.1 in record {
            tables = subst (λ (o : Option InUse). All (λ n. Stands (Table n) state) (tables_in_use core.version o)) e has.tables;
            logs = subst (λ (o : Option InUse). All (λ n. Stands (Log n) state) (logs_in_use core.version o)) e has.logs;
            unused = sym (λ i. are_unused core.front.log.number (tables_in_use core.version (e i))
                (logs_in_use core.version (e i)) (standing_names (sym stays.trash i))) ∙ has.unused;
            active = sym (ap (is_none_of core.front.log.number) e) ∙ has.active;
          })
          (λ (kept : Has now (used_in core was)). to_use core state now (used_in core was) kept (first_use core state was has))
          stays.used

-- ---- another active log

-- each of these stands
abbrev pub NamesStand : List Name → DiskState → Type 0
NamesStand names state = AllByRecursion (λ (name : Name). Stands name state) names

pub waiting_stand : {D W : Type 0} {s : Writers W} (g : Ghosts D) (w : Writers W) (disk : D) (next_table : ℕ) (state : DiskState)
    → g.told disk ≡ Some state → (trash : List (RetiredFile (Lent W s))) → All (IsWaiting g w disk next_table) trash
    → NamesStand (standing_names trash) state
waiting_stand g w disk next_table state told [] all = tt
waiting_stand {W = W} {s = s} g w disk next_table state told (file ∷ trash) all =
    by file.lent refl (waiting_stand g w disk next_table state told trash
    (All-tail (IsWaiting g w disk next_table) file trash all))
  where
    here : IsWaiting g w disk next_table file
    here = All-head (IsWaiting g w disk next_table) file trash all

    by : (o : Option (Lent W s)) → file.lent ≡ o → NamesStand (standing_names trash) state
        → NamesStand (with_standing file.name o (standing_names trash)) state
    by None none later = (here.stands none state told, later)
    by (Some f) some later = later

module _ (a next : ℕ) (state : DiskState) (free : IsFree (Log next) state) where
  other_log : (n : ℕ) → Stands (Log n) state → (n == next) ≡ false
  other_log n stands = by (n == next) refl
    where
      by : (b : Bool) → (n == next) ≡ b → b ≡ false
      by true is = let e : n ≡ next = grind (arith, nat_tests, is) in
          absurd (stands_not_free (get state.standing (Log next)) (subst (λ k. Stands (Log k) state) e stands) free)
      by false is = refl

  one_next : (ts ls : List ℕ) (name : Name) → Stands name state → is_unused a ts ls name ≡ true → is_unused next ts ls name ≡ true
  one_next ts ls (Log n) stands is =
      both_true (not (has n ls)) (not (n == next)) (and_parts (not (has n ls)) (not (n == a)) is).0
      (not_false (n == next) (other_log n stands))
  one_next ts ls (Table n) stands is = is
  one_next ts ls (Manifest n) stands is = is

  one_sealed : (ts ls : List ℕ) (name : Name) → Stands name state → is_unused a ts ls name ≡ true
      → is_unused next ts (ls ++ a ∷ []) name ≡ true
  one_sealed ts ls (Log n) stands is =
      let parts = and_parts (not (has n ls)) (not (n == a)) is in
      both_true (not (has n (ls ++ a ∷ []))) (not (n == next))
      (ap not (has_last n a ls) ∙ neither_one (has n ls) (a == n) parts.0 (ap not (either_way a n) ∙ parts.1))
      (not_false (n == next) (other_log n stands))
  one_sealed ts ls (Table n) stands is = is
  one_sealed ts ls (Manifest n) stands is = is

  module _ (change : List ℕ → List ℕ) (one : (ts ls : List ℕ) (name : Name) → Stands name state → is_unused a ts ls name ≡ true
      → is_unused next ts (change ls) name ≡ true) where
    all_next : (ts ls : List ℕ) (names : List Name) → NamesStand names state → are_unused a ts ls names ≡ true
        → are_unused next ts (change ls) names ≡ true
    all_next ts ls [] stand is = refl
    all_next ts ls (n ∷ ns) stand is =
        let first = and_parts (is_unused a ts ls n && not (is_in (file_of n) (map file_of ns))) (are_unused a ts ls ns) is in
        let second = and_parts (is_unused a ts ls n) (not (is_in (file_of n) (map file_of ns))) first.0 in
        both_true (is_unused next ts (change ls) n && not (is_in (file_of n) (map file_of ns))) (are_unused next ts (change ls) ns)
        (both_true (is_unused next ts (change ls) n) (not (is_in (file_of n) (map file_of ns))) (one ts ls n stand.0 second.0) second.1)
        (all_next ts ls ns stand.1 first.1)

  next_off : (ls : List ℕ) → All (λ n. Stands (Log n) state) ls → has next ls ≡ false
  next_off [] all = refl
  next_off (n ∷ ls) all =
      ap (λ b. b || has next ls) (other_log n (All-head (λ k. Stands (Log k) state) n ls all))
      ∙ next_off ls (All-tail (λ k. Stands (Log k) state) n ls all)

  module _ {W : Type 0} {s : Writers W} (kept : Kept (Lent W s)) (now : DiskState)
      (still : (name : Name) → Stands name state → Stands name now) (names : NamesStand (standing_names kept.trash) state)
      (is : Standing a kept state) where
    pub next_standing : Standing next kept now
    next_standing = record {
      tables = All-weaker (λ n. Stands (Table n) state) (λ n. Stands (Table n) now) (λ n. still (Table n)) kept.tables is.tables;
      logs = All-weaker (λ n. Stands (Log n) state) (λ n. Stands (Log n) now) (λ n. still (Log n)) kept.logs is.logs;
      unused = all_next (λ ls. ls) one_next kept.tables kept.logs (standing_names kept.trash) names is.unused;
      off = ap not (next_off kept.logs is.logs);
    }

    pub sealed_standing : Stands (Log a) state → Standing next (log_sealed a kept) now
    sealed_standing here = record {
      tables = next_standing.tables;
      logs = All-push (λ n. Stands (Log n) now) kept.logs a next_standing.logs (still (Log a) here);
      unused = all_next (λ ls. ls ++ a ∷ []) one_sealed kept.tables kept.logs (standing_names kept.trash) names is.unused;
      off = ap not (has_last next a kept.logs ∙ ap (λ b. b || (a == next)) (next_off kept.logs is.logs) ∙ other_log a here);
    }

-- beside a file that didn't stand what stood stands still
pub still_but : (last : Name) (old new : Option DiskState) (before now : DiskState) → KeepsOthers last old new → old ≡ Some before
    → new ≡ Some now → IsFree last before → (name : Name) → Stands name before → Stands name now
still_but last old new before now keeps was is free name stands =
    not_free_stands (get now.standing name)
    (λ (gone : get now.standing name ≡ None). stands_not_free (get before.standing name) stands
    ((keeps before now was is name (λ (e : name ≡ last). stands_not_free (get before.standing name) stands
    (ap (get before.standing) e ∙ free))).0.0 gone))

-- ---- a log that was begun

module _ {D H W : Type 0} {s : Writers W} (g : Ghosts D) (w : Writers W) (old new : D) (before after : Core H)
    (merging : Option OpenMerge) (stock : Stock (Lent W s)) (u : InUse) (some : stock.in_use ≡ Some u) (next : ℕ)
    (number : after.front.log.number ≡ next) (untold : StaysUntold (g.told old) (g.told new))
    (keeps : KeepsOthers (Log next) (g.told old) (g.told new)) (free : ForSome (g.told old) (IsFree (Log next)))
    (is : IsThere g w old before merging stock) where
  stand : StandStill (g.told old) (g.told new)
  stand from now was told name stands = still_but (Log next) (g.told old) (g.told new) from now keeps was told (free from was) name stands

  stood : (state : DiskState) → g.told old ≡ Some state → NamesStand (standing_names stock.trash.items) state
  stood state told = waiting_stand g w old before.back.state.next_table state told stock.trash.items is.waiting

  pub there_begun : before.back.state.next_table ≤ after.back.state.next_table → LeavesLent g before.back.state.next_table old new
      → IsThere g w new after merging stock
  there_begun up leaves = record {
    waiting = λ k d within. waiting_kept g w old new untold stand before.back.state.next_table after.back.state.next_table
        (slice_index_or stock.trash.items k d) up leaves (is.waiting k d within);
    distinct = is.distinct;
    room = is.room;
    files = λ now told. let was = told_before (g.told old) (g.told new) now untold told in
        to_use after now stock (kept_in u stock) (has_some stock u some)
        (subst (λ (n : ℕ). Standing n (kept_in u stock) now) (sym number)
        (next_standing before.front.log.number next was.0 (free was.0 was.1) (kept_in u stock) now (stand was.0 now was.1 told)
        (stood was.0 was.1) (from_use before was.0 stock u some (is.files was.0 was.1))));
  }

  -- and the one that was active came into use
  pub there_sealed : (between sealed : Stock (Lent W s)) (then_merging : Option OpenMerge)
      → IsThere g w new after then_merging between → sealed.trash ≡ between.trash → sealed.trash ≡ stock.trash
      → Has sealed (log_sealed before.front.log.number (kept_in u stock))
      → ForSome (g.told old) (Stands (Log before.front.log.number)) → IsThere g w new after then_merging sealed
  there_sealed between sealed then_merging then trash same has here = record {
    waiting = subst (λ (ts : List (RetiredFile (Lent W s))). All (IsWaiting g w new after.back.state.next_table) ts)
        (sym (ap deque_items trash))
        then.waiting;
    distinct = ap (λ (ts : List (RetiredFile (Lent W s))). are_distinct (lent_in then_merging ++ numbers_left ts)) (ap deque_items trash)
        ∙ then.distinct;
    room = (let a = then.room in let b = ap deque_len trash in let c = ap deque_capacity trash in omega (arith, a, b, c));
    files = λ now told. let was = told_before (g.told old) (g.told new) now untold told in
        to_use after now sealed (log_sealed before.front.log.number (kept_in u stock)) has
        (subst (λ (n : ℕ). Standing n (log_sealed before.front.log.number (kept_in u stock)) now) (sym number)
        (sealed_standing before.front.log.number next was.0 (free was.0 was.1) (kept_in u stock) now (stand was.0 now was.1 told)
        (stood was.0 was.1) (from_use before was.0 stock u some (is.files was.0 was.1)) (here was.0 was.1)));
  }

-- ---- where the disk was left alone, but for room

pub there_quiet : {D H W : Type 0} {s : Writers W} (g : Ghosts D) (w : Writers W) (old new : D) (core : Core H) (merging : Option OpenMerge)
    (stock : Stock (Lent W s)) → g.told new ≡ g.told old → LeavesLent g core.back.state.next_table old new
    → IsThere g w old core merging stock → IsThere g w new core merging stock
there_quiet g w old new core merging stock told leaves is =
    there_kept g w old new (λ none. told ∙ none) (told_stand (g.told old) (g.told new) told) core core merging merging stock
    (record { version = refl; log = refl; tables = omega arith }) leaves refl is
