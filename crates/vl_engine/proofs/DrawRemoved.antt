-- What is kept of which files can go, where a merge's next table is made and lent, and where it isn't.
use Rattle.std.specs.Prelude.{◌≡◌, ◌≢◌, ◌≤◌, ◌<◌, ◌+◌, ◌==◌, ◌&&◌, ◌||◌, ◌++◌, ℕ, All, Bool, true, false, not, List, [], ◌∷◌, length}
use Rattle.std.specs.Prelude.{IfOk, Option, None, Some, is_some, map, refl}
use Rattle.std.specs.FinMap.{get}
use Rattle.std.specs.List.{AllByRecursion, slice_index_or}
use Rattle.std.specs.Option.{ForSome, option_map}
use Rattle.std.specs.VecDeque.{deque_capacity, deque_len}
use Rattle.std.proofs.Common.{sym, ap, subst, ◌∙◌, arith}
use Rattle.std.proofs.lemmas.Bool.Decides.{nat_tests}
use Rattle.std.proofs.lemmas.List.Elements.{All-tail}
use Rattle.vl_compact.specs.declared.files.Lent.{Lent}
use Rattle.vl_engine_laws.specs.Carries.{StaysUntold}
use Rattle.vl_engine_laws.specs.Fit.{IsFitFor}
use Rattle.vl_engine_laws.specs.declared.kept.Core.{Core}
use Rattle.vl_disk.specs.Disk.{IsChangedBy, IsFree, Stands}
use Rattle.vl_disk.specs.DiskState.{DiskState}
use Rattle.vl_disk.specs.declared.name.Name.TheVariants.{Log, Table}
use Rattle.vl_disk.specs.declared.name.Name.{Name}
use Rattle.vl_disk.specs.declared.watched.Watched.{Ghosts}
use Rattle.vl_disk.specs.declared.writer.Writer.{Ghosts as Writers}
use Rattle.vl_steps.specs.laws.DrawFits.{lent_elsewhere, none_has}
use Rattle.vl_space.specs.laws.There.Kept.{KnowsSame, StandStill, in_use_kept, stands_not_free, waiting_kept}
use Rattle.vl_steps.specs.Drawing.{IsLentMore, IsSameMerge, drawn_core, lent_new}
use Rattle.vl_engine_laws.specs.Lent.{AreLent, LeavesLent}
use Rattle.vl_space.specs.Removing.{AreInUse, HasInUse, IsLeft, IsStockOf, IsThere, IsWaiting, Removes, UsesThoseOf}
use Rattle.vl_space.specs.Removing.{all_retired, are_distinct, are_unused, is_none_of, logs_in_use, numbers_left}
use Rattle.vl_engine_laws.specs.Lent.{lent_in}
use Rattle.vl_space.specs.Removing.{standing_names, tables_in_use, with_number}
use Rattle.vl_engine_laws.specs.declared.open.OpenMerge.{OpenMerge}
use Rattle.vl_space.specs.declared.kept.Removing.{Removing}
use Rattle.vl_engine_model.specs.Jobs.{lent_numbers}
use Rattle.vl_engine_model.specs.Rulings.Fresh.{drawn, lent_to}
use Rattle.vl_engine_model.specs.declared.job.OpenJob.{OpenJob}
use Rattle.vl_engine_model.specs.declared.layout.Layout.{Layout}
use Rattle.vl_model.specs.Numbers.{has}
use Rattle.vl_pins.specs.Pins.{ArePinsOf}
use Rattle.vl_pins.specs.declared.in_use.InUse.{InUse}
use Rattle.vl_pins.specs.declared.pins.Pins.{Pins}
use Rattle.vl_pins.specs.declared.retired_file.RetiredFile.{RetiredFile}
use Rattle.vl_pins.specs.declared.stock.Stock.{Stock}
use Rattle.vl_seglog.specs.declared.sealed.SealedLog.{SealedLog}

-- The same files are in use and wait; there is room for others, maybe.
pub record IsRoomier {L : Type 0} (old new : Stock L) : Type 0 where
  pub in_use : new.in_use ≡ old.in_use
  pub trash : new.trash.items ≡ old.trash.items
  pub capacity : deque_capacity old.trash ≤ deque_capacity new.trash

pub same_long : {L : Type 0} (old new : Stock L) → IsRoomier old new → deque_len new.trash ≡ deque_len old.trash
same_long old new roomy =
    let a = new.trash.ok.0 in
    let b = old.trash.ok.0 in
    let c = ap length roomy.trash in
    omega (arith, a, b, c)

-- ---- what the layout has

-- the numbers of tables, and the open job, don't say which files are in use
uses_then : {H : Type 0} (logs : List (SealedLog H)) (in_use : Option InUse) (l : Layout) (next : ℕ) (job : Option OpenJob)
    → UsesThoseOf logs in_use l → UsesThoseOf logs in_use (record l { next_table = next; job = job })
uses_then logs None l next job uses = uses
uses_then logs (Some in_use) l next job uses = record { tables = uses.tables; logs = uses.logs }

stock_then : {H L : Type 0} (core after : Core H) (old new : Stock L) (l : Layout) (next : ℕ) (job : Option OpenJob)
    → after.version ≡ core.version → IsRoomier old new → deque_len new.trash + length (lent_numbers job) ≤ deque_capacity new.trash
    → IsStockOf core old l → IsStockOf after new (record l { next_table = next; job = job })
stock_then {H} core after old new l next job version roomy room is = record {
  in_use = subst (λ (o : Option InUse). UsesThoseOf after.version.behind.logs.items o (record l { next_table = next; job = job }))
      (sym roomy.in_use)
      (uses_then after.version.behind.logs.items old.in_use l next job
      (subst (λ (ls : List (SealedLog H)). UsesThoseOf ls old.in_use l) (λ i. (sym version i).behind.logs.items) is.in_use));
  trash = ap all_retired roomy.trash ∙ is.trash;
  aged = is.aged;
  room = room;
}

-- The merge's table is lent.
opens_long : (merging : Option OpenMerge) (job : Option OpenJob) (number : ℕ) → lent_in merging ≡ lent_numbers job
    → length (lent_numbers (lent_to number job)) ≤ length (lent_in merging) + 1
opens_long merging None number same = omega arith
opens_long merging (Some job) number same =
    let a = ap length same in
    let b = length_more job.lent number in
    omega (arith, a, b)
  where
    length_more : (ns : List ℕ) (n : ℕ) → length (ns ++ n ∷ []) ≡ length ns + 1
    length_more [] n = refl
    length_more (m ∷ ns) n = let later = length_more ns n in omega (arith, later)

pin_lent : (number : ℕ) (o : Option OpenJob)
    → option_map (λ (j : OpenJob). j.pin.epoch) (lent_to number o) ≡ option_map (λ (j : OpenJob). j.pin.epoch) o
pin_lent number None = refl
pin_lent number (Some job) = refl

module _ {H L : Type 0} (core : Core H) (l : Layout) (old new : Removing L) (pins : new.pins ≡ old.pins)
    (removes : Removes core old l) (roomy : IsRoomier old.stock new.stock) where
  -- It wasn't made, for want of memory or otherwise.
  pub removes_roomier : Removes core new l
  removes_roomier = record {
    pins = subst (λ (p : Pins). ArePinsOf p l) (sym pins) removes.pins;
    stock = λ running. let is = removes.stock running in
        stock_then core core old.stock new.stock l l.next_table l.job refl roomy
        (let a = is.room in let b = roomy.capacity in let c = same_long old.stock new.stock roomy in omega (arith, a, b, c)) is;
  }

  pub removes_drawn : (merging : Option OpenMerge) → lent_in merging ≡ lent_numbers l.job
      → deque_len new.stock.trash + length (lent_in merging) + 1 ≤ deque_capacity new.stock.trash
      → Removes (drawn_core core) new (drawn l)
  removes_drawn merging opens room = record {
    pins = subst (λ (p : Pins). ArePinsOf p (drawn l)) (sym pins) (record {
      live = removes.pins.live;
      merge = removes.pins.merge ∙ sym (pin_lent l.next_table l.job);
      pass = removes.pins.pass;
      last = removes.pins.last;
    });
    stock = λ running. stock_then core (drawn_core core) old.stock new.stock l (l.next_table + 1) (lent_to l.next_table l.job) refl roomy
        (let a = opens_long merging l.job l.next_table opens in omega (arith, a, room)) (removes.stock running);
  }

-- ---- what the disk has

-- also where there is room for others
pub there_roomier : {D H W : Type 0} {s : _} (g : Ghosts D) (w : Writers W) (disk : D) (core : Core H) (merging : Option OpenMerge)
    (old new : Stock (Lent W s)) → IsRoomier old new → IsThere g w disk core merging old → IsThere g w disk core merging new
there_roomier {W = W} {s = s} g w disk core merging old new roomy is = record {
  waiting = subst (All (IsWaiting g w disk core.back.state.next_table)) (sym roomy.trash) is.waiting;
  distinct = ap (λ (fs : List (RetiredFile (Lent W s))). are_distinct (lent_in merging ++ numbers_left fs)) roomy.trash ∙ is.distinct;
  room = let a = is.room in let b = roomy.capacity in let c = same_long old new roomy in omega (arith, a, b, c);
  files = λ now told. let has = is.files now told in record {
    tables = subst (λ (o : Option InUse). All (λ n. Stands (Table n) now) (tables_in_use core.version o)) (sym roomy.in_use) has.tables;
    logs = subst (λ (o : Option InUse). All (λ n. Stands (Log n) now) (logs_in_use core.version o)) (sym roomy.in_use) has.logs;
    unused = (λ i. are_unused core.front.log.number (tables_in_use core.version (roomy.in_use i))
        (logs_in_use core.version (roomy.in_use i)) (standing_names (roomy.trash i))) ∙ has.unused;
    active = (λ i. is_none_of core.front.log.number (roomy.in_use i)) ∙ has.active;
  };
}

-- What stood stands where the file of the next table is made and lent, since that one didn't.
pub stand_lent : {H : Type 0} (core : Core H) (old mid new : Option DiskState) → mid ≡ old
    → IsChangedBy (lent_new (Table core.back.state.next_table)) mid new → core.front.halted ≡ None → ForSome old (IsFitFor core)
    → StandStill old new
stand_lent core old mid new same changed running fit before now was is other stands =
    subst (Stands other) (some_is (lent_new (Table core.back.state.next_table) before) now
    (sym (ap (option_map (lent_new (Table core.back.state.next_table))) (same ∙ was)) ∙ sym changed ∙ is))
    (ap is_some ((lent_elsewhere core before (fit before was)).standing other apart) ∙ stands)
  where
    some_is : (a b : DiskState) → Some a ≡ Some b → a ≡ b
    some_is a b e = cc

    apart : other ≢ Table core.back.state.next_table
    apart named = stands_not_free (get before.standing other) stands
        (ap (get before.standing) named ∙ ((fit before was).steps running).tables core.back.state.next_table (omega arith))

-- A number that is none of these.
has_more : (x n : ℕ) (xs ys : List ℕ) → (n == x) ≡ false → has x ((xs ++ n ∷ []) ++ ys) ≡ has x (xs ++ ys)
has_more x n [] ys apart = ap (λ (b : Bool). b || has x ys) apart
has_more x n (m ∷ xs) ys apart = ap (λ (b : Bool). (m == x) || b) (has_more x n xs ys apart)

distinct_more : (n : ℕ) (xs ys : List ℕ) → has n xs ≡ false → has n ys ≡ false → are_distinct (xs ++ ys) ≡ true
    → are_distinct ((xs ++ n ∷ []) ++ ys) ≡ true
distinct_more n [] ys none other is = ap (λ (b : Bool). not b && are_distinct ys) other ∙ is
distinct_more n (x ∷ xs) ys none other is =
    let parts = neither (x == n) (has n xs) none in
    let both = and_parts (not (has x (xs ++ ys))) (are_distinct (xs ++ ys)) is in
    ap (λ (b : Bool). not b && are_distinct ((xs ++ n ∷ []) ++ ys)) (has_more x n xs ys (turned x n parts.0))
    ∙ ap (λ (b : Bool). b && are_distinct ((xs ++ n ∷ []) ++ ys)) both.0
    ∙ distinct_more n xs ys parts.1 other both.1
  where
    neither : (a b : Bool) → (a || b) ≡ false → (a ≡ false) × (b ≡ false)
    neither true b is = absurd cc
    neither false b is = (refl, is)

    and_parts : (a b : Bool) → (a && b) ≡ true → (a ≡ true) × (b ≡ true)
    and_parts true b is = (refl, is)
    and_parts false b is = absurd cc

    turned : (a b : ℕ) → (a == b) ≡ false → (b == a) ≡ false
    turned a b is = grind (arith, nat_tests, is)

-- the next number is none of those that were lent
next_lent : {D : Type 0} (g : Ghosts D) (disk : D) (next : ℕ) (merging : Option OpenMerge) → AreLent g disk next merging
    → has next (lent_in merging) ≡ false
next_lent g disk next None lent = refl
next_lent g disk next (Some o) lent = none_has next o.lent.items (λ k d within. (lent o refl k d within).drawn)

module _ {D W : Type 0} {s : _} (g : Ghosts D) (w : Writers W) (disk : D) (next : ℕ) where
  next_left : (trash : List (RetiredFile (Lent W s))) → All (IsWaiting g w disk next) trash → has next (numbers_left trash) ≡ false
  next_left [] waiting = refl
  next_left (file ∷ trash) waiting =
      by file.lent refl (next_left trash (All-tail (IsWaiting g w disk next) file trash waiting))
    where
      by : (o : Option (Lent W s)) → file.lent ≡ o → has next (numbers_left trash) ≡ false
          → has next (with_number o (numbers_left trash)) ≡ false
      by None none later = later
      by (Some x) some later =
          let drawn = ((waiting 0 file (omega arith)).left x some).lent.drawn in
          let apart : (x.number == next) ≡ false = grind (arith, nat_tests, drawn) in
          ap (λ (b : Bool). b || has next (numbers_left trash)) apart ∙ later

-- The file of the next table was made and lent to the merge.
pub there_drawn : {D H W : Type 0} {s : _} (g : Ghosts D) (w : Writers W) (old new : D) (core : Core H)
    (merging now_merging : Option OpenMerge)
    (was now : Stock (Lent W s)) → StaysUntold (g.told old) (g.told new) → StandStill (g.told old) (g.told new)
    → LeavesLent g core.back.state.next_table old new → AreLent g old core.back.state.next_table merging
    → lent_in now_merging ≡ lent_in merging ++ core.back.state.next_table ∷ [] → IsRoomier was now
    → deque_len now.trash + length (lent_in merging) + 1 ≤ deque_capacity now.trash
    → IsThere g w old core merging was → IsThere g w new (drawn_core core) now_merging now
there_drawn {H = H} {W = W} {s = s} g w old new core merging now_merging was now untold stand leaves lent more roomy room there =
    let next = core.back.state.next_table in
    let is = there_roomier g w old core merging was now roomy there in
    record {
      waiting = λ k d within. waiting_kept g w old new untold stand next (next + 1) (slice_index_or now.trash.items k d) (omega arith)
          leaves
          (is.waiting k d within);
      distinct = ap (λ (ns : List ℕ). are_distinct (ns ++ numbers_left now.trash.items)) more
          ∙ distinct_more next (lent_in merging) (numbers_left now.trash.items) (next_lent g old next merging lent)
          (next_left g w old next now.trash.items is.waiting) is.distinct;
      room = let a = ap length more in let b = length_more (lent_in merging) next in omega (arith, a, b, room);
      files = in_use_kept g w old new untold stand core (drawn_core core) now
          (record { version = refl; log = refl; tables = omega arith }) is.files;
    }
  where
    length_more : (ns : List ℕ) (n : ℕ) → length (ns ++ n ∷ []) ≡ length ns + 1
    length_more [] n = refl
    length_more (m ∷ ns) n = let later = length_more ns n in omega (arith, later)

-- so it is with a merge to which a file more was lent
pub lent_more_in : (merging now : Option OpenMerge) (number : ℕ) → IsLentMore merging now number
    → lent_in now ≡ lent_in merging ++ number ∷ []
lent_more_in merging now number more =
    ap lent_in more.is_open ∙ more.lent ∙ ap (λ (ns : List ℕ). ns ++ number ∷ []) (sym (ap lent_in more.was_open))

pub lent_same_in : (merging now : Option OpenMerge) → IsSameMerge merging now → lent_in now ≡ lent_in merging
lent_same_in merging now same = ap lent_in same.is_open ∙ same.lent ∙ sym (ap lent_in same.was_open)
