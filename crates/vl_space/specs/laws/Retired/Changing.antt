-- What becomes of the files that a stock has, where several are changed one after the other.
use Rattle.std.proofs.Common.{◌≡◌, ℕ, zero, suc, ◌+◌, ◌-◌, ◌^◌, ◌≤◌, ◌<◌, ◌⊎◌, inl, inr, Bool, true, false, cond, not, ◌||◌, List}
use Rattle.std.proofs.Common.{[], ◌∷◌, ◌++◌, length, map}
use Rattle.std.proofs.Common.{refl, ap, sym, ◌∙◌, subst, arith, append_assoc, length-append, take}
use Rattle.std.proofs.Props.{props}
use Rattle.std.proofs.lemmas.Bool.Decides.{nat_tests}
use Rattle.std.proofs.lemmas.List.{length-map, take_all, take_at, take_more}
use Rattle.std.specs.Prelude.{◌==◌, nat_lt, Option, Some, None, Result, Ok, Err, IsSome, OnErr, OnOk, is_some, slice_get}
use Rattle.std.specs.List.{filter}
use Rattle.std.specs.VecDeque.{deque_items, deque_len, deque_capacity}
use Rattle.vl_compact.specs.declared.files.Lent.{Lent}
use Rattle.vl_disk.specs.declared.name.Name.{Name}
use Rattle.vl_disk.specs.declared.name.Name.TheVariants as names
use Rattle.vl_engine_laws.specs.declared.kept.Core.{Core}
use Rattle.vl_disk.specs.declared.writer.Writer.{Ghosts as Writers}
use Rattle.vl_space.specs.Retiring.{AreUsed, IsReadied, LeavesFiles, StaysUsed, all_left}
use Rattle.vl_space.specs.Retiring.{logs_kept, retiring, used_by, used_in}
use Rattle.vl_model.specs.Numbers.{has}
use Rattle.vl_pins.specs.Files.{BecomesBy, Has, HasRoom, Kept, gone_at, kept_in, left_at, log_retired, logs_retired, put_if, table_retired}
use Rattle.vl_pins.specs.Files.{tables_retired, with_tables}
use Rattle.vl_pins.specs.InUse.{but}
use Rattle.vl_pins.specs.declared.in_use.InUse.{InUse}
use Rattle.vl_pins.specs.declared.retired_file.RetiredFile.{RetiredFile}
use Rattle.vl_pins.specs.declared.stock.Stock.{Stock}
use Rattle.vl_seglog.specs.declared.sealed.SealedLog.{SealedLog}
use Rattle.vl_table.specs.Tables.{number_of}
use Rattle.vl_version.specs.levels.LevelsLooked.{tables_of}

-- ---- numbers

neither : (a b : Bool) → (a || b) ≡ false → (a ≡ false) × (b ≡ false)
neither true b is = absurd (let no : true ≡ false = is in cc)
neither false b is = (refl, is)

equal : (a b : ℕ) → (a == b) ≡ true → a ≡ b
equal a b is = grind (arith, nat_tests, is)

pub nothing_behind : {X : Type 0} (xs : List X) → xs ++ [] ≡ xs
nothing_behind [] = refl
nothing_behind (x ∷ xs) = ap (λ ys. x ∷ ys) (nothing_behind xs)

pub map-both : {X Y : Type 0} (f : X → Y) (xs ys : List X) → map f (xs ++ ys) ≡ map f xs ++ map f ys
map-both f [] ys = refl
map-both f (x ∷ xs) ys = ap (λ zs. f x ∷ zs) (map-both f xs ys)

pub filter_both : {X : Type 0} (p : X → Bool) (xs ys : List X) → filter p (xs ++ ys) ≡ filter p xs ++ filter p ys
filter_both p [] ys = refl
filter_both p (x ∷ xs) ys = by (p x) (filter_both p xs ys)
  where
    by : (b : Bool) → filter p (xs ++ ys) ≡ filter p xs ++ filter p ys
        → cond b (x ∷ filter p (xs ++ ys)) (filter p (xs ++ ys)) ≡ cond b (x ∷ filter p xs) (filter p xs) ++ filter p ys
    by true later = ap (λ zs. x ∷ zs) later
    by false later = later

-- where a number isn't there, taking it out changes nothing,
pub but_absent : (n : ℕ) (ns : List ℕ) → has n ns ≡ false → but n ns ≡ ns
but_absent n [] none = refl
but_absent n (m ∷ ns) none =
    let parts = neither (m == n) (has n ns) none in
    ap (λ b. cond (not b) (m ∷ but n ns) (but n ns)) parts.0 ∙ ap (λ xs. m ∷ xs) (but_absent n ns parts.1)

-- and where others are taken out it still isn't.
pub still_absent : (n m : ℕ) (ns : List ℕ) → has n ns ≡ false → has n (but m ns) ≡ false
still_absent n m [] none = refl
still_absent n m (x ∷ ns) none =
    let parts = neither (x == n) (has n ns) none in
    by (x == m) parts.0 (still_absent n m ns parts.1)
  where
    by : (b : Bool) → (x == n) ≡ false → has n (but m ns) ≡ false → has n (cond (not b) (x ∷ but m ns) (but m ns)) ≡ false
    by true other later = later
    by false other later = ap (λ c. c || has n (but m ns)) other ∙ later

-- it isn't there then
pub taken_out : (n : ℕ) (ns : List ℕ) → has n (but n ns) ≡ false
taken_out n [] = refl
taken_out n (m ∷ ns) = by (m == n) refl (taken_out n ns)
  where
    by : (b : Bool) → (m == n) ≡ b → has n (but n ns) ≡ false → has n (cond (not b) (m ∷ but n ns) (but n ns)) ≡ false
    by true is later = later
    by false is later = ap (λ c. c || has n (but n ns)) is ∙ later

-- whether it is taken out before a test or behind it
pub filter_but : (p : ℕ → Bool) (n : ℕ) (ns : List ℕ) → filter p (but n ns) ≡ but n (filter p ns)
filter_but p n [] = refl
filter_but p n (m ∷ ns) = by (m == n) (p m) refl refl (filter_but p n ns)
  where
    by : (a b : Bool) → (m == n) ≡ a → p m ≡ b → filter p (but n ns) ≡ but n (filter p ns)
        → filter p (cond (not a) (m ∷ but n ns) (but n ns)) ≡ but n (cond b (m ∷ filter p ns) (filter p ns))
    by true true is here later = later ∙ sym (ap (λ c. cond (not c) (m ∷ but n (filter p ns)) (but n (filter p ns))) is)
    by true false is here later = later
    by false true is here later =
        ap (λ c. cond c (m ∷ filter p (but n ns)) (filter p (but n ns))) here
        ∙ ap (λ xs. m ∷ xs) later
        ∙ sym (ap (λ c. cond (not c) (m ∷ but n (filter p ns)) (but n (filter p ns))) is)
    by false false is here later = ap (λ c. cond c (m ∷ filter p (but n ns)) (filter p (but n ns))) here ∙ later

-- what passes a test that none of these passes isn't among them
pub not_among : (p : ℕ → Bool) (n : ℕ) (ns : List ℕ) → filter p ns ≡ [] → p n ≡ true → has n ns ≡ false
not_among p n [] none passes = refl
not_among p n (m ∷ ns) none passes = by (m == n) (p m) refl refl none (λ less. not_among p n ns less passes)
  where
    by : (a b : Bool) → (m == n) ≡ a → p m ≡ b → cond b (m ∷ filter p ns) (filter p ns) ≡ []
        → (filter p ns ≡ [] → has n ns ≡ false) → (a || has n ns) ≡ false
    by a true is here some later = absurd (let clash : m ∷ filter p ns ≡ [] = some in cc)
    by true false is here some later =
        absurd (let clash : true ≡ false = sym passes ∙ ap p (sym (equal m n is)) ∙ here in cc)
    by false false is here some later = later some

pub but_shorter : (n : ℕ) (ns : List ℕ) → length (but n ns) ≤ length ns
but_shorter n [] = omega arith
but_shorter n (m ∷ ns) = by (m == n) (but_shorter n ns)
  where
    by : (b : Bool) → length (but n ns) ≤ length ns → length (cond (not b) (m ∷ but n ns) (but n ns)) ≤ length (m ∷ ns)
    by true less = omega (arith, less)
    by false less = omega (arith, less)

-- ---- a place among numbers

-- the numbers about a place, and the one there
pub record IsSplit (ns : List ℕ) (at n : ℕ) : Type 0 where
  pub before : List ℕ
  pub behind : List ℕ
  pub are : ns ≡ before ++ n ∷ behind
  pub long : length before ≡ at

some_same : (a b : ℕ) → Some a ≡ Some b → a ≡ b
some_same a b e = cc

pub split_at : (ns : List ℕ) (at n : ℕ) → slice_get ns at ≡ Some n → IsSplit ns at n
split_at [] at n is = absurd (let no : None ≡ Some n = is in cc)
split_at (m ∷ ns) zero n is =
    record { before = []; behind = ns; are = ap (λ x. x ∷ ns) (some_same m n is); long = refl }
split_at (m ∷ ns) (suc at) n is =
    let later = split_at ns at n is in
    let long = later.long in
    record {
      before = m ∷ later.before;
      behind = later.behind;
      are = ap (λ xs. m ∷ xs) later.are;
      long = omega (arith, long);
    }

pub past_all : (ns : List ℕ) (at : ℕ) → slice_get ns at ≡ None → length ns ≤ at
past_all [] at is = omega arith
past_all (m ∷ ns) zero is = absurd (let no : Some m ≡ None = is in cc)
past_all (m ∷ ns) (suc at) is = let later = past_all ns at is in omega (arith, later)

module _ (p : ℕ → Bool) (ns : List ℕ) (at n : ℕ) (there : slice_get ns at ≡ Some n) (none : filter p (take at ns) ≡ []) where
  split : IsSplit ns at n
  split = split_at ns at n there

  none_before : filter p split.before ≡ []
  none_before = ap (filter p) (sym (take_at split.before (n ∷ split.behind) at split.long) ∙ ap (take at) (sym split.are)) ∙ none

  -- where it doesn't pass the test, none up to it does
  pub past_more : p n ≡ false → filter p (take (at + 1) ns) ≡ []
  past_more fails =
      ap (filter p) (ap (take (at + 1)) (split.are ∙ sym (append_assoc split.before (n ∷ []) split.behind))
      ∙ take_at (split.before ++ n ∷ []) split.behind (at + 1)
      (let long = split.long in let both = length-append split.before (n ∷ []) in omega (arith, long, both)))
      ∙ filter_both p split.before (n ∷ [])
      ∙ ap (λ xs. xs ++ filter p (n ∷ [])) none_before
      ∙ ap (λ c. cond c (n ∷ []) []) fails

  -- where it does, it is taken out, and the others are as they are
  out : p n ≡ true → but n ns ≡ split.before ++ but n split.behind
  out passes =
      let here : (n == n) ≡ true = grind (arith, nat_tests) in
      ap (but n) split.are ∙ filter_both (λ (m : ℕ). not (m == n)) split.before (n ∷ split.behind)
      ∙ ap (λ xs. xs ++ but n (n ∷ split.behind)) (but_absent n split.before (not_among p n split.before none_before passes))
      ∙ ap (λ c. split.before ++ cond (not c) (n ∷ but n split.behind) (but n split.behind)) here

  pub past_still : p n ≡ true → filter p (take at (but n ns)) ≡ []
  past_still passes =
      ap (filter p) (ap (take at) (out passes) ∙ take_at split.before (but n split.behind) at split.long) ∙ none_before

  pub fewer_then : p n ≡ true → length (but n ns) + 1 ≤ length ns
  fewer_then passes =
      let a = ap length (out passes) in
      let b = length-append split.before (but n split.behind) in
      let c = ap length split.are in
      let d = length-append split.before (n ∷ split.behind) in
      let e = but_shorter n split.behind in
      omega (arith, a, b, c, d, e)

-- ---- what a stock has

module _ {L : Type 0} where
  pub same_logs : (stock : Stock L) (kept : Kept L) → Has stock kept → logs_kept stock ≡ kept.logs
  same_logs stock kept has =
      ap (λ (o : Option InUse). logs_kept (record stock { in_use = o })) has.is_some ∙ sym (ap (λ (k : Kept L). k.logs) has.kept_are)

  pub has_some : (stock : Stock L) (u : InUse) → stock.in_use ≡ Some u → Has stock (kept_in u stock)
  has_some stock u is = record { in_use = u; is_some = is; kept_are = refl }

  -- It has some where one of its logs is found.
  pub has_found : (stock : Stock L) (at n : ℕ) → slice_get (logs_kept stock) at ≡ Some n → (u : InUse) × (stock.in_use ≡ Some u)
  has_found stock at n there = by stock.in_use refl
    where
      by : (o : Option InUse) → stock.in_use ≡ o → (u : InUse) × (stock.in_use ≡ Some u)
      by None none =
          absurd (let no : None ≡ Some n = ap (λ (o : Option InUse). slice_get (logs_kept (record stock { in_use = o })) at) (sym none)
          ∙ there in cc)
      by (Some u) some = (u, some)

-- ---- several files, one after the other

module _ {L : Type 0} (version : ℕ) where
  pub put_none : (was : Bool) (name : Name) (trash : List (RetiredFile L)) → was ≡ false → put_if was version name trash ≡ trash
  put_none was name trash is = ap (λ (b : Bool). cond b (trash ++ gone_at version name ∷ []) trash) is

  -- a log that isn't in use stays as it is
  pub log_absent : (n : ℕ) (kept : Kept L) → has n kept.logs ≡ false → log_retired version n kept ≡ kept
  log_absent n kept none = λ i. record {
    tables = kept.tables;
    logs = but_absent n kept.logs none i;
    trash = put_none (has n kept.logs) (names.Log n) kept.trash none i;
  }

  -- so that it can be left out of those that are retired
  pub logs_but : (n : ℕ) (ns : List ℕ) (kept : Kept L) → has n kept.logs ≡ false
      → logs_retired version (but n ns) kept ≡ logs_retired version ns kept
  logs_but n [] kept none = refl
  logs_but n (m ∷ ns) kept none = by (m == n) refl (logs_but n ns kept none)
      (logs_but n ns (log_retired version m kept) (still_absent n m kept.logs none))
    where
      by : (b : Bool) → (m == n) ≡ b → logs_retired version (but n ns) kept ≡ logs_retired version ns kept
          → logs_retired version (but n ns) (log_retired version m kept) ≡ logs_retired version ns (log_retired version m kept)
          → logs_retired version (cond (not b) (m ∷ but n ns) (but n ns)) kept ≡ logs_retired version ns (log_retired version m kept)
      by true is same later =
          same ∙ ap (logs_retired version ns) (sym (log_absent m kept (ap (λ x. has x kept.logs) (equal m n is) ∙ none)))
      by false is same later = later

  module _ (idle : ℕ → Bool) where
    -- What is retired in the end where the first of them was.
    pub retiring_first : (kept : Kept L) (at n : ℕ) → slice_get kept.logs at ≡ Some n → filter idle (take at kept.logs) ≡ []
        → idle n ≡ true → retiring version idle (log_retired version n kept) ≡ retiring version idle kept
    retiring_first kept at n there none passes =
        let next = log_retired version n kept in
        let split = split_at kept.logs at n there in
        let none_before = ap (filter idle) (sym (take_at split.before (n ∷ split.behind) at split.long)
        ∙ ap (take at) (sym split.are)) ∙ none in
        let list : filter idle kept.logs ≡ n ∷ filter idle split.behind =
        ap (filter idle) split.are ∙ filter_both idle split.before (n ∷ split.behind)
        ∙ ap (λ xs. xs ++ filter idle (n ∷ split.behind)) none_before
        ∙ ap (λ c. cond c (n ∷ filter idle split.behind) (filter idle split.behind)) passes in
        ap (λ xs. logs_retired version xs next) (filter_but idle n kept.logs)
        ∙ logs_but n (filter idle kept.logs) next (taken_out n kept.logs)
        ∙ ap (λ xs. logs_retired version xs next) list
        ∙ ap (logs_retired version (filter idle split.behind)) (log_absent n next (taken_out n kept.logs))
        ∙ sym (ap (λ xs. logs_retired version xs kept) list)

    -- The logs up to a place were looked at: none of them is idle, and what is left to do is all that there was to do.
    pub record Looks (at : ℕ) (stock : Stock L) (kept : Kept L) : Type 0 where
      pub now : Kept L
      pub has : Has stock now
      pub past : filter idle (take at now.logs) ≡ []
      pub same : retiring version idle now ≡ retiring version idle kept

    pub looks_first : (stock : Stock L) (kept : Kept L) → Has stock kept → Looks 0 stock kept
    looks_first stock kept has = record { now = kept; has = has; past = refl; same = refl }

    pub looks_past : (at n : ℕ) (stock : Stock L) (kept : Kept L) → slice_get (logs_kept stock) at ≡ Some n → idle n ≡ false
        → Looks at stock kept → Looks (at + 1) stock kept
    looks_past at n stock kept there fails is = record {
      now = is.now;
      has = is.has;
      past = past_more idle is.now.logs at n (ap (λ ns. slice_get ns at) (sym (same_logs stock is.now is.has)) ∙ there) is.past fails;
      same = is.same;
    }

    pub looks_retired : (at n : ℕ) (old new : Stock L) (kept : Kept L) → slice_get (logs_kept old) at ≡ Some n → idle n ≡ true
        → BecomesBy (log_retired version n) old new → Looks at old kept → Looks at new kept
    looks_retired at n old new kept there passes becomes is =
        let at_it = ap (λ ns. slice_get ns at) (sym (same_logs old is.now is.has)) ∙ there in record {
          now = log_retired version n is.now;
          has = becomes is.now is.has;
          past = past_still idle is.now.logs at n at_it is.past passes;
          same = retiring_first is.now at n at_it is.past passes ∙ is.same;
        }

    pub looks_done : (at : ℕ) (stock : Stock L) (kept : Kept L) → slice_get (logs_kept stock) at ≡ None → Looks at stock kept
        → Has stock (retiring version idle kept)
    looks_done at stock kept there is =
        let ends = past_all is.now.logs at (ap (λ ns. slice_get ns at) (sym (same_logs stock is.now is.has)) ∙ there) in
        let none : filter idle is.now.logs ≡ [] = ap (filter idle) (sym (take_all at is.now.logs ends)) ∙ is.past in
        subst (Has stock) (sym (ap (λ ns. logs_retired version ns is.now) none) ∙ is.same) is.has

    -- fewer are left to look at
    pub fewer_left : (at n : ℕ) (old new : Stock L) → slice_get (logs_kept old) at ≡ Some n
        → BecomesBy (log_retired version n) old new → (kept : Kept L) → Looks at old kept → idle n ≡ true
        → length (logs_kept new) + 1 ≤ length (logs_kept old)
    fewer_left at n old new there becomes kept is passes =
        let at_it = ap (λ ns. slice_get ns at) (sym (same_logs old is.now is.has)) ∙ there in
        let a = ap length (same_logs old is.now is.has) in
        let b = ap length (same_logs new (log_retired version n is.now) (becomes is.now is.has)) in
        let c = fewer_then idle is.now.logs at n at_it is.past passes in
        omega (arith, a, b, c)

  -- one table more
  pub retired_more : (ns : List ℕ) (n : ℕ) (kept : Kept L)
      → tables_retired version (ns ++ n ∷ []) kept ≡ table_retired version n (tables_retired version ns kept)
  retired_more [] n kept = refl
  retired_more (m ∷ ns) n kept = retired_more ns n (table_retired version m kept)

module _ {L : Type 0} where
  pub tables_more : (ns : List ℕ) (n : ℕ) (kept : Kept L)
      → with_tables (ns ++ n ∷ []) kept ≡ with_tables (n ∷ []) (with_tables ns kept)
  tables_more ns n kept = ap (λ ts. record kept { tables = ts }) (sym (append_assoc kept.tables ns (n ∷ [])))

  pub tables_none : (kept : Kept L) → kept ≡ with_tables [] kept
  tables_none kept = ap (λ ts. record kept { tables = ts }) (sym (nothing_behind kept.tables))

  pub becomes_then : (f g h : Kept L → Kept L) (a b c : Stock L) → ((kept : Kept L) → g (f kept) ≡ h kept)
      → BecomesBy f a b → BecomesBy g b c → BecomesBy h a c
  becomes_then f g h a b c same first second kept has = subst (Has c) (same kept) (second (f kept) (first kept has))

  pub becomes_same : (f : Kept L → Kept L) (a : Stock L) → ((kept : Kept L) → kept ≡ f kept) → BecomesBy f a a
  becomes_same f a same kept has = subst (Has a) (same kept) has

-- ---- what is kept to begin with

-- the place of a log is within them,
pub past_place : {L : Type 0} (stock : Stock L) (at n : ℕ) → slice_get (logs_kept stock) at ≡ Some n → at + 1 ≤ length (logs_kept stock)
past_place stock at n there =
    let split = split_at (logs_kept stock) at n there in
    let long = split.long in
    let are = ap length split.are in
    let both = length-append split.before (n ∷ split.behind) in
    omega (arith, long, are, both)

-- and one that an index has
pub place_fits : {L : Type 0} (stock : Stock L) (at n : ℕ) → slice_get (logs_kept stock) at ≡ Some n → at + 1 < 2 ^ 64
place_fits stock at n there =
    let found = has_found stock at n there in
    let split = split_at (logs_kept stock) at n there in
    let long = split.long in
    let are = ap length (sym (ap (λ (o : Option InUse). logs_kept (record stock { in_use = o })) found.1) ∙ split.are) in
    let both = length-append split.before (n ∷ split.behind) in
    let len = found.0.logs.ok.0 in
    let small = found.0.logs.small in
    omega (arith, long, are, both, len, small)

module _ {H L : Type 0} (core : Core H) where
  pub has_used : (stock : Stock L) (u : InUse) → stock.in_use ≡ Some u → Has stock (used_in core stock)
  has_used stock u is = record { in_use = u; is_some = is; kept_are = ap (used_by core stock.trash.items) is }

  pub stays_itself : (stock : Stock L) → StaysUsed core stock stock
  stays_itself stock = record { trash = refl; capacity = omega arith; used = by stock.in_use refl }
    where
      by : (o : Option InUse) → stock.in_use ≡ o → AreUsed core stock stock
      by None is = inl (is, is)
      by (Some u) is = inr (has_used stock u is)

module _ {H L : Type 0} (core : Core H) (old mid new : Stock L) (trash : mid.trash ≡ old.trash) (has : Has mid (used_in core old))
    (kept : BecomesBy (λ kept. kept) mid new) (items : new.trash.items ≡ mid.trash.items)
    (capacity : deque_capacity mid.trash ≤ deque_capacity new.trash) where
  more_room : deque_capacity old.trash ≤ deque_capacity new.trash
  more_room = let same = ap deque_capacity trash in omega (arith, capacity, same)

  items_same : new.trash.items ≡ old.trash.items
  items_same = items ∙ ap deque_items trash

  pub is_readied : (tables lent : ℕ) → HasRoom new tables 1 lent → IsReadied core old new tables lent
  is_readied tables lent room =
      record { has = kept (used_in core old) has; trash = items_same; capacity = more_room; room = room }

  pub is_used : StaysUsed core old new
  is_used = record { trash = items_same; capacity = more_room; used = inr (kept (used_in core old) has) }

pub on_ok_with : {X E : Type 0} (r : Result X E) (P Q : Type 0) → (P → Q) → OnOk r P → OnOk r Q
on_ok_with (Ok x) P Q gives is = gives is
on_ok_with (Err e) P Q gives is = tt

pub on_err_of : {X E : Type 0} (r : Result X E) (Q : Type 0) → Q → OnErr r Q
on_err_of (Ok x) Q is = tt
on_err_of (Err e) Q is = is

-- ---- files that are left

module _ {W : Type 0} {s : _} where
  left_both : (xs ys : List (Lent W s)) → all_left (xs ++ ys) ≡ all_left xs ++ all_left ys
  left_both [] ys = refl
  left_both (x ∷ xs) ys = ap (λ zs. left_at x.number x ∷ zs) (left_both xs ys)

  pub leaves_none : (a : Stock (Lent W s)) → LeavesFiles [] a a
  leaves_none a = record {
    in_use = refl;
    capacity = refl;
    left = λ room. sym (nothing_behind a.trash.items);
    some = ([], sym (nothing_behind a.trash.items));
  }

  pub leaves_more : (xs : List (Lent W s)) (x : Lent W s) (a b c : Stock (Lent W s)) → LeavesFiles xs a b → c.in_use ≡ b.in_use
      → (deque_len b.trash < deque_capacity b.trash → c.trash.items ≡ b.trash.items ++ left_at x.number x ∷ [])
      → deque_capacity c.trash ≡ deque_capacity b.trash
      → (deque_capacity b.trash ≤ deque_len b.trash → c.trash ≡ b.trash) → LeavesFiles (xs ++ x ∷ []) a c
  leaves_more xs x a b c is in_use left capacity full = record {
    in_use = in_use ∙ is.in_use;
    capacity = capacity ∙ is.capacity;
    left = λ room. behind (is.left (fewer room)) (left (space room));
    some = by (nat_lt (deque_len b.trash) (deque_capacity b.trash)) refl;
  }
    where
      long : length (xs ++ x ∷ []) ≡ length xs + 1
      long = let both = length-append xs (x ∷ []) in omega (arith, both)

      fewer : deque_len a.trash + length (xs ++ x ∷ []) ≤ deque_capacity a.trash → deque_len a.trash + length xs ≤ deque_capacity a.trash
      fewer room = let e = long in omega (arith, room, e)

      space : deque_len a.trash + length (xs ++ x ∷ []) ≤ deque_capacity a.trash → deque_len b.trash < deque_capacity b.trash
      space room =
          let e = long in
          let n = b.trash.ok.0 in
          let m = a.trash.ok.0 in
          let k = ap length (is.left (fewer room)) in
          let both = length-append a.trash.items (all_left xs) in
          let many = length-map xs (λ (f : Lent W s). left_at f.number f) in
          let cap = is.capacity in
          omega (arith, room, e, n, m, k, both, many, cap)

      behind : b.trash.items ≡ a.trash.items ++ all_left xs → c.trash.items ≡ b.trash.items ++ left_at x.number x ∷ []
          → c.trash.items ≡ a.trash.items ++ all_left (xs ++ x ∷ [])
      behind first then =
          then ∙ ap (λ zs. zs ++ left_at x.number x ∷ []) first
          ∙ append_assoc a.trash.items (all_left xs) (left_at x.number x ∷ [])
          ∙ ap (λ zs. a.trash.items ++ zs) (sym (left_both xs (x ∷ [])))

      by : (r : Bool) → nat_lt (deque_len b.trash) (deque_capacity b.trash) ≡ r
          → (kept : List (Lent W s)) × (c.trash.items ≡ a.trash.items ++ all_left kept)
      by true test =
          let less : deque_len b.trash < deque_capacity b.trash = grind (arith, nat_tests, test) in (
            is.some.0 ++ x ∷ [],
            left less ∙ ap (λ zs. zs ++ left_at x.number x ∷ []) is.some.1
                ∙ append_assoc a.trash.items (all_left is.some.0) (left_at x.number x ∷ [])
                ∙ ap (λ zs. a.trash.items ++ zs) (sym (left_both is.some.0 (x ∷ []))),
          )
      by false test =
          let more : deque_capacity b.trash ≤ deque_len b.trash = grind (arith, nat_tests, test) in
          (is.some.0, ap deque_items (full more) ∙ is.some.1)

pub map-same : {X : Type 0} (xs : List X) → map (λ x. x) xs ≡ xs
map-same [] = refl
map-same (x ∷ xs) = ap (λ ys. x ∷ ys) (map-same xs)

pub some_there : (o : Option InUse) → is_some o ≡ true → (u : InUse) × (o ≡ Some u)
some_there None is = absurd (let clash : false ≡ true = is in cc)
some_there (Some u) is = (u, refl)

pub none_there : (o : Option InUse) → is_some o ≡ false → o ≡ None
none_there None is = refl
none_there (Some u) is = absurd (let clash : true ≡ false = is in cc)

-- it is made of the version
pub has_made : {H L : Type 0} (core : Core H) (old new : Stock L) (u : InUse) → old.in_use ≡ None → new.in_use ≡ Some u
    → new.trash ≡ old.trash → u.tables.items ≡ map number_of (tables_of core.version.behind.levels)
    → u.logs.items ≡ but core.front.log.number (map (λ (log : SealedLog H). log.number) core.version.behind.logs.items)
    → Has new (used_in core old)
has_made {H} core old new u none some trash tables logs = record {
  in_use = u;
  is_some = some;
  kept_are = ap (used_by core old.trash.items) none ∙ (λ i. record {
    tables = sym tables i;
    logs = sym logs i;
    trash = sym (ap deque_items trash) i;
  });
}

-- files of one number and one writer are one
name_prop : (x y : Name) → IsProp (x ≡ y)
name_prop x y = hlevel props

abbrev pub lent_of : {W : Type 0} {s : Writers W} (n : ℕ) (writer : W) → s.named writer ≡ names.Table n → Lent W s
lent_of n writer named = record { number = n; writer = writer; named = named }

pub same_lent : {W : Type 0} {s : Writers W} (n : ℕ) (writer : W) (a b : s.named writer ≡ names.Table n)
    → lent_of {s = s} n writer a ≡ lent_of {s = s} n writer b
same_lent {s = s} n writer a b = ap (lent_of {s = s} n writer) (name_prop (s.named writer) (names.Table n) a b)

-- where there is room for more tables there is for fewer
pub less_room : {L : Type 0} (stock : Stock L) (more fewer n : ℕ) → fewer ≤ more → HasRoom stock more 0 n → HasRoom stock fewer 0 n
less_room stock more fewer n less room =
    let a = room.tables_in in
    let b = room.trash in
    record {
      in_use = room.in_use;
      is_some = room.is_some;
      tables_in = omega (arith, less, a);
      logs_in = room.logs_in;
      trash = omega (arith, less, b);
    }

pub less_lent : {L : Type 0} (stock : Stock L) (tables logs n : ℕ) → HasRoom stock tables logs n → HasRoom stock tables logs 0
less_lent stock tables logs n room =
    let a = room.trash in
    record {
      in_use = room.in_use;
      is_some = room.is_some;
      tables_in = room.tables_in;
      logs_in = room.logs_in;
      trash = omega (arith, a);
    }

-- it is readied for as many as were counted
pub readied_for : {H L : Type 0} (core : Core H) (old new : Stock L) (tables more n m : ℕ) → tables ≡ more → n ≡ m
    → IsReadied core old new tables n → IsReadied core old new more m
readied_for core old new tables more n m first second is =
    subst (λ k. IsReadied core old new k m) first (subst (λ k. IsReadied core old new tables k) second is)

pub stays_readied : {H L : Type 0} (core : Core H) (old new : Stock L) (tables n : ℕ) → IsReadied core old new tables n
    → StaysUsed core old new
stays_readied core old new tables n is = record { trash = is.trash; capacity = is.capacity; used = inr is.has }

pub some_in : (o : Option InUse) → IsSome o → (u : InUse) × (o ≡ Some u)
some_in None is = absurd cc
some_in (Some u) is = (u, refl)

pub stays_either : {X E H L : Type 0} (r : Result X E) (core : Core H) (old new : Stock L) (tables n : ℕ)
    → OnOk r (IsReadied core old new tables n) → OnErr r (StaysUsed core old new) → StaysUsed core old new
stays_either (Ok x) core old new tables n done refused = stays_readied core old new tables n done
stays_either (Err e) core old new tables n done refused = refused

pub only_tables : {L : Type 0} (stock : Stock L) (tables more logs n : ℕ) → tables ≡ more → HasRoom stock tables logs n
    → HasRoom stock more 0 0
only_tables stock tables more logs n same room =
    let a = room.trash in
    let b = room.tables_in in
    let c = room.logs_in in
    record {
      in_use = room.in_use;
      is_some = room.is_some;
      tables_in = omega (arith, b, same);
      logs_in = omega (arith, c);
      trash = omega (arith, a, same);
    }

pub no_logs : {L : Type 0} (stock : Stock L) (tables more logs n m : ℕ) → tables ≡ more → n ≡ m → HasRoom stock tables logs n
    → HasRoom stock more 0 m
no_logs stock tables more logs n m same lent room =
    let a = room.trash in
    let b = room.tables_in in
    let c = room.logs_in in
    record {
      in_use = room.in_use;
      is_some = room.is_some;
      tables_in = omega (arith, b, same);
      logs_in = omega (arith, c);
      trash = omega (arith, a, same, lent);
    }
