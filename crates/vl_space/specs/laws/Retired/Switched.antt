-- The files in use stand, and retired files can be removed, also where a switch retires some.
use Rattle.std.specs.Prelude.{◌≡◌, ◌≢◌, ◌≤◌, ◌<◌, ◌+◌, ◌++◌, ◌==◌, ◌&&◌, ◌||◌, not, ℕ, All, Bool, List, [], ◌∷◌, length, map}
use Rattle.std.specs.Prelude.{Option, None, Some, IsSome, true, false, refl, cond}
use Rattle.std.specs.FinMap.{get}
use Rattle.std.specs.List.{AllByRecursion, filter, slice_index_or}
use Rattle.std.specs.Option.{ForSome}
use Rattle.std.specs.VecDeque.{deque_capacity, deque_items, deque_len}
use Rattle.std.proofs.Common.{sym, subst, ap, ◌∙◌, arith, append_assoc}
use Rattle.std.proofs.lemmas.Bool.{and_parts}
use Rattle.std.proofs.lemmas.Bool.Decides.{nat_tests}
use Rattle.std.proofs.lemmas.List.Elements.{All-append, All-filter, All-head, All-push, All-tail, All-weaker}
use Rattle.vl_compact.specs.declared.files.Lent.{Lent}
use Rattle.vl_engine_laws.specs.Carries.{StaysUntold}
use Rattle.vl_engine_laws.specs.declared.kept.Core.{Core}
use Rattle.vl_back.specs.Writing.{written}
use Rattle.vl_disk.specs.Changes.{changed_elsewhere}
use Rattle.vl_disk.specs.Disk.{IsChangedBy, IsFree, Stands}
use Rattle.vl_recover.specs.laws.crash.OneName.{made_there}
use Rattle.vl_disk.specs.DiskState.{DiskState, File, appended, lengthened, synced_file}
use Rattle.vl_disk.specs.MadeFile.{made}
use Rattle.vl_disk.specs.declared.name.Name.{Name}
use Rattle.vl_disk.specs.declared.name.Name.TheVariants.{Log, Manifest, Table}
use Rattle.vl_disk.specs.declared.watched.Watched.{Ghosts}
use Rattle.vl_disk.specs.declared.writer.Writer.{Ghosts as Writers}
use Rattle.vl_space.specs.laws.Retired.Changing.{but_absent, taken_out}
use Rattle.vl_space.specs.laws.Retired.Retiring.{has_filtered, same_either_way}
use Rattle.vl_space.specs.laws.Retired.There.{NamesStand, Standing, and_false, both_true, neither_one, to_use, waiting_stand}
use Rattle.vl_space.specs.laws.There.Kept.{StandStill, stands_not_free, told_before, waiting_kept}
use Rattle.vl_engine_laws.specs.Lent.{LeavesLent}
use Rattle.vl_space.specs.Removing.{HasInUse, IsThere, IsWaiting, are_distinct, are_unused, is_unused, numbers_left}
use Rattle.vl_engine_laws.specs.Lent.{lent_in}
use Rattle.vl_space.specs.Removing.{standing_names, with_number, with_standing}
use Rattle.vl_space.specs.Retiring.{retiring}
use Rattle.vl_engine_laws.specs.declared.open.OpenMerge.{OpenMerge}
use Rattle.vl_engine_model.specs.Stock.{is_in}
use Rattle.vl_engine_model.specs.Rulings.Sweep.{is_same}
use Rattle.vl_model.specs.Numbers.{has}
use Rattle.vl_pins.specs.Files.{Has, Kept, file_of, gone_at, log_retired, logs_retired, table_retired, tables_retired, with_tables}
use Rattle.vl_pins.specs.InUse.{but}
use Rattle.vl_pins.specs.declared.retired_file.RetiredFile.{RetiredFile}
use Rattle.vl_pins.specs.declared.stock.Stock.{Stock}

-- ---- names

fewer_has : (n m : ℕ) (ns : List ℕ) → not (has m ns) ≡ true → not (has m (but n ns)) ≡ true
fewer_has n m ns is = ap not (has_filtered (λ (k : ℕ). not (k == n)) m ns ∙ by (has m ns) is)
  where
    by : (b : Bool) → not b ≡ true → (b && not (m == n)) ≡ false
    by true is = absurd (let clash : false ≡ true = is in cc)
    by false is = refl

-- where one number is there and another isn't they aren't one
apart : (n m : ℕ) (ns : List ℕ) → has n ns ≡ true → not (has m ns) ≡ true → (m == n) ≡ false
apart n m ns here gone = by (m == n) refl
  where
    by : (b : Bool) → (m == n) ≡ b → b ≡ false
    by true is = let e : m ≡ n = grind (arith, nat_tests, is) in
        absurd (let clash : false ≡ true = ap not (sym (ap (λ k. has k ns) e ∙ here)) ∙ gone in cc)
    by false is = refl

in_end : (f : Name) (names : List Name) (last : Name) → is_same (file_of f) (file_of last) ≡ false
    → not (is_in (file_of f) (map file_of names)) ≡ true → not (is_in (file_of f) (map file_of (names ++ last ∷ []))) ≡ true
in_end f [] last other is = ap not (ap (λ b. b || false) other)
in_end f (n ∷ ns) last other is =
    by (is_same (file_of f) (file_of n)) is (λ less. in_end f ns last other less)
  where
    by : (b : Bool) → not (b || is_in (file_of f) (map file_of ns)) ≡ true
        → (not (is_in (file_of f) (map file_of ns)) ≡ true → not (is_in (file_of f) (map file_of (ns ++ last ∷ []))) ≡ true)
        → not (b || is_in (file_of f) (map file_of (ns ++ last ∷ []))) ≡ true
    by true is later = is
    by false is later = later is

-- One name more, where others stay unused and none of them is that one.
module _ (a : ℕ) (ts ls us ks : List ℕ) (last : Name)
    (still : (name : Name) → is_unused a ts ls name ≡ true → (is_unused a us ks name ≡ true)
    × (is_same (file_of name) (file_of last) ≡ false))
    (here : is_unused a us ks last ≡ true) where
  more_unused : (names : List Name) → are_unused a ts ls names ≡ true → are_unused a us ks (names ++ last ∷ []) ≡ true
  more_unused [] is = both_true (is_unused a us ks last && true) true (both_true (is_unused a us ks last) true here refl) refl
  more_unused (n ∷ ns) is =
      let first = and_parts (is_unused a ts ls n && not (is_in (file_of n) (map file_of ns))) (are_unused a ts ls ns) is in
      let second = and_parts (is_unused a ts ls n) (not (is_in (file_of n) (map file_of ns))) first.0 in
      let one = still n second.0 in
      both_true (is_unused a us ks n && not (is_in (file_of n) (map file_of (ns ++ last ∷ [])))) (are_unused a us ks (ns ++ last ∷ []))
      (both_true (is_unused a us ks n) (not (is_in (file_of n) (map file_of (ns ++ last ∷ [])))) one.0
      (in_end n ns last one.1 second.1)) (more_unused ns first.1)

-- The names stay unused.
module _ (a : ℕ) (ts ls us ks : List ℕ) (still : (name : Name) → is_unused a ts ls name ≡ true → is_unused a us ks name ≡ true) where
  same_unused : (names : List Name) → are_unused a ts ls names ≡ true → are_unused a us ks names ≡ true
  same_unused [] is = refl
  same_unused (n ∷ ns) is =
      let first = and_parts (is_unused a ts ls n && not (is_in (file_of n) (map file_of ns))) (are_unused a ts ls ns) is in
      let second = and_parts (is_unused a ts ls n) (not (is_in (file_of n) (map file_of ns))) first.0 in
      both_true (is_unused a us ks n && not (is_in (file_of n) (map file_of ns))) (are_unused a us ks ns)
      (both_true (is_unused a us ks n) (not (is_in (file_of n) (map file_of ns))) (still n second.0) second.1) (same_unused ns first.1)

module _ (a n : ℕ) (ts ls : List ℕ) where
  without_table : (name : Name) → has n ts ≡ true → is_unused a ts ls name ≡ true
      → (is_unused a (but n ts) ls name ≡ true) × (is_same (file_of name) (file_of (Table n)) ≡ false)
  without_table (Log m) here is = (is, refl)
  without_table (Table m) here is = (fewer_has n m ts is, apart n m ts here is)
  without_table (Manifest m) here is = absurd (let clash : false ≡ true = is in cc)

  without_log : (name : Name) → has n ls ≡ true → is_unused a ts ls name ≡ true
      → (is_unused a ts (but n ls) name ≡ true) × (is_same (file_of name) (file_of (Log n)) ≡ false)
  without_log (Log m) here is =
      let parts = and_parts (not (has m ls)) (not (m == a)) is in
      (both_true (not (has m (but n ls))) (not (m == a)) (fewer_has n m ls parts.0) parts.1, apart n m ls here parts.0)
  without_log (Table m) here is = (is, refl)
  without_log (Manifest m) here is = absurd (let clash : false ≡ true = is in cc)

module _ {W : Type 0} {s : Writers W} where
  names_more : (trash : List (RetiredFile (Lent W s))) (version : ℕ) (name : Name)
      → standing_names (trash ++ gone_at version name ∷ []) ≡ standing_names trash ++ name ∷ []
  names_more [] version name = refl
  names_more (file ∷ trash) version name = by file.lent (names_more trash version name)
    where
      by : (o : Option (Lent W s)) → standing_names (trash ++ gone_at version name ∷ []) ≡ standing_names trash ++ name ∷ []
          → with_standing file.name o (standing_names (trash ++ gone_at version name ∷ []))
          ≡ with_standing file.name o (standing_names trash) ++ name ∷ []
      by None later = ap (λ ns. file.name ∷ ns) later
      by (Some f) later = later

  numbers_more : (trash : List (RetiredFile (Lent W s))) (version : ℕ) (name : Name)
      → numbers_left (trash ++ gone_at version name ∷ []) ≡ numbers_left trash
  numbers_more [] version name = refl
  numbers_more (file ∷ trash) version name = by file.lent (numbers_more trash version name)
    where
      by : (o : Option (Lent W s)) → numbers_left (trash ++ gone_at version name ∷ []) ≡ numbers_left trash
          → with_number o (numbers_left (trash ++ gone_at version name ∷ [])) ≡ with_number o (numbers_left trash)
      by None later = later
      by (Some f) later = ap (λ ns. f.number ∷ ns) later

-- ---- one file after the other

stands_in : (P : ℕ → Type 0) (n : ℕ) (ns : List ℕ) → All P ns → has n ns ≡ true → P n
stands_in P n [] all here = absurd (let clash : false ≡ true = here in cc)
stands_in P n (m ∷ ns) all here =
    by (m == n) refl here (λ later. stands_in P n ns (All-tail P m ns all) later)
  where
    by : (b : Bool) → (m == n) ≡ b → (b || has n ns) ≡ true → (has n ns ≡ true → P n) → P n
    by true is here later = let e : m ≡ n = grind (arith, nat_tests, is) in subst P e (All-head P m ns all)
    by false is here later = later here

module _ {D W : Type 0} {s : Writers W} (g : Ghosts D) (w : Writers W) (disk : D) (next_table a : ℕ) where
  -- those that wait can be removed, and those in use stand
  pub record Keeps (numbers : List ℕ) (kept : Kept (Lent W s)) : Type 0 where
    pub waiting : All (IsWaiting g w disk next_table) kept.trash
    pub standing : ForSome (g.told disk) (Standing a kept)
    pub left : numbers_left kept.trash ≡ numbers

  waits_gone : (version : ℕ) (name : Name) → ForSome (g.told disk) (Stands name)
      → IsWaiting g w disk next_table (gone_at {L = Lent W s} version name)
  waits_gone version name stands = record {
    stands = λ none. stands;
    left = λ f some. absurd (let clash : None ≡ Some f = some in cc);
    named = λ f some. absurd (let clash : None ≡ Some f = some in cc);
  }

  module _ (numbers : List ℕ) (version : ℕ) where
    pub keeps_table : (n : ℕ) (kept : Kept (Lent W s)) → Keeps numbers kept → Keeps numbers (table_retired version n kept)
    keeps_table n kept is = by (has n kept.tables) refl
      where
        by : (b : Bool) → has n kept.tables ≡ b → Keeps numbers (record kept
            { tables = but n kept.tables; trash = cond b (kept.trash ++ gone_at version (Table n) ∷ []) kept.trash })
        by true here = record {
          waiting = All-push (IsWaiting g w disk next_table) kept.trash (gone_at version (Table n)) is.waiting
              (waits_gone version (Table n) (λ state told. stands_in (λ k. Stands (Table k) state) n kept.tables
              (is.standing state told).tables here));
          standing = λ state told. let was = is.standing state told in record {
            tables = All-filter (λ (m : ℕ). not (m == n)) (λ k. Stands (Table k) state) kept.tables was.tables;
            logs = was.logs;
            unused = ap (are_unused a (but n kept.tables) kept.logs) (names_more kept.trash version (Table n))
                ∙ more_unused a kept.tables kept.logs (but n kept.tables) kept.logs (Table n)
                (λ name unused. without_table a n kept.tables kept.logs name here unused) (ap not (taken_out n kept.tables))
                (standing_names kept.trash) was.unused;
            off = was.off;
          };
          left = numbers_more kept.trash version (Table n) ∙ is.left;
        }
        by false gone = record {
          waiting = is.waiting;
          standing = λ state told. let was = is.standing state told in record {
            tables = All-filter (λ (m : ℕ). not (m == n)) (λ k. Stands (Table k) state) kept.tables was.tables;
            logs = was.logs;
            unused = ap (λ ts. are_unused a ts kept.logs (standing_names kept.trash)) (but_absent n kept.tables gone) ∙ was.unused;
            off = was.off;
          };
          left = is.left;
        }

    pub keeps_log : (n : ℕ) (kept : Kept (Lent W s)) → Keeps numbers kept → Keeps numbers (log_retired version n kept)
    keeps_log n kept is = by (has n kept.logs) refl
      where
        by : (b : Bool) → has n kept.logs ≡ b → Keeps numbers (record kept
            { logs = but n kept.logs; trash = cond b (kept.trash ++ gone_at version (Log n) ∷ []) kept.trash })
        by true here = record {
          waiting = All-push (IsWaiting g w disk next_table) kept.trash (gone_at version (Log n)) is.waiting
              (waits_gone version (Log n) (λ state told. stands_in (λ k. Stands (Log k) state) n kept.logs
              (is.standing state told).logs here));
          standing = λ state told. let was = is.standing state told in record {
            tables = was.tables;
            logs = All-filter (λ (m : ℕ). not (m == n)) (λ k. Stands (Log k) state) kept.logs was.logs;
            unused = ap (are_unused a kept.tables (but n kept.logs)) (names_more kept.trash version (Log n))
                ∙ more_unused a kept.tables kept.logs kept.tables (but n kept.logs) (Log n)
                (λ name unused. without_log a n kept.tables kept.logs name here unused)
                (both_true (not (has n (but n kept.logs))) (not (n == a)) (ap not (taken_out n kept.logs))
                (ap not (same_either_way n a ∙ apart n a kept.logs here was.off)))
                (standing_names kept.trash) was.unused;
            off = fewer_has n a kept.logs was.off;
          };
          left = numbers_more kept.trash version (Log n) ∙ is.left;
        }
        by false gone = record {
          waiting = is.waiting;
          standing = λ state told. let was = is.standing state told in record {
            tables = was.tables;
            logs = All-filter (λ (m : ℕ). not (m == n)) (λ k. Stands (Log k) state) kept.logs was.logs;
            unused = ap (λ ns. are_unused a kept.tables ns (standing_names kept.trash)) (but_absent n kept.logs gone) ∙ was.unused;
            off = fewer_has n a kept.logs was.off;
          };
          left = is.left;
        }

    pub keeps_tables : (ns : List ℕ) (kept : Kept (Lent W s)) → Keeps numbers kept → Keeps numbers (tables_retired version ns kept)
    keeps_tables [] kept is = is
    keeps_tables (n ∷ ns) kept is = keeps_tables ns (table_retired version n kept) (keeps_table n kept is)

    pub keeps_logs : (ns : List ℕ) (kept : Kept (Lent W s)) → Keeps numbers kept → Keeps numbers (logs_retired version ns kept)
    keeps_logs [] kept is = is
    keeps_logs (n ∷ ns) kept is = keeps_logs ns (log_retired version n kept) (keeps_log n kept is)

    -- whatever a switch retires
    pub keeps_switch : (dropped : List ℕ) (idle : ℕ → Bool) (kept : Kept (Lent W s)) → Keeps numbers kept
        → Keeps numbers (retiring version idle (tables_retired version dropped kept))
    keeps_switch dropped idle kept is =
        keeps_logs (filter idle (tables_retired version dropped kept).logs) (tables_retired version dropped kept)
        (keeps_tables dropped kept is)

-- So it is there.
pub there_by : {D H W : Type 0} {s : Writers W} (g : Ghosts D) (w : Writers W) (disk : D) (core : Core H) (merging : Option OpenMerge)
    (stock : Stock (Lent W s)) (kept : Kept (Lent W s)) (numbers : List ℕ) → Has stock kept
    → Keeps g w disk core.back.state.next_table core.front.log.number numbers kept → are_distinct (lent_in merging ++ numbers) ≡ true
    → deque_len stock.trash + length (lent_in merging) ≤ deque_capacity stock.trash → IsThere g w disk core merging stock
there_by {W = W} {s = s} g w disk core merging stock kept numbers has is distinct room = record {
  waiting = subst (λ (k : Kept (Lent W s)). All (IsWaiting g w disk core.back.state.next_table) k.trash) has.kept_are is.waiting;
  distinct = ap (λ (k : Kept (Lent W s)). are_distinct (lent_in merging ++ numbers_left k.trash)) (sym has.kept_are)
      ∙ ap (λ ns. are_distinct (lent_in merging ++ ns)) is.left ∙ distinct;
  room = room;
  files = λ state told. to_use core state stock kept has (is.standing state told);
}

-- ---- tables that come into use

table_off : (n : ℕ) (state : DiskState) (name : Name) → IsFree (Table n) state → Stands name state
    → is_same (file_of name) (file_of (Table n)) ≡ false
table_off n state (Log m) free stands = refl
table_off n state (Manifest m) free stands = refl
table_off n state (Table m) free stands = by (m == n) refl
  where
    by : (b : Bool) → (m == n) ≡ b → b ≡ false
    by true is = let e : m ≡ n = grind (arith, nat_tests, is) in
        absurd (stands_not_free (get state.standing (Table n)) (subst (λ k. Stands (Table k) state) e stands) free)
    by false is = refl

has_end_not : (n m : ℕ) (ns : List ℕ) → not (has m ns) ≡ true → (m == n) ≡ false → not (has m (ns ++ n ∷ [])) ≡ true
has_end_not n m [] is other = ap not (ap (λ b. b || false) (same_either_way n m ∙ other))
has_end_not n m (k ∷ ns) is other = by (k == m) is (λ less. has_end_not n m ns less other)
  where
    by : (b : Bool) → not (b || has m ns) ≡ true → (not (has m ns) ≡ true → not (has m (ns ++ n ∷ [])) ≡ true)
        → not (b || has m (ns ++ n ∷ [])) ≡ true
    by true is later = is
    by false is later = later is

one_more_table : (a n : ℕ) (ts ls : List ℕ) (state : DiskState) → IsFree (Table n) state → (name : Name) → Stands name state
    → is_unused a ts ls name ≡ true → is_unused a (ts ++ n ∷ []) ls name ≡ true
one_more_table a n ts ls state free (Log m) stands is = is
one_more_table a n ts ls state free (Table m) stands is = has_end_not n m ts is (table_off n state (Table m) free stands)
one_more_table a n ts ls state free (Manifest m) stands is = is

pub more_tables : (a n : ℕ) (ts ls : List ℕ) (state : DiskState) → IsFree (Table n) state → (names : List Name) → NamesStand names state
    → are_unused a ts ls names ≡ true → are_unused a (ts ++ n ∷ []) ls names ≡ true
more_tables a n ts ls state free [] stand is = refl
more_tables a n ts ls state free (m ∷ ns) stand is =
    let first = and_parts (is_unused a ts ls m && not (is_in (file_of m) (map file_of ns))) (are_unused a ts ls ns) is in
    let second = and_parts (is_unused a ts ls m) (not (is_in (file_of m) (map file_of ns))) first.0 in
    both_true (is_unused a (ts ++ n ∷ []) ls m && not (is_in (file_of m) (map file_of ns))) (are_unused a (ts ++ n ∷ []) ls ns)
    (both_true (is_unused a (ts ++ n ∷ []) ls m) (not (is_in (file_of m) (map file_of ns)))
    (one_more_table a n ts ls state free m stand.0 second.0) second.1) (more_tables a n ts ls state free ns stand.1 first.1)

-- a table that was made comes into use
pub keeps_made : {D W : Type 0} {s : Writers W} (g : Ghosts D) (w : Writers W) (old new : D) (before after a n : ℕ) (kept : Kept (Lent W s))
    → StaysUntold (g.told old) (g.told new) → StandStill (g.told old) (g.told new) → before ≤ after → LeavesLent g before old new
    → ForSome (g.told old) (IsFree (Table n)) → ForSome (g.told new) (Stands (Table n))
    → All (IsWaiting g w old before) kept.trash → ForSome (g.told old) (Standing a kept)
    → Keeps g w new after a (numbers_left kept.trash) (with_tables (n ∷ []) kept)
keeps_made {W = W} {s = s} g w old new before after a n kept untold stand up leaves free made waiting standing = record {
  waiting = λ k d within. waiting_kept g w old new untold stand before after (slice_index_or kept.trash k d) up leaves (waiting k d within);
  standing = λ now told.
      let was = told_before (g.told old) (g.told new) now untold told in
      let is = standing was.0 was.1 in
      let still = stand was.0 now was.1 told in record {
        tables = All-push (λ k. Stands (Table k) now) kept.tables n
            (All-weaker (λ k. Stands (Table k) was.0) (λ k. Stands (Table k) now) (λ k. still (Table k)) kept.tables is.tables)
            (made now told);
        logs = All-weaker (λ k. Stands (Log k) was.0) (λ k. Stands (Log k) now) (λ k. still (Log k)) kept.logs is.logs;
        unused = more_tables a n kept.tables kept.logs was.0 (free was.0 was.1) (standing_names kept.trash)
            (waiting_stand g w old before was.0 was.1 kept.trash waiting) is.unused;
        off = is.off;
      };
  left = refl;
}

-- where a table was written and named it stands
pub made_stands : (n number : ℕ) (bytes frame : List ℕ) (old new : Option DiskState) → IsChangedBy (written n bytes number frame) old new
    → ForSome new (Stands (Table n))
made_stands n number bytes frame None new changed now told = absurd (let clash : None ≡ Some now = sym changed ∙ told in cc)
made_stands n number bytes frame (Some disk) new changed now told =
    subst (Stands (Table n)) (one (written n bytes number frame disk) now (sym changed ∙ told)) stood
  where
    one : (a b : DiskState) → Some a ≡ Some b → a ≡ b
    one a b e = cc

    stood : Stands (Table n) (written n bytes number frame disk)
    stood =
        let other : Table n ≢ Manifest number = λ e. cc in
        subst (λ (o : Option File). IsSome o)
        (sym ((changed_elsewhere (Manifest number) (appended (Manifest number) frame (length frame) (made (Table n) bytes disk))
        synced_file).standing (Table n) other
        ∙ (changed_elsewhere (Manifest number) (made (Table n) bytes disk) (lengthened frame (length frame))).standing (Table n) other
        ∙ made_there (Table n) bytes disk)) refl
