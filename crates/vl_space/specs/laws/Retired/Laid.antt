-- What is kept of the files in use and of those that wait is what the layout has, behind a rotation, a flush and an install.
use Rattle.std.proofs.Common.{◌≡◌, ℕ, ◌+◌, ◌≤◌, ◌<◌, Bool, true, false, cond, not, ◌&&◌, ◌||◌, List, [], ◌∷◌, ◌++◌, length, map}
use Rattle.std.proofs.Common.{refl, ap, sym, ◌∙◌, subst, arith, append_assoc}
use Rattle.std.proofs.lemmas.Bool.Decides.{nat_tests}
use Rattle.std.specs.Prelude.{◌==◌, nat_lt, Option, None, Some}
use Rattle.std.specs.List.{AllByRecursion, AllZip, filter, flat_map}
use Rattle.std.specs.Ordering.{nat_cmp}
use Rattle.std.specs.VecDeque.{deque_len, deque_capacity}
use Rattle.std.specs.declared.cmp.Ordering.TheVariants.{Less, Equal, Greater}
use Rattle.vl_engine_laws.specs.Laid.{HasLog, IsTableOf}
use Rattle.vl_engine_laws.specs.Pointed.{segment_at}
use Rattle.vl_engine_laws.specs.Represents.{StandsFor}
use Rattle.vl_engine_laws.specs.declared.kept.Core.{Core}
use Rattle.vl_engine_laws.specs.laws.LaidTables.{tables_are}
use Rattle.vl_space.specs.laws.CollectLaws.{lengths_are_laid}
use Rattle.vl_space.specs.laws.Retired.Changing.{but_absent}
use Rattle.vl_space.specs.laws.Retired.Retiring.{all_there, each, filter_alike, gone_logs, retiring_logs, retiring_tables, retiring_wait}
use Rattle.vl_space.specs.laws.Retired.Retiring.{all_weaker, up_distinct}
use Rattle.vl_space.specs.laws.Tallying.{each_there, up_numbers, up_rising}
use Rattle.vl_space.specs.Collecting.{lengths_in}
use Rattle.vl_space.specs.Removing.{AreInUse, IsStockOf, UsesThoseOf, all_retired}
use Rattle.vl_space.specs.Retiring.{is_idle_log, retiring, used_by, used_in}
use Rattle.vl_engine_model.specs.Garbage.{live_bytes}
use Rattle.vl_engine_model.specs.Jobs.{AreDistinct, lent_numbers}
use Rattle.vl_engine_model.specs.Levels.{in_front}
use Rattle.vl_engine_model.specs.Ruling.{is_idle, retired_at, switched}
use Rattle.vl_engine_model.specs.Rulings.Rotate.{rotated}
use Rattle.vl_engine_model.specs.Sources.{head, log_of, put_segment, rising, tables}
use Rattle.vl_engine_model.specs.Stock.{IsFalling}
use Rattle.vl_engine_model.specs.Tidy.{log_numbers, sealed}
use Rattle.vl_engine_model.specs.declared.file_name.FileName.{FileName}
use Rattle.vl_engine_model.specs.declared.file_name.FileName.TheVariants as files
use Rattle.vl_engine_model.specs.declared.file_name.Retired.{Retired}
use Rattle.vl_engine_model.specs.declared.layout.Layout.{Layout}
use Rattle.vl_engine_model.specs.declared.segment.Segment.{Segment}
use Rattle.vl_engine_model.specs.declared.table.Table as laid
use Rattle.vl_engine_model.specs.laws.RisingLaws.{map-filter}
use Rattle.vl_engine_model_laws.specs.laws.Stock.{head_least}
use Rattle.vl_engine_model_laws.specs.laws.Steps.{all_rising}
use Rattle.vl_model.specs.Entries.{by_order}
use Rattle.vl_model.specs.History.{History}
use Rattle.vl_model.specs.Numbers.{has}
use Rattle.vl_pins.specs.Files.{Has, Kept, gone_at, kept_in, retired_of}
use Rattle.vl_pins.specs.declared.in_use.InUse.{InUse}
use Rattle.vl_pins.specs.declared.retired_file.RetiredFile.{RetiredFile}
use Rattle.vl_pins.specs.declared.stock.Stock.{Stock}
use Rattle.vl_seglog.specs.declared.sealed.SealedLog.{SealedLog}
use Rattle.vl_stats.specs.Live.{bytes_of}
use Rattle.vl_stats.specs.Tallies.{IsOfLayout, length_of, lengths_of, stays}
use Rattle.vl_stats.specs.laws.TallyLaws.{none_pass, rising-filter, switched_logs}
use Rattle.vl_table.specs.Tables.{number_of}
use Rattle.vl_table.specs.declared.table.Table.{Table}
use Rattle.vl_version.specs.Sources.{log_in, tables_in}

-- ---- what is kept

-- Each table of the layout is among those that are kept, and the logs are its sealed ones.
pub record Uses {L : Type 0} (kept : Kept L) (l : Layout) : Type 0 where
  pub tables : AllByRecursion (λ (t : laid.Table). has t.number kept.tables ≡ true) (tables l)
  pub logs : kept.logs ≡ log_numbers (rising (sealed l))

-- so that a stock which has them is the layout's, with what waits
pub is_stock : {H L : Type 0} (core : Core H) (stock : Stock L) (x : Layout) (kept : Kept L) → Has stock kept → Uses kept x
    → all_retired kept.trash ≡ x.retired → AllByRecursion (λ (r : Retired). r.epoch ≤ x.epoch) x.retired
    → deque_len stock.trash + length (lent_numbers x.job) ≤ deque_capacity stock.trash → IsStockOf core stock x
is_stock {L = L} core stock x kept has uses trash aged room =
    let now = subst (λ (k : Kept L). Uses k x) has.kept_are uses in
    record {
      in_use = subst (λ (o : Option InUse). UsesThoseOf core.version.behind.logs.items o x) (sym has.is_some)
          (record { tables = now.tables; logs = now.logs });
      trash = ap (λ (k : Kept L). all_retired k.trash) (sym has.kept_are) ∙ trash;
      aged = aged;
      room = room;
    }

abbrev firsts : List (ℕ × ℕ) → List ℕ
firsts ps = map (λ (p : ℕ × ℕ). p.0) ps

first_of : (ss : List Segment) → firsts (lengths_of ss) ≡ log_numbers ss
first_of [] = refl
first_of (s ∷ ss) = ap (λ ns. s.number ∷ ns) (first_of ss)

-- ---- what a version has

module _ {H : Type 0} (bytes : H → Option (List ℕ)) where
  numbers_held : (ts : List (Table H)) (us : List laid.Table) → AllZip (IsTableOf bytes) ts us
      → map number_of ts ≡ map (λ (u : laid.Table). u.number) us
  numbers_held [] [] zip = refl
  numbers_held [] (u ∷ us) zip = absurd zip
  numbers_held (t ∷ ts) [] zip = absurd zip
  numbers_held (t ∷ ts) (u ∷ us) zip =
      ap (λ n. n ∷ map number_of ts) zip.0.number
      ∙ ap (λ ns. u.number ∷ ns) (numbers_held ts us zip.1)

  below_in : (n k : ℕ) (logs : List (SealedLog H)) (log : SealedLog H) → log_in logs n ≡ Some log
      → AllByRecursion (λ (x : SealedLog H). x.number < k) logs → n < k
  below_in n k [] log is all = absurd (let no : None ≡ Some log = is in cc)
  below_in n k (x ∷ xs) log is all = by (x.number == n) refl is (λ found. below_in n k xs log found all.1)
    where
      by : (b : Bool) → (x.number == n) ≡ b → (cond b (Some x) (log_in xs n)) ≡ Some log → (log_in xs n ≡ Some log → n < k) → n < k
      by true same found later = let less = all.0 in let e : x.number ≡ n = grind (arith, nat_tests, same) in omega (arith, less, e)
      by false other found later = later found

  module _ (core : Core H) (h : History) (l : Layout) (is : StandsFor bytes core h l) where
    tables_kept : AllByRecursion (λ (t : laid.Table). has t.number (map number_of (tables_in core.version)) ≡ true) (tables l)
    tables_kept =
        subst (λ ns. AllByRecursion (λ (t : laid.Table). has t.number ns ≡ true) (tables l))
        (sym (numbers_held (tables_in core.version) (tables l) (tables_are bytes core.version l is.has)))
        (of (tables l) (map (λ (u : laid.Table). u.number) (tables l)) (all_there (map (λ (u : laid.Table). u.number) (tables l))))
      where
        of : (ts : List laid.Table) (ns : List ℕ) → AllByRecursion (λ n. has n ns ≡ true) (map (λ (u : laid.Table). u.number) ts)
            → AllByRecursion (λ (t : laid.Table). has t.number ns ≡ true) ts
        of [] ns all = tt
        of (t ∷ ts) ns all = (all.0, of ts ns all.1)

    -- the sealed logs come before the active one
    pub sealed_below : AllByRecursion (λ (s : Segment). s.number < l.active.number) (sealed l)
    sealed_below =
        all_weaker (λ (s : Segment). segment_at (sealed l) s.number ≡ Some s) (λ (s : Segment). s.number < l.active.number)
        (λ s at. let found = is.has.logs s.number s at in
        below_in s.number l.active.number core.version.behind.logs.items found.log found.at is.has.below)
        (sealed l) (each_there (sealed l) is.tidy.distinct.1)

    -- ---- what is kept to begin with

    module _ (size : H → ℕ) (sized : (held : H) (told : List ℕ) → bytes held ≡ Some told → length told ≡ size held) where
      logs_kept_first : AllByRecursion (λ (log : SealedLog H). has log.number (log_numbers (sealed l)) ≡ true)
          core.version.behind.logs.items
          → map (λ (log : SealedLog H). log.number) core.version.behind.logs.items ≡ log_numbers (rising (sealed l))
      logs_kept_first are =
          sym (first_in core.version.behind.logs.items) ∙ ap firsts (lengths_are_laid bytes core h l is size sized are)
          ∙ first_of (rising (sealed l))
        where
          first_in : (logs : List (SealedLog H)) → firsts (lengths_in size logs) ≡ map (λ (log : SealedLog H). log.number) logs
          first_in [] = refl
          first_in (x ∷ xs) = ap (λ ns. x.number ∷ ns) (first_in xs)

      not_active : (logs : List (SealedLog H)) → AllByRecursion (λ (log : SealedLog H). log.number < l.active.number) logs
          → has core.front.log.number (map (λ (log : SealedLog H). log.number) logs) ≡ false
      not_active [] below = refl
      not_active (x ∷ xs) below =
          let less = below.0 in
          let active = is.fronts.number in
          let other : (x.number == core.front.log.number) ≡ false = grind (arith, nat_tests, less, active) in
          ap (λ b. b || has core.front.log.number (map (λ (log : SealedLog H). log.number) xs)) other ∙ not_active xs below.1

      pub uses_first : {L : Type 0} (trash : List (RetiredFile L)) (o : Option InUse)
          → UsesThoseOf core.version.behind.logs.items o l → Uses (used_by core trash o) l
      uses_first trash None are = record {
        tables = tables_kept;
        logs = but_absent core.front.log.number (map (λ (log : SealedLog H). log.number) core.version.behind.logs.items)
            (not_active core.version.behind.logs.items is.has.below) ∙ logs_kept_first are;
      }
      uses_first trash (Some u) are = record { tables = are.tables; logs = are.logs }

used_trash : {H L : Type 0} (core : Core H) (trash : List (RetiredFile L)) (o : Option InUse) → (used_by core trash o).trash ≡ trash
used_trash core trash None = refl
used_trash core trash (Some u) = refl

pub used_waits : {H L : Type 0} (core : Core H) (stock : Stock L) → (used_in core stock).trash ≡ stock.trash.items
used_waits core stock = used_trash core stock.trash.items stock.in_use

-- ---- a rotation

put_last : (a : Segment) (ss : List Segment) → AllByRecursion (λ (s : Segment). s.number < a.number) ss → put_segment a ss ≡ ss ++ a ∷ []
put_last a [] below = refl
put_last a (s ∷ ss) below =
    let less = below.0 in
    let low : nat_lt a.number s.number ≡ false = grind (arith, nat_tests, less) in
    let other : (a.number == s.number) ≡ false = grind (arith, nat_tests, less) in
    ap (λ r. by_order r (a ∷ s ∷ ss) (a ∷ ss) (s ∷ put_segment a ss))
    (ap (λ b. cond b Less (cond (a.number == s.number) Equal Greater)) low ∙ ap (λ b. cond b Equal Greater) other)
    ∙ ap (λ xs. s ∷ xs) (put_last a ss below.1)

numbers_both : (xs ys : List Segment) → log_numbers (xs ++ ys) ≡ log_numbers xs ++ log_numbers ys
numbers_both [] ys = refl
numbers_both (x ∷ xs) ys = ap (λ ns. x.number ∷ ns) (numbers_both xs ys)

-- the log that was active comes behind the others
pub rotated_numbers : (l : Layout) → AllByRecursion (λ (s : Segment). s.number < l.active.number) (sealed l)
    → log_numbers (rising (sealed (rotated l))) ≡ log_numbers (rising (sealed l)) ++ l.active.number ∷ []
rotated_numbers l below =
    ap log_numbers (put_last l.active (rising (sealed l)) (all_rising (λ (s : Segment). s.number < l.active.number) (sealed l) below))
    ∙ numbers_both (rising (sealed l)) (l.active ∷ [])

-- ---- a switch

-- idle by the layout, as by what is live
abbrev idle_there : Layout → ℕ → Bool
idle_there l n = nat_lt n (head l) && (live_bytes (tables l) n == 0)

retired_logs : (L : Type 0) (version : ℕ) (ss : List Segment)
    → map (retired_of {L = L}) (gone_logs version (log_numbers ss)) ≡ map (retired_at version) (map log_of ss)
retired_logs L version [] = refl
retired_logs L version (s ∷ ss) = ap (λ rs. retired_at version (log_of s) ∷ rs) (retired_logs L version ss)

rising_distinct : (ss : List Segment) → AreDistinct (log_numbers (rising ss))
rising_distinct ss = up_distinct (log_numbers (rising ss)) (up_numbers (rising ss) (up_rising ss))

module _ (l : Layout) (dropped : List laid.Table) (falling : IsFalling (l.active ∷ l.frozen)) (live : List (ℕ × ℕ)) (number : ℕ)
    (of : IsOfLayout live number (switched dropped l)) where
  idle_same : (n : ℕ) → is_idle_log number live n ≡ idle_there l n
  idle_same n =
      ap (λ k. nat_lt n k && (bytes_of live n == 0)) of.head_is ∙ ap (λ b. nat_lt n (head l) && (b == 0)) (of.live_is n)

  -- the logs that aren't idle are sealed behind it
  logs_behind : log_numbers (rising (sealed (switched dropped l)))
      ≡ filter (λ (n : ℕ). not (is_idle_log number live n)) (log_numbers (rising (sealed l)))
  logs_behind =
      sym (first_of (rising (sealed (switched dropped l))))
      ∙ ap firsts (switched_logs l dropped falling live number of)
      ∙ map-filter (λ (p : ℕ × ℕ). p.0) (stays number live) (λ (n : ℕ). not (is_idle_log number live n)) (λ p. refl)
      (lengths_of (rising (sealed l)))
      ∙ ap (filter (λ (n : ℕ). not (is_idle_log number live n))) (first_of (rising (sealed l)))

  frozen_stay : AllByRecursion (λ (s : Segment). idle_there l s.number ≡ false) l.frozen
  frozen_stay =
      all_weaker (λ (s : Segment). head l ≤ s.number) (λ (s : Segment). idle_there l s.number ≡ false)
      (λ s least.
      let high : nat_lt s.number (head l) ≡ false = grind (arith, nat_tests, least) in
      ap (λ b. b && (live_bytes (tables l) s.number == 0)) high)
      l.frozen (head_least l falling).1

  -- and the idle ones retire
  idle_behind : filter (is_idle_log number live) (log_numbers (rising (sealed l)))
      ≡ log_numbers (rising (filter (is_idle l) l.flushed))
  idle_behind =
      filter_alike (is_idle_log number live) (idle_there l) (log_numbers (rising (sealed l)))
      (each (λ n. is_idle_log number live n ≡ idle_there l n) idle_same (log_numbers (rising (sealed l))))
      ∙ sym (map-filter (λ (s : Segment). s.number) (is_idle l) (idle_there l) (λ s. refl) (rising (sealed l)))
      ∙ ap log_numbers (sym (rising-filter (idle_there l) (sealed l))
      ∙ ap rising (none_pass (idle_there l) l.frozen l.flushed frozen_stay))

  -- So it is with what is kept.
  module _ {L : Type 0} (kept : Kept L) (logs : kept.logs ≡ log_numbers (rising (sealed l))) where
    pub switch_logs : (retiring l.epoch (is_idle_log number live) kept).logs
        ≡ log_numbers (rising (sealed (switched dropped l)))
    switch_logs =
        retiring_logs l.epoch (is_idle_log number live) kept
        ∙ ap (filter (λ (n : ℕ). not (is_idle_log number live n))) logs ∙ sym logs_behind

    pub switch_tables : (retiring l.epoch (is_idle_log number live) kept).tables ≡ kept.tables
    switch_tables = retiring_tables l.epoch (is_idle_log number live) kept

    pub switch_waits : (retiring l.epoch (is_idle_log number live) kept).trash
        ≡ kept.trash ++ gone_logs l.epoch (log_numbers (rising (filter (is_idle l) l.flushed)))
    switch_waits =
        retiring_wait l.epoch (is_idle_log number live) kept
        (subst AreDistinct (sym logs) (rising_distinct (sealed l)))
        ∙ ap (λ ns. kept.trash ++ gone_logs l.epoch ns) (ap (filter (is_idle_log number live)) logs ∙ idle_behind)

    pub switch_retired : all_retired (gone_logs {L = L} l.epoch (log_numbers (rising (filter (is_idle l) l.flushed))))
        ≡ map (retired_at l.epoch) (map log_of (rising (filter (is_idle l) l.flushed)))
    switch_retired = retired_logs L l.epoch (rising (filter (is_idle l) l.flushed))

-- ---- lists

pub all_more : {X : Type 0} (P : X → Type 0) (xs ys : List X) → AllByRecursion P xs → AllByRecursion P ys → AllByRecursion P (xs ++ ys)
all_more P [] ys a b = b
all_more P (x ∷ xs) ys a b = (a.0, all_more P xs ys a.1 b)

-- those that retire now are retired at the epoch
pub just_retired : (version : ℕ) (fs : List FileName)
    → AllByRecursion (λ (r : Retired). r.epoch ≤ version) (map (retired_at version) fs)
just_retired version [] = tt
just_retired version (f ∷ fs) = (omega arith, just_retired version fs)

pub aged_more : (m n : ℕ) → m ≤ n → (rs : List Retired) → AllByRecursion (λ (r : Retired). r.epoch ≤ m) rs
    → AllByRecursion (λ (r : Retired). r.epoch ≤ n) rs
aged_more m n less rs all =
    all_weaker (λ (r : Retired). r.epoch ≤ m) (λ (r : Retired). r.epoch ≤ n) (λ r is. omega (arith, less, is)) rs all

-- a table in front of level 0
pub front_tables : (P : laid.Table → Type 0) (t : laid.Table) (ls : List (List laid.Table)) → P t
    → AllByRecursion P (flat_map (λ level. level) ls) → AllByRecursion P (flat_map (λ level. level) (in_front t ls))
front_tables P t [] here all = tt
front_tables P t (level ∷ deeper) here all = (here, all)
