-- The version of an engine that was just opened has the layout at the start: its tables and logs are held as reads give them.
use Rattle.std.specs.Prelude.{◌≡◌, ◌<◌, ◌≤◌, ℕ, ◌==◌, nat_lt, Bool, true, false, if◌then◌else◌, List, [], ◌∷◌, ◌++◌}
use Rattle.std.specs.Prelude.{map, reverse, Option, Some, IsSome, Vec, refl}
use Rattle.std.specs.FinMap.{get}
use Rattle.std.specs.Global.{Global}
use Rattle.std.specs.List.{AllByRecursion, AllZip, filter}
use Rattle.std.specs.Ordering.{is_lt}
use Rattle.std.specs.declared.cmp.Ordering.{Ordering}
use Rattle.std.specs.declared.cmp.Ordering.TheVariants.{Equal, Greater, Less}
use Rattle.std.proofs.Common.{sym, ap, subst, ◌∙◌, arith, inl, inr}
use Rattle.std.proofs.lemmas.Bool.Decides.{nat_tests}
use Rattle.std.proofs.lemmas.List.{reverse-append}
use Rattle.vl_table.specs.body.Bytes.{IsTable, block_places, filter_bits, foot, footer_place, table_bytes}
use Rattle.vl_model.specs.Cutting.{blocks}
use Rattle.vl_table.specs.body.Shapes.{IsShapeOf}
use Rattle.vl_table.specs.declared.body.shape.TableShape.{TableShape}
use Rattle.vl_disk.specs.Crash.{Image}
use Rattle.vl_disk.specs.declared.name.Name.TheVariants as names
use Rattle.vl_engine_laws.specs.Begun.{as_led, layout_begun, led_below}
use Rattle.vl_engine_laws.specs.Files.{HasTable, found_levels, found_of}
use Rattle.vl_engine_laws.specs.Laid.{AreLevelsOf, AreTablesOf, HasLayout, HasLog, IsMemtableOf, IsTableOf}
use Rattle.vl_engine_laws.specs.Found.{AreLeveled}
use Rattle.vl_engine_laws.specs.Pointed.{bytes_of_log, segment_at}
use Rattle.vl_engine_laws.specs.Shown.{HasFramedAmong, Shown, tables_among}
use Rattle.vl_engine_laws.specs.laws.BegunLaws.{one_opening}
use Rattle.vl_engine_laws.specs.laws.BegunLevels.{AreDeeperApart, apart_shown}
use Rattle.vl_engine_laws.specs.laws.FileLaws.{all_back, all_each, all_front, all_more, has_numbered, segment_all, segment_number}
use Rattle.vl_engine_laws.specs.laws.LaidTables.{zip_more}
use Rattle.vl_engine_laws.specs.laws.LedLaws.{AreRisingNumbers, led_rise}
use Rattle.vl_engine_laws.specs.laws.StartLaws.{active_from, before_found, before_from, before_rise, each_sealed}
use Rattle.vl_engine_model.specs.Rising.{IsRising}
use Rattle.vl_engine_model.specs.Start.{has_frames, newest_first, number_of_log}
use Rattle.vl_engine_model.specs.Tidy.{sealed}
use Rattle.vl_engine_model.specs.TidyLevels.{IsApart}
use Rattle.vl_engine_model.specs.declared.layout.Layout.{Layout}
use Rattle.vl_engine_model.specs.declared.segment.Segment.{Segment}
use Rattle.vl_engine_model.specs.declared.table.Table as laid
use Rattle.vl_memtable.specs.declared.frozen_log.FrozenLog.{FrozenLog}
use Rattle.vl_model.specs.History.{History, last_number}
use Rattle.vl_model.specs.Keys.{key_cmp}
use Rattle.vl_model.specs.declared.entry.Entry.{Entry}
use Rattle.vl_recover.specs.opening.Answers.{Finds, HeldLog, held_log, logs_then}
use Rattle.vl_recover.specs.opening.FoundTables.{found_level, found_table}
use Rattle.vl_recover.specs.opening.HeldFiles.{AreHeldLogs, AreReadTables, IsHeldLog, IsReadLog, but_last}
use Rattle.vl_recover.specs.opening.HeldFiles as held
use Rattle.vl_recover.specs.opening.Opening.{FoundTable, IsAmong, Opening, led_into}
use Rattle.vl_recover.specs.opening.Plans.{active_log}
use Rattle.vl_recover.specs.opening.Results.{frozen_log}
use Rattle.vl_seglog.specs.Frames.{log_bytes}
use Rattle.vl_seglog.specs.LogReading.{HasHeader}
use Rattle.vl_seglog.specs.declared.sealed.SealedLog.{SealedLog}
use Rattle.vl_seglog.specs.laws.LogReadingLaws.{one_header_format, reads_written}
use Rattle.vl_table.specs.Opening.{Said, said_by, said_of}
use Rattle.vl_table.specs.Tables.{number_of, shape_of}
use Rattle.vl_table.specs.declared.table.Table.{Table}
use Rattle.vl_table.specs.laws.RangeLaws.{first_is, last_is}
use Rattle.vl_version.specs.Sources.{AreRising, AreTold, log_in}
use Rattle.vl_version.specs.declared.levels.Levels.{Levels}
use Rattle.vl_version.specs.declared.version.Version.{Version}
use Rattle.vl_version.specs.levels.LevelTables.{AreAllApart, AreApart, all_tables}
use Rattle.vl_version.specs.levels.LevelsLooked.{AreInOrder, tables_of}

-- ---- two lists side by side

module _ {A B : Type 0} (R : A → B → Type 0) where
  -- what is so of each on the one side, by what is so of those on the other
  zip_right : (P : A → Type 0) (Q : B → Type 0) → ((x : A) (y : B) → R x y → P x → Q y) → (xs : List A) (ys : List B)
      → AllZip R xs ys → AllByRecursion P xs → AllByRecursion Q ys
  zip_right P Q f [] [] zip all = tt
  zip_right P Q f [] (y ∷ ys) zip all = absurd zip
  zip_right P Q f (x ∷ xs) [] zip all = absurd zip
  zip_right P Q f (x ∷ xs) (y ∷ ys) zip all = (f x y zip.0 all.0, zip_right P Q f xs ys zip.1 all.1)

  zip_left : (P : A → Type 0) (Q : B → Type 0) → ((x : A) (y : B) → R x y → Q y → P x) → (xs : List A) (ys : List B)
      → AllZip R xs ys → AllByRecursion Q ys → AllByRecursion P xs
  zip_left P Q f [] [] zip all = tt
  zip_left P Q f [] (y ∷ ys) zip all = absurd zip
  zip_left P Q f (x ∷ xs) [] zip all = absurd zip
  zip_left P Q f (x ∷ xs) (y ∷ ys) zip all = (f x y zip.0 all.0, zip_left P Q f xs ys zip.1 all.1)

-- ---- memtables

memtables_zip : (fs : List FrozenLog) (ss : List Segment) → map frozen_log fs ≡ map held_log ss → AllZip IsMemtableOf fs ss
memtables_zip [] [] same = tt
memtables_zip [] (s ∷ ss) same = absurd cc
memtables_zip (f ∷ fs) [] same = absurd cc
memtables_zip (f ∷ fs) (s ∷ ss) same =
    let here : frozen_log f ≡ held_log s = cc in
    let later : map frozen_log fs ≡ map held_log ss = cc in (
      record { number = ap (λ (l : HeldLog). l.number) here; entries = ap (λ (l : HeldLog). l.entries) here },
      memtables_zip fs ss later,
    )

newest_zip : (fs : List FrozenLog) (ss : List Segment) → AllZip IsMemtableOf fs ss → AllZip IsMemtableOf (reverse fs) (newest_first ss)
newest_zip [] [] zip = tt
newest_zip [] (s ∷ ss) zip = absurd zip
newest_zip (f ∷ fs) [] zip = absurd zip
newest_zip (f ∷ fs) (s ∷ ss) zip =
    subst (λ (gs : List FrozenLog). AllZip IsMemtableOf gs (newest_first ss ++ s ∷ [])) (sym (reverse-append (f ∷ []) fs))
    (zip_more IsMemtableOf (reverse fs) (f ∷ []) (newest_first ss) (s ∷ []) (newest_zip fs ss zip.1) (zip.0, tt))

-- ---- tables

shape_is : (number format : ℕ) (es : List Entry) (s : TableShape) → s.number ≡ number → said_by s ≡ said_of format es
    → IsTable format number es → IsShapeOf s.number es s
shape_is number format es s numbered said table =
    let formats : s.format ≡ format = ap (λ (x : Said). x.format) said in
    record {
      numbered = refl;
      table = subst (λ (n : ℕ). IsTable s.format n es) (sym numbered) (subst (λ (f : ℕ). IsTable f number es) (sym formats) table);
      foot = ap (λ (x : Said). x.foot) said ∙ sym (ap (λ (f : ℕ). foot f es (blocks f es)) formats);
      place = ap (λ (x : Said). x.place) said ∙ sym (ap (λ (f : ℕ). footer_place f es (blocks f es)) formats);
      blocks = ap (λ (x : Said). x.places) said ∙ sym (ap (λ (f : ℕ). block_places f 16 (blocks f es)) formats);
      filter = ap (λ (x : Said). x.bits) said ∙ sym (ap (λ (f : ℕ). filter_bits f es) formats);
    }

module _ {H : Type 0} (bytes : H → Option (List ℕ)) (read : Image) where
  abbrev IsTold : Table H → Type 0
  IsTold t = bytes t.held ≡ get read (names.Table (number_of t))

  table_is : (t : Table H) (u : laid.Table) → found_table t ≡ found_of u → IsTold t → HasTable read u → IsTableOf bytes t u
  table_is t u same told has =
      let number : number_of t ≡ u.number = ap (λ (x : FoundTable). x.number) same in
      let said : said_by (shape_of t) ≡ said_of u.format u.entries = ap (λ (x : FoundTable). x.said) same in
      let formats : (shape_of t).format ≡ u.format = ap (λ (x : Said). x.format) said in
      record {
        of = record {
          shape = shape_is u.number u.format u.entries (shape_of t) number said has.is.table;
          told = told ∙ ap (λ (n : ℕ). get read (names.Table n)) number ∙ has.stands
              ∙ sym (ap (λ (f : ℕ). Some (table_bytes f u.number u.entries)) formats)
              ∙ sym (ap (λ (n : ℕ). Some (table_bytes (shape_of t).format n u.entries)) number);
        };
        number = number;
        format = formats;
      }

  level_zip : (ts : List (Table H)) (us : List laid.Table) → map found_table ts ≡ map found_of us → AllByRecursion IsTold ts
      → AllByRecursion (HasTable read) us → AllZip (IsTableOf bytes) ts us
  level_zip [] [] same told have = tt
  level_zip [] (u ∷ us) same told have = absurd cc
  level_zip (t ∷ ts) [] same told have = absurd cc
  level_zip (t ∷ ts) (u ∷ us) same told have =
      let here : found_table t ≡ found_of u = cc in
      let later : map found_table ts ≡ map found_of us = cc in
      (table_is t u here told.0 have.0, level_zip ts us later told.1 have.1)

  -- level by level
  abbrev AreReadLevels : List (Vec (Table H) Global) → List (List laid.Table) → Type 0
  AreReadLevels levels ls = AllZip (λ (v : Vec (Table H) Global) (us : List laid.Table). AllZip (IsTableOf bytes) v.items us) levels ls

  levels_zip : (levels : List (Vec (Table H) Global)) (ls : List (List laid.Table)) → map found_level levels ≡ found_levels ls
      → AllByRecursion IsTold (held.tables_of levels) → AllByRecursion (HasTable read) (tables_among ls) → AreReadLevels levels ls
  levels_zip [] [] same told have = tt
  levels_zip [] (us ∷ ls) same told have = absurd cc
  levels_zip (v ∷ levels) [] same told have = absurd cc
  levels_zip (v ∷ levels) (us ∷ ls) same told have =
      let here : map found_table v.items ≡ map found_of us = cc in
      let later : map found_level levels ≡ found_levels ls = cc in (
        level_zip v.items us here (all_front IsTold v.items (held.tables_of levels) told)
            (all_front (HasTable read) us (tables_among ls) have),
        levels_zip levels ls later (all_back IsTold v.items (held.tables_of levels) told)
            (all_back (HasTable read) us (tables_among ls) have),
      )

  items_zip : (levels : List (Vec (Table H) Global)) (ls : List (List laid.Table)) → AreReadLevels levels ls
      → AllZip (AreTablesOf bytes) (map (λ (v : Vec (Table H) Global). v.items) levels) ls
  items_zip [] [] zip = tt
  items_zip [] (us ∷ ls) zip = absurd zip
  items_zip (v ∷ levels) [] zip = absurd zip
  items_zip (v ∷ levels) (us ∷ ls) zip = (zip.0, items_zip levels ls zip.1)

  -- so it is with the levels that are made of them
  leveled_zip : (levels : List (Vec (Table H) Global)) (ls : List (List laid.Table)) (made : Levels H) → AreLeveled levels made
      → AreReadLevels levels ls → AreLevelsOf bytes made ls
  leveled_zip [] ls made is zip = absurd is
  leveled_zip (v ∷ levels) [] made is zip = absurd zip
  leveled_zip (v ∷ levels) (us ∷ ls) made is zip = (
    subst (λ (w : Vec (Table H) Global). AreTablesOf bytes w.items us) (sym is.0) zip.0,
    subst (λ (ts : List (List (Table H))). AllZip (AreTablesOf bytes) ts ls) (sym is.1) (items_zip levels ls zip.1),
  )

  less_is : (r : Ordering) → is_lt r ≡ true → r ≡ Less
  less_is Less is = refl
  less_is Equal is = absurd cc
  less_is Greater is = absurd cc

  apart_is : (ts : List (Table H)) (us : List laid.Table) → AllZip (IsTableOf bytes) ts us → AllByRecursion (HasTable read) us
      → IsApart us → AreApart ts
  apart_is [] [] zip have apart = tt
  apart_is [] (u ∷ us) zip have apart = absurd zip
  apart_is (t ∷ ts) [] zip have apart = absurd zip
  apart_is (t ∷ []) (u ∷ us) zip have apart = tt
  apart_is (t ∷ s ∷ ts) (u ∷ []) zip have apart = absurd zip.1
  apart_is (t ∷ s ∷ ts) (u ∷ v ∷ us) zip have apart =
      let first : (shape_of s).footer.first ≡ v.first =
      first_is (number_of s) (shape_of s) v.entries zip.1.0.of.shape ∙ sym (ap (λ (x : laid.Table). x.first) have.1.0.is.laid) in
      let last : (shape_of t).footer.last ≡ u.last =
      last_is (number_of t) (shape_of t) u.entries zip.0.of.shape ∙ sym (ap (λ (x : laid.Table). x.last) have.0.is.laid) in (
        (λ i. key_cmp (last i) (first i)) ∙ less_is (key_cmp u.last v.first) apart.0.0,
        apart_is (s ∷ ts) (v ∷ us) zip.1 have.1 apart.1,
      )

  all_apart : (levels : List (Vec (Table H) Global)) (ls : List (List laid.Table)) → AreReadLevels levels ls
      → AllByRecursion (HasTable read) (tables_among ls) → AllByRecursion IsApart ls
      → AreAllApart (map (λ (v : Vec (Table H) Global). v.items) levels)
  all_apart [] [] zip have apart = tt
  all_apart [] (us ∷ ls) zip have apart = absurd zip
  all_apart (v ∷ levels) [] zip have apart = absurd zip
  all_apart (v ∷ levels) (us ∷ ls) zip have apart = (
    apart_is v.items us zip.0 (all_front (HasTable read) us (tables_among ls) have) apart.0,
    all_apart levels ls zip.1 (all_back (HasTable read) us (tables_among ls) have) apart.1,
  )

  all_flat : (levels : List (Vec (Table H) Global))
      → all_tables (map (λ (v : Vec (Table H) Global). v.items) levels) ≡ held.tables_of levels
  all_flat [] = refl
  all_flat (v ∷ levels) = ap (λ (ts : List (Table H)). v.items ++ ts) (all_flat levels)

  -- the levels that are made of them
  pub leveled_tables : (levels : List (Vec (Table H) Global)) (made : Levels H) → AreLeveled levels made
      → held.tables_of levels ≡ tables_of made
  leveled_tables [] made is = absurd is
  leveled_tables (v ∷ levels) made is =
      ap (λ (ts : List (Table H)). v.items ++ ts) (sym (all_flat levels))
      ∙ ap (λ (ts : List (Table H)). ts ++ all_tables (map (λ (w : Vec (Table H) Global). w.items) levels))
      (sym (ap (λ (w : Vec (Table H) Global). w.items) is.0))
      ∙ ap (λ (ls : List (List (Table H))). made.newest.items ++ all_tables ls) (sym is.1)

  leveled_order : (levels : List (Vec (Table H) Global)) (ls : List (List laid.Table)) (made : Levels H) → AreLeveled levels made
      → AreReadLevels levels ls → AllByRecursion (HasTable read) (tables_among ls) → AreDeeperApart read ls → AreInOrder made
  leveled_order [] ls made is zip have apart = absurd is
  leveled_order (v ∷ levels) [] made is zip have apart = absurd zip
  leveled_order (v ∷ levels) (us ∷ ls) made is zip have apart = subst AreAllApart (sym is.1)
      (all_apart levels ls zip.1 (all_back (HasTable read) us (tables_among ls) have) apart)

-- ---- logs

module _ {A B : Type 0} (k : A → ℕ) (m : B → ℕ) (R : A → B → Type 0) (keys : (x : A) (y : B) → R x y → k x ≡ m y) where
  zip_rises : (xs : List A) (ys : List B) → AllZip R xs ys → IsRising m ys → IsRising k xs
  zip_rises [] [] zip rising = tt
  zip_rises [] (y ∷ ys) zip rising = absurd zip
  zip_rises (x ∷ xs) [] zip rising = absurd zip
  zip_rises (x ∷ xs) (y ∷ ys) zip rising = (
    zip_left R (λ (z : A). k x < k z) (λ (w : B). m y < m w)
        (λ z w is less. omega (arith, less, keys z w is, keys x y zip.0)) xs ys zip.1 rising.0,
    zip_rises xs ys zip.1 rising.1,
  )

rising_both : {A : Type 0} (k : A → ℕ) (between : ℕ) (xs ys : List A) → IsRising k xs → IsRising k ys
    → AllByRecursion (λ (x : A). k x < between) xs → AllByRecursion (λ (y : A). between ≤ k y) ys → IsRising k (xs ++ ys)
rising_both k between [] ys first second below above = second
rising_both {A} k between (x ∷ xs) ys first second below above = (
  all_more (λ (y : A). k x < k y) xs ys first.0
      (all_each (λ (y : A). between ≤ k y) (λ (y : A). k x < k y) ys
      (λ y from. (let less = below.0 in omega (arith, from, less))) above),
  rising_both k between xs ys first.1 second below.1 above,
)

abbrev below_head : ℕ → List ℕ → List ℕ
below_head head ns = filter (λ (n : ℕ). nat_lt n head) ns

module _ (head : ℕ) where
  filtered_less : (ns : List ℕ) → AllByRecursion (λ (n : ℕ). n < head) (below_head head ns)
  filtered_less [] = tt
  filtered_less (n ∷ ns) = by (nat_lt n head) refl (filtered_less ns)
    where
      by : (b : Bool) → nat_lt n head ≡ b → AllByRecursion (λ (m : ℕ). m < head) (below_head head ns)
          → AllByRecursion (λ (m : ℕ). m < head) (if b then n ∷ below_head head ns else below_head head ns)
      by true is later = ((let less : n < head = grind (arith, nat_tests, is) in less), later)
      by false is later = later

  filtered_all : (P : ℕ → Type 0) (ns : List ℕ) → AllByRecursion P ns → AllByRecursion P (below_head head ns)
  filtered_all P [] all = tt
  filtered_all P (n ∷ ns) all = by (nat_lt n head) (filtered_all P ns all.1)
    where
      by : (b : Bool) → AllByRecursion P (below_head head ns)
          → AllByRecursion P (if b then n ∷ below_head head ns else below_head head ns)
      by true later = (all.0, later)
      by false later = later

  filtered_rises : (ns : List ℕ) → AreRisingNumbers ns → AreRisingNumbers (below_head head ns)
  filtered_rises [] rising = tt
  filtered_rises (n ∷ ns) rising = by (nat_lt n head) (filtered_rises ns rising.1)
    where
      by : (b : Bool) → AreRisingNumbers (below_head head ns)
          → AreRisingNumbers (if b then n ∷ below_head head ns else below_head head ns)
      by true later = (filtered_all (λ (k : ℕ). n < k) ns rising.0, later)
      by false later = later

among_all : (P : ℕ → Type 0) (ns : List ℕ) → ((n : ℕ) → IsAmong ns n → P n) → AllByRecursion P ns
among_all P [] each = tt
among_all P (n ∷ ns) each = (each n (inl refl), among_all P ns (λ k is. each k (inr is)))

module _ {H : Type 0} (bytes : H → Option (List ℕ)) where
  abbrev log_number : SealedLog H → ℕ
  log_number log = log.number

  are_rising : (logs : List (SealedLog H)) → IsRising log_number logs → AreRising logs
  are_rising [] rising = tt
  are_rising (x ∷ []) rising = tt
  are_rising (x ∷ y ∷ logs) rising = (rising.0.0, are_rising (y ∷ logs) rising.1)

  -- each of them is found by its number
  each_in : (logs : List (SealedLog H)) → IsRising log_number logs
      → AllByRecursion (λ (x : SealedLog H). log_in logs x.number ≡ Some x) logs
  each_in [] rising = tt
  each_in (x ∷ logs) rising = (here, behind logs rising.0 (each_in logs rising.1))
    where
      here : (if x.number == x.number then Some x else log_in logs x.number) ≡ Some x
      here =
          let same : (x.number == x.number) ≡ true = grind (arith, nat_tests) in
          ap (λ (b : Bool). if b then Some x else log_in logs x.number) same

      behind : (ys : List (SealedLog H)) → AllByRecursion (λ (y : SealedLog H). x.number < y.number) ys
          → AllByRecursion (λ (y : SealedLog H). log_in logs y.number ≡ Some y) ys
          → AllByRecursion (λ (y : SealedLog H). log_in (x ∷ logs) y.number ≡ Some y) ys
      behind [] less all = tt
      behind (y ∷ ys) less all =
          let below : x.number < y.number = less.0 in
          let other : (x.number == y.number) ≡ false = grind (arith, nat_tests, below) in
          (ap (λ (b : Bool). if b then Some x else log_in logs y.number) other ∙ all.0, behind ys less.1 all.1)

  module _ (logs : List (SealedLog H)) where
    abbrev IsIn : SealedLog H → Type 0
    IsIn x = log_in logs x.number ≡ Some x

    abbrev IsHad : Segment → Type 0
    IsHad s = HasLog bytes logs s.number s

    upper_had : (upper : List (SealedLog H)) (ss : List Segment) → AllZip (IsHeldLog bytes) upper ss → AllByRecursion IsIn upper
        → AllByRecursion IsHad ss
    upper_had = zip_right (IsHeldLog bytes) IsIn IsHad (λ log s is at. record {
      log = log;
      at = subst (λ (m : ℕ). log_in logs m ≡ Some log) is.number_is at;
      is = record { number = is.number_is; format = is.format_is; told = is.told };
    })

  module _ {read : Image} {among : List Segment} (logs : List (SealedLog H)) (head : ℕ) where
    -- a log below head is held as it is shown
    one_read : (log : SealedLog H) (n : ℕ) → IsReadLog bytes read log n → IsIn logs log → (has : HasFramedAmong read among n)
        → IsHad logs (as_led n has)
    one_read log n reads at has =
        let s = has.is.log in
        let number : s.number ≡ n = segment_number among n s has.is.at in
        let there = has_numbered read among n has in
        let written = reads_written s.format s.number has.has.is.readable s.frames has.has.is.have in
        record {
          log = log;
          at = subst (λ (m : ℕ). log_in logs m ≡ Some log) reads.number_is at;
          is = record {
            number = reads.number_is;
            format = one_header_format n (bytes_of_log s) log.format s.format reads.format has.has.is.readable
                (reads.header (bytes_of_log s) there)
                (subst (λ (m : ℕ). HasHeader s.format m (bytes_of_log s)) number written.header.1);
            told = reads.told ∙ there ∙ ap (λ (m : ℕ). Some (log_bytes s.format m s.frames)) number;
          };
        }

    lower_had : (ns : List ℕ) (led : (n : ℕ) → IsAmong ns n → HasFramedAmong read among n) (lower : List (SealedLog H))
        → AllZip (IsReadLog bytes read) lower (below_head head ns) → AllByRecursion (IsIn logs) lower
        → AllByRecursion (IsHad logs) (led_below head ns led)
    lower_had [] led lower zip ats = tt
    lower_had (n ∷ ns) led lower zip ats =
        by (nat_lt n head) (lower_had ns (λ m is. led m (inr is))) lower zip ats
      where
        by : (b : Bool) → ((xs : List (SealedLog H)) → AllZip (IsReadLog bytes read) xs (below_head head ns) → AllByRecursion (IsIn logs) xs
            → AllByRecursion (IsHad logs) (led_below head ns (λ m is. led m (inr is))))
            → (xs : List (SealedLog H)) → AllZip (IsReadLog bytes read) xs (if b then n ∷ below_head head ns else below_head head ns)
            → AllByRecursion (IsIn logs) xs
            → AllByRecursion (IsHad logs) (if b then as_led n (led n (inl refl)) ∷ led_below head ns (λ m is. led m (inr is))
            else led_below head ns (λ m is. led m (inr is)))
        by true later [] side all = absurd side
        by true later (x ∷ xs) side all = (one_read x n side.0 all.0 (led n (inl refl)), later xs side.1 all.1)
        by false later xs side all = later xs side all

-- ---- all of it

module _ {H : Type 0} (bytes : H → Option (List ℕ)) {read : Image} (found : Finds read) (h : History)
    (shown : Shown read h (last_number h)) (room : ℕ) where
  abbrev begun : Layout
  begun = layout_begun room found shown (but_last (logs_then found))

  abbrev before : List Segment
  before = but_last (logs_then found)

  abbrev head : ℕ
  head = found.opening.state.head

  abbrev active : ℕ
  active = active_log found.greatest found.opening.state found.logs

  abbrev led : List ℕ
  led = led_into shown.opening.levels

  module _ (logs : List (SealedLog H)) (are : AreHeldLogs bytes found logs) where
    lower_are : AllZip (IsReadLog bytes read) are.lower (below_head head led)
    lower_are = subst (λ (o : Opening). AllZip (IsReadLog bytes read) are.lower (below_head head (led_into o.levels)))
        (sym (one_opening found h shown room)) are.lower_are

    lower_less : AllByRecursion (λ (x : SealedLog H). x.number < head) are.lower
    lower_less = zip_left (IsReadLog bytes read) (λ (x : SealedLog H). x.number < head) (λ (n : ℕ). n < head)
        (λ x n is less. omega (arith, is.number_is, less)) are.lower (below_head head led) lower_are (filtered_less head led)

    upper_from : AllByRecursion (λ (x : SealedLog H). head ≤ x.number) are.upper
    upper_from = zip_left (IsHeldLog bytes) (λ (x : SealedLog H). head ≤ x.number) (λ (s : Segment). head ≤ s.number)
        (λ x s is from. omega (arith, is.number_is, from)) are.upper before are.upper_are (before_from found)

    both_rise : IsRising (log_number bytes) (are.lower ++ are.upper)
    both_rise = rising_both (log_number bytes) head are.lower are.upper
        (zip_rises (log_number bytes) (λ (n : ℕ). n) (IsReadLog bytes read) (λ x n is. is.number_is) are.lower (below_head head led)
        lower_are (filtered_rises head led (led_rise shown.opening.levels)))
        (zip_rises (log_number bytes) number_of_log (IsHeldLog bytes) (λ x s is. is.number_is) are.upper before are.upper_are
        (before_rise found).0)
        lower_less upper_from

    logs_rise : IsRising (log_number bytes) logs
    logs_rise = subst (IsRising (log_number bytes)) (sym are.split) both_rise

    some_told : (log : SealedLog H) (bs : List ℕ) → bytes log.held ≡ Some bs → IsSome (bytes log.held)
    some_told log bs is = subst IsSome (sym is) refl

    logs_told : AreTold bytes logs
    logs_told = record {
      told = subst (AllByRecursion (λ (x : SealedLog H). IsSome (bytes x.held))) (sym are.split)
          (all_more (λ (x : SealedLog H). IsSome (bytes x.held)) are.lower are.upper
          (zip_left (IsReadLog bytes read) (λ (x : SealedLog H). IsSome (bytes x.held)) (λ (n : ℕ). IsSome (get read (names.Log n)))
          (λ x n is some. subst IsSome (sym is.told) some) are.lower (below_head head led) lower_are
          (filtered_all head (λ (n : ℕ). IsSome (get read (names.Log n))) led
          (among_all (λ (n : ℕ). IsSome (get read (names.Log n))) led
          (λ n is. subst IsSome (sym (has_numbered read shown.sealed n (shown.led n is))) refl))))
          (zip_left (IsHeldLog bytes) (λ (x : SealedLog H). IsSome (bytes x.held)) (λ (s : Segment). Unit {0})
          (λ x s is some. some_told x (log_bytes s.format s.number s.frames) is.told) are.upper before are.upper_are (everything before)));
      rising = are_rising bytes logs logs_rise;
    }
      where
        everything : (ss : List Segment) → AllByRecursion (λ (s : Segment). Unit {0}) ss
        everything [] = tt
        everything (s ∷ ss) = (tt, everything ss)

    logs_below : AllByRecursion (λ (x : SealedLog H). x.number < active) logs
    logs_below = subst (AllByRecursion (λ (x : SealedLog H). x.number < active)) (sym are.split)
        (all_more (λ (x : SealedLog H). x.number < active) are.lower are.upper
        (all_each (λ (x : SealedLog H). x.number < head) (λ (x : SealedLog H). x.number < active) are.lower
        (λ x less. (let from = active_from found in omega (arith, less, from))) lower_less)
        (zip_left (IsHeldLog bytes) (λ (x : SealedLog H). x.number < active) (λ (s : Segment). s.number < active)
        (λ x s is less. omega (arith, is.number_is, less)) are.upper before are.upper_are (before_rise found).1))

    each_is_in : AllByRecursion (λ (x : SealedLog H). log_in logs x.number ≡ Some x) (are.lower ++ are.upper)
    each_is_in = subst (AllByRecursion (λ (x : SealedLog H). log_in logs x.number ≡ Some x)) are.split (each_in bytes logs logs_rise)

    sealed_had : AllByRecursion (λ (s : Segment). HasLog bytes logs s.number s) (sealed begun)
    sealed_had = each_sealed (λ (s : Segment). HasLog bytes logs s.number s) before (led_below head led shown.led)
        (upper_had bytes logs are.upper before are.upper_are
        (all_back (λ (x : SealedLog H). log_in logs x.number ≡ Some x) are.lower are.upper each_is_in))
        (lower_had bytes {read = read} {among = shown.sealed} logs head led shown.led are.lower lower_are
        (all_front (λ (x : SealedLog H). log_in logs x.number ≡ Some x) are.lower are.upper each_is_in))

    logs_had : (n : ℕ) (s : Segment) → segment_at (sealed begun) n ≡ Some s → HasLog bytes logs n s
    logs_had n s at = subst (λ (m : ℕ). HasLog bytes logs m s) (segment_number (sealed begun) n s at)
        (segment_all (λ (x : Segment). HasLog bytes logs x.number x) (sealed begun) n s sealed_had at)

  -- What an engine makes of what it holds is the layout at the start.
  pub begun_has : (version : Version H) (frozen : List FrozenLog) (levels : List (Vec (Table H) Global)) (logs : List (SealedLog H))
      → version.active.entries ≡ [] → version.behind.frozen.items ≡ reverse frozen → AreLeveled levels version.behind.levels
      → version.behind.logs.items ≡ logs
      → map frozen_log frozen ≡ map held_log found.opening.logs → map found_level levels ≡ found.opening.levels
      → AreReadTables bytes read (held.tables_of levels) → AreHeldLogs bytes found logs
      → HasLayout bytes version (layout_begun room found shown (but_last (logs_then found)))
  begun_has version frozen levels logs active_is frozen_is leveled logs_are memtables said told are = record {
    active = active_is;
    frozen = subst (λ (fs : List FrozenLog). AllZip IsMemtableOf fs (newest_first (filter has_frames before))) (sym frozen_is)
        (subst (λ (ss : List Segment). AllZip IsMemtableOf (reverse frozen) (newest_first ss)) (sym (before_found found))
        (newest_zip frozen found.opening.logs (memtables_zip frozen found.opening.logs memtables)));
    levels = leveled_zip bytes read levels shown.levels version.behind.levels leveled zip;
    in_order = leveled_order bytes read levels shown.levels version.behind.levels leveled zip shown.tables (apart_shown found h shown room);
    logs = subst (λ (ls : List (SealedLog H)). (n : ℕ) (s : Segment) → segment_at (sealed begun) n ≡ Some s → HasLog bytes ls n s)
        (sym logs_are) (logs_had logs are);
    told = subst (AreTold bytes) (sym logs_are) (logs_told logs are);
    below = subst (AllByRecursion (λ (x : SealedLog H). x.number < active)) (sym logs_are) (logs_below logs are);
  }
    where
      zip : AreReadLevels bytes read levels shown.levels
      zip = levels_zip bytes read levels shown.levels
          (said ∙ ap (λ (o : Opening). o.levels) (sym (one_opening found h shown room)) ∙ shown.found) told shown.tables
