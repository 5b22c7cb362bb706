-- What is made of a version of how long its logs are and of what its tables lead to is the layout's.
use Rattle.std.specs.Prelude.{◌≡◌, ◌<◌, ◌+◌, ℕ, Bool, true, false, ◌==◌, ◌||◌, if◌then◌else◌, length}
use Rattle.std.specs.Prelude.{List, [], ◌∷◌, ◌++◌, map, Option, None, Some, refl}
use Rattle.std.specs.List.{AllByRecursion, AllZip, filter, list_any}
use Rattle.std.specs.Ordering.{nat_cmp}
use Rattle.std.specs.declared.cmp.Ordering.TheVariants.{Less, Equal, Greater}
use Rattle.std.specs.declared.cmp.Ordering.{Ordering}
use Rattle.std.proofs.Common.{sym, ap, subst, ◌∙◌, append_assoc, arith}
use Rattle.std.proofs.lemmas.Bool.Decides.{nat_tests}
use Rattle.std.proofs.lemmas.Cmp.{ranked}
use Rattle.vl_table.specs.body.Footer.{Foot}
use Rattle.vl_model.specs.declared.point.Point.{Point}
use Rattle.vl_engine_laws.specs.Laid.{HasLog, IsLogOf, IsTableOf}
use Rattle.vl_engine_laws.specs.Pointed.{bytes_of_log, segment_at}
use Rattle.vl_engine_laws.specs.laws.SegmentLaws.{segment_there}
use Rattle.vl_engine_model.specs.Jobs.{AreDistinct}
use Rattle.vl_engine_model.specs.Levels.{is_among}
use Rattle.vl_engine_model.specs.Sources.{put_segment, rising}
use Rattle.vl_engine_model.specs.Tidy.{IsTrueLog, IsTrueTable, log_numbers}
use Rattle.vl_engine_model.specs.declared.segment.Segment.{Segment}
use Rattle.vl_engine_model.specs.declared.table.Table as laid
use Rattle.vl_model.specs.Entries.{by_order}
use Rattle.vl_model.specs.Numbers.{has}
use Rattle.vl_seglog.specs.declared.sealed.SealedLog.{SealedLog}
use Rattle.vl_seglog.specs.laws.FrameLaws.{length-log_bytes}
use Rattle.vl_table.specs.Tables.{shape_of}
use Rattle.vl_table.specs.declared.table.Table.{Table}
use Rattle.vl_version.specs.Bases.{is_input}
use Rattle.vl_version.specs.Sources.{AreRising, log_in}

-- ---- tables

module _ {H : Type 0} (bytes : H → Option (List ℕ)) where
  abbrev points : Table H → List Point
  points t = (shape_of t).footer.points.items

  abbrev laid_points : laid.Table → List Point
  laid_points t = t.points

  pub points_are : (table : Table H) (t : laid.Table) → IsTableOf bytes table t → IsTrueTable t → points table ≡ laid_points t
  points_are table t is true_table =
      ap (λ (f : Foot). f.points) is.of.shape.foot ∙ sym (ap laid_points true_table)

  pub points_held : (ts : List (Table H)) (us : List laid.Table) → AllZip (IsTableOf bytes) ts us → AllByRecursion IsTrueTable us
      → map points ts ≡ map laid_points us
  points_held [] [] zip true_tables = refl
  points_held [] (u ∷ us) zip true_tables = absurd zip
  points_held (t ∷ ts) [] zip true_tables = absurd zip
  points_held (t ∷ ts) (u ∷ us) zip true_tables =
      ap (λ (p : List Point). p ∷ map points ts) (points_are t u zip.0 true_tables.0)
      ∙ ap (λ (ps : List (List Point)). laid_points u ∷ ps) (points_held ts us zip.1 true_tables.1)

  -- the same of those with some numbers
  pub inputs_held : (ns : List ℕ) (ts : List (Table H)) (us : List laid.Table) → AllZip (IsTableOf bytes) ts us
      → AllByRecursion IsTrueTable us → map points (filter (is_input ns) ts) ≡ map laid_points (filter (is_among ns) us)
  inputs_held ns [] [] zip true_tables = refl
  inputs_held ns [] (u ∷ us) zip true_tables = absurd zip
  inputs_held ns (t ∷ ts) [] zip true_tables = absurd zip
  inputs_held ns (t ∷ ts) (u ∷ us) zip true_tables =
      by (is_input ns t) (is_among ns u) same (inputs_held ns ts us zip.1 true_tables.1)
    where
      same : is_input ns t ≡ is_among ns u
      same = ap (λ (n : ℕ). list_any (λ (number : ℕ). number == n) ns) zip.0.number

      by : (a b : Bool) → a ≡ b → map points (filter (is_input ns) ts) ≡ map laid_points (filter (is_among ns) us)
          → map points (if a then t ∷ filter (is_input ns) ts else filter (is_input ns) ts)
          ≡ map laid_points (if b then u ∷ filter (is_among ns) us else filter (is_among ns) us)
      by true true e later =
          ap (λ (p : List Point). p ∷ map points (filter (is_input ns) ts)) (points_are t u zip.0 true_tables.0)
          ∙ ap (λ (ps : List (List Point)). laid_points u ∷ ps) later
      by false false e later = later
      by true false e later = absurd cc
      by false true e later = absurd cc

-- ---- numbers that rise

abbrev pub AreUp : List ℕ → Type 0
AreUp [] = Unit {0}
AreUp (n ∷ ns) = AllByRecursion (λ (m : ℕ). n < m) ns × AreUp ns

pub has_above : (n k : ℕ) (ms : List ℕ) → AllByRecursion (λ (m : ℕ). k < m) ms → has n ms ≡ true → k < n
has_above n k [] all is = absurd cc
has_above n k (m ∷ ms) all is = by (m == n) refl is (λ later. has_above n k ms all.1 later)
  where
    by : (b : Bool) → (m == n) ≡ b → (b || has n ms) ≡ true → (has n ms ≡ true → k < n) → k < n
    by true same e later =
        let less : k < m = all.0 in
        let one : m ≡ n = grind (arith, nat_tests, same) in
        omega (arith, less, one)
    by false other e later = later e

-- of a number that is among others: it is the first, or among those behind
pub first_or_later : (P : Type 0) (n m : ℕ) (ms : List ℕ) → has n (m ∷ ms) ≡ true → (m ≡ n → P) → (has n ms ≡ true → P) → P
first_or_later P n m ms is first later = by (m == n) refl is
  where
    by : (b : Bool) → (m == n) ≡ b → (b || has n ms) ≡ true → P
    by true same e = first (grind (arith, nat_tests, same))
    by false other e = later e

pub has_first : (n : ℕ) (ns : List ℕ) → has n (n ∷ ns) ≡ true
has_first n ns =
    let same : (n == n) ≡ true = grind (arith, nat_tests) in
    ap (λ (b : Bool). b || has n ns) same

pub has_later : (n m : ℕ) (ms : List ℕ) → has n ms ≡ true → has n (m ∷ ms) ≡ true
has_later n m ms is = by (m == n)
  where
    by : (b : Bool) → (b || has n ms) ≡ true
    by true = refl
    by false = is

-- two of them with the same numbers are one
same_up : (ns ms : List ℕ) → AreUp ns → AreUp ms → ((k : ℕ) → has k ns ≡ true → has k ms ≡ true)
    → ((k : ℕ) → has k ms ≡ true → has k ns ≡ true) → ns ≡ ms
same_up [] [] up on there back = refl
same_up [] (m ∷ ms) up on there back = absurd (let e = back m (has_first m ms) in cc)
same_up (n ∷ ns) [] up on there back = absurd (let e = there n (has_first n ns) in cc)
same_up (n ∷ ns) (m ∷ ms) up on there back =
    ap (λ (k : ℕ). k ∷ ns) first ∙ ap (λ (ks : List ℕ). m ∷ ks)
    (same_up ns ms up.1 on.1
    (λ k is. let above = has_above k n ns up.0 is in
    first_or_later (has k ms ≡ true) k m ms (there k (has_later k n ns is)) (λ e. absurd (omega (arith, above, e, first))) (λ e. e))
    (λ k is. let above = has_above k m ms on.0 is in
    first_or_later (has k ns ≡ true) k n ns (back k (has_later k m ms is)) (λ e. absurd (omega (arith, above, e, first))) (λ e. e)))
  where
    first : n ≡ m
    first = first_or_later (n ≡ m) n m ms (there n (has_first n ns)) (λ e. sym e)
        (λ later. let above = has_above n m ms on.0 later in
        first_or_later (n ≡ m) m n ns (back m (has_first m ms)) (λ e. e)
        (λ more. let below = has_above m n ns up.0 more in absurd (omega (arith, above, below))))

-- ---- rising logs

put_has : (k : ℕ) (s : Segment) (ts : List Segment)
    → has k (log_numbers (put_segment s ts)) ≡ ((s.number == k) || has k (log_numbers ts))
put_has k s [] = refl
put_has k s (t ∷ ts) = by (nat_cmp s.number t.number) refl (put_has k s ts)
  where
    swap : (a b c : Bool) → (a || (b || c)) ≡ (b || (a || c))
    swap true true c = refl
    swap true false c = refl
    swap false true c = refl
    swap false false c = refl

    twice : (a b c : Bool) → a ≡ b → (a || c) ≡ (a || (b || c))
    twice true b c e = refl
    twice false true c e = absurd cc
    twice false false c e = refl

    by : (r : Ordering) → nat_cmp s.number t.number ≡ r
        → has k (log_numbers (put_segment s ts)) ≡ ((s.number == k) || has k (log_numbers ts))
        → has k (log_numbers (by_order r (s ∷ t ∷ ts) (s ∷ ts) (t ∷ put_segment s ts)))
        ≡ ((s.number == k) || ((t.number == k) || has k (log_numbers ts)))
    by Less is later = refl
    by Equal is later =
        let same : s.number ≡ t.number = ranked s.number t.number Equal (sym is) in
        twice (s.number == k) (t.number == k) (has k (log_numbers ts)) (ap (λ (n : ℕ). n == k) same)
    by Greater is later =
        ap (λ (b : Bool). (t.number == k) || b) later ∙ swap (t.number == k) (s.number == k) (has k (log_numbers ts))

pub rising_has : (k : ℕ) (ss : List Segment) → has k (log_numbers (rising ss)) ≡ has k (log_numbers ss)
rising_has k [] = refl
rising_has k (s ∷ ss) = put_has k s (rising ss) ∙ ap (λ (b : Bool). (s.number == k) || b) (rising_has k ss)

all_put : (P : Segment → Type 0) (s : Segment) (ts : List Segment) → P s → AllByRecursion P ts → AllByRecursion P (put_segment s ts)
all_put P s [] here all = (here, tt)
all_put P s (t ∷ ts) here all = by (nat_cmp s.number t.number) (all_put P s ts here all.1)
  where
    by : (r : Ordering) → AllByRecursion P (put_segment s ts)
        → AllByRecursion P (by_order r (s ∷ t ∷ ts) (s ∷ ts) (t ∷ put_segment s ts))
    by Less later = (here, all)
    by Equal later = (here, all.1)
    by Greater later = (all.0, later)

pub all_rising : (P : Segment → Type 0) (ss : List Segment) → AllByRecursion P ss → AllByRecursion P (rising ss)
all_rising P [] all = tt
all_rising P (s ∷ ss) all = all_put P s (rising ss) all.0 (all_rising P ss all.1)

numbers_above : (k : ℕ) (ss : List Segment) → AllByRecursion (λ (s : Segment). k < s.number) ss
    → AllByRecursion (λ (m : ℕ). k < m) (log_numbers ss)
numbers_above k [] all = tt
numbers_above k (s ∷ ss) all = (all.0, numbers_above k ss all.1)

abbrev pub UpLogs : List Segment → Type 0
UpLogs [] = Unit {0}
UpLogs (s ∷ ss) = AllByRecursion (λ (t : Segment). s.number < t.number) ss × UpLogs ss

above_more : (m n : ℕ) → m < n → (ss : List Segment) → AllByRecursion (λ (s : Segment). n < s.number) ss
    → AllByRecursion (λ (s : Segment). m < s.number) ss
above_more m n less [] all = tt
above_more m n less (s ∷ ss) all = (let more : n < s.number = all.0 in omega (arith, less, more), above_more m n less ss all.1)

up_put : (s : Segment) (ss : List Segment) → UpLogs ss → UpLogs (put_segment s ss)
up_put s [] up = (tt, tt)
up_put s (t ∷ ts) up = by (nat_cmp s.number t.number) refl (up_put s ts up.1)
  where
    by : (r : Ordering) → nat_cmp s.number t.number ≡ r → UpLogs (put_segment s ts)
        → UpLogs (by_order r (s ∷ t ∷ ts) (s ∷ ts) (t ∷ put_segment s ts))
    by Less is later =
        let less : s.number < t.number = ranked s.number t.number Less (sym is) in
        ((less, above_more s.number t.number less ts up.0), up)
    by Equal is later =
        let same : s.number ≡ t.number = ranked s.number t.number Equal (sym is) in
        (subst (λ (n : ℕ). AllByRecursion (λ (u : Segment). n < u.number) ts) (sym same) up.0, up.1)
    by Greater is later =
        let less : t.number < s.number = ranked s.number t.number Greater (sym is) in
        (all_put (λ (u : Segment). t.number < u.number) s ts less up.0, later)

pub up_rising : (ss : List Segment) → UpLogs (rising ss)
up_rising [] = tt
up_rising (s ∷ ss) = up_put s (rising ss) (up_rising ss)

pub up_numbers : (ss : List Segment) → UpLogs ss → AreUp (log_numbers ss)
up_numbers [] up = tt
up_numbers (s ∷ ss) up = (numbers_above s.number ss up.0, up_numbers ss up.1)

-- each log of some is found among them by its number
pub each_there : (ss : List Segment) → AreDistinct (log_numbers ss)
    → AllByRecursion (λ (s : Segment). segment_at ss s.number ≡ Some s) ss
each_there ss distinct = from [] ss distinct
  where
    from : (xs ys : List Segment) → AreDistinct (log_numbers (xs ++ ys))
        → AllByRecursion (λ (s : Segment). segment_at (xs ++ ys) s.number ≡ Some s) ys
    from xs [] apart = tt
    from xs (y ∷ ys) apart = (
      segment_there xs y ys apart,
      subst (λ (zs : List Segment). AllByRecursion (λ (s : Segment). segment_at zs s.number ≡ Some s) ys)
          (append_assoc xs (y ∷ []) ys)
          (from (xs ++ y ∷ []) ys (subst (λ (zs : List Segment). AreDistinct (log_numbers zs)) (sym (append_assoc xs (y ∷ []) ys)) apart)),
    )

-- ---- the logs of a version

module _ {H : Type 0} (bytes : H → Option (List ℕ)) (size : H → ℕ)
    (sized : (held : H) (told : List ℕ) → bytes held ≡ Some told → length told ≡ size held) where
  abbrev number : SealedLog H → ℕ
  number log = log.number

  abbrev length_in : SealedLog H → ℕ × ℕ
  length_in log = (log.number, size log.held)

  abbrev laid_length : Segment → ℕ × ℕ
  laid_length s = (s.number, s.length)

  pub log_found : (n : ℕ) (logs : List (SealedLog H)) (log : SealedLog H) → log_in logs n ≡ Some log → has n (map number logs) ≡ true
  log_found n [] log is = absurd cc
  log_found n (x ∷ xs) log is = by (x.number == n) is (λ later. log_found n xs log later)
    where
      by : (b : Bool) → (if b then Some x else log_in xs n) ≡ Some log
          → (log_in xs n ≡ Some log → has n (map number xs) ≡ true) → (b || has n (map number xs)) ≡ true
      by true e later = refl
      by false e later = later e

  -- the numbers of a version's logs rise
  up_logs : (logs : List (SealedLog H)) → AreRising logs → AreUp (map number logs)
  up_logs [] rises = tt
  up_logs (x ∷ []) rises = (tt, tt)
  up_logs (x ∷ y ∷ logs) rises =
      let later = up_logs (y ∷ logs) rises.1 in
      ((rises.0, above x.number y.number rises.0 (map number logs) later.0), later)
    where
      above : (m n : ℕ) → m < n → (ks : List ℕ) → AllByRecursion (λ (k : ℕ). n < k) ks → AllByRecursion (λ (k : ℕ). m < k) ks
      above m n less [] all = tt
      above m n less (k ∷ ks) all = (let more : n < k = all.0 in omega (arith, less, more), above m n less ks all.1)

  -- each is found by its number
  each_in : (logs : List (SealedLog H)) → AreUp (map number logs)
      → AllByRecursion (λ (x : SealedLog H). log_in logs x.number ≡ Some x) logs
  each_in [] up = tt
  each_in (x ∷ logs) up = (here, behind logs up.0 (each_in logs up.1))
    where
      here : (if x.number == x.number then Some x else log_in logs x.number) ≡ Some x
      here =
          let same : (x.number == x.number) ≡ true = grind (arith, nat_tests) in
          ap (λ (b : Bool). if b then Some x else log_in logs x.number) same

      behind : (ys : List (SealedLog H)) → AllByRecursion (λ (m : ℕ). x.number < m) (map number ys)
          → AllByRecursion (λ (y : SealedLog H). log_in logs y.number ≡ Some y) ys
          → AllByRecursion (λ (y : SealedLog H). log_in (x ∷ logs) y.number ≡ Some y) ys
      behind [] less all = tt
      behind (y ∷ ys) less all =
          let below : x.number < y.number = less.0 in
          let other : (x.number == y.number) ≡ false = grind (arith, nat_tests, below) in
          (ap (λ (b : Bool). if b then Some x else log_in logs y.number) other ∙ all.0, behind ys less.1 all.1)

  length_is : (log : SealedLog H) (s : Segment) → IsLogOf bytes log s → IsTrueLog s → length_in log ≡ laid_length s
  length_is log s is true_log =
      let a = sized log.held (bytes_of_log s) is.told in
      let b = length-log_bytes s.format s.number s.frames in
      let long : size log.held ≡ s.length = omega (arith, a, b, true_log) in
      ap (λ (n : ℕ). (n, size log.held)) is.number ∙ ap (λ (n : ℕ). (s.number, n)) long

  module _ (logs : List (SealedLog H)) (ss : List Segment) where
    -- the logs side by side, of the same numbers
    side_by_side : (xs : List (SealedLog H)) (ys : List Segment) → map number xs ≡ log_numbers ys
        → AllByRecursion (λ (x : SealedLog H). log_in logs x.number ≡ Some x) xs
        → AllByRecursion (λ (y : Segment). HasLog bytes logs y.number y) ys → AllByRecursion IsTrueLog ys
        → map length_in xs ≡ map laid_length ys
    side_by_side [] [] same ins had trues = refl
    side_by_side [] (y ∷ ys) same ins had trues = absurd cc
    side_by_side (x ∷ xs) [] same ins had trues = absurd cc
    side_by_side (x ∷ xs) (y ∷ ys) same ins had trues =
        ap (λ (p : ℕ × ℕ). p ∷ map length_in xs) first
        ∙ ap (λ (ps : List (ℕ × ℕ)). laid_length y ∷ ps) (side_by_side xs ys tails ins.1 had.1 trues.1)
      where
        heads : x.number ≡ y.number
        heads = cc

        tails : map number xs ≡ log_numbers ys
        tails = cc

        one : had.0.log ≡ x
        one =
            let here : log_in logs y.number ≡ Some x = sym (ap (log_in logs) heads) ∙ ins.0 in
            let there = had.0.at in
            cc

        first : length_in x ≡ laid_length y
        first = ap length_in (sym one) ∙ length_is had.0.log y had.0.is trues.0

    -- Where the version has all of some logs, and no others, their lengths are theirs, by rising numbers.
    pub lengths_held : AreRising logs → AreDistinct (log_numbers ss) → AllByRecursion IsTrueLog ss
        → ((n : ℕ) (s : Segment) → segment_at ss n ≡ Some s → HasLog bytes logs n s)
        → AllByRecursion (λ (x : SealedLog H). has x.number (log_numbers ss) ≡ true) logs
        → map length_in logs ≡ map laid_length (rising ss)
    lengths_held rises distinct trues has_each are =
        side_by_side logs (rising ss)
        (same_up (map number logs) (log_numbers (rising ss)) up (up_numbers (rising ss) (up_rising ss)) there back)
        (each_in logs up)
        (all_rising (λ (s : Segment). HasLog bytes logs s.number s) ss (had ss (each_there ss distinct)))
        (all_rising IsTrueLog ss trues)
      where
        up : AreUp (map number logs)
        up = up_logs logs rises

        had : (xs : List Segment) → AllByRecursion (λ (s : Segment). segment_at ss s.number ≡ Some s) xs
            → AllByRecursion (λ (s : Segment). HasLog bytes logs s.number s) xs
        had [] at = tt
        had (x ∷ xs) at = (has_each x.number x at.0, had xs at.1)

        find : (k : ℕ) (xs : List (SealedLog H)) → AllByRecursion (λ (x : SealedLog H). has x.number (log_numbers ss) ≡ true) xs
            → has k (map number xs) ≡ true → has k (log_numbers ss) ≡ true
        find k [] all is = absurd cc
        find k (x ∷ xs) all is = first_or_later (has k (log_numbers ss) ≡ true) k x.number (map number xs) is
            (λ e. subst (λ (n : ℕ). has n (log_numbers ss) ≡ true) e all.0) (λ later. find k xs all.1 later)

        there : (k : ℕ) → has k (map number logs) ≡ true → has k (log_numbers (rising ss)) ≡ true
        there k is = rising_has k ss ∙ find k logs are is

        seek : (k : ℕ) (xs : List Segment) → AllByRecursion (λ (s : Segment). HasLog bytes logs s.number s) xs
            → has k (log_numbers xs) ≡ true → has k (map number logs) ≡ true
        seek k [] all is = absurd cc
        seek k (x ∷ xs) all is = first_or_later (has k (map number logs) ≡ true) k x.number (log_numbers xs) is
            (λ e. subst (λ (n : ℕ). has n (map number logs) ≡ true) e (log_found x.number logs all.0.log all.0.at))
            (λ later. seek k xs all.1 later)

        back : (k : ℕ) → has k (log_numbers (rising ss)) ≡ true → has k (map number logs) ≡ true
        back k is = seek k ss (had ss (each_there ss distinct)) (sym (rising_has k ss) ∙ is)
