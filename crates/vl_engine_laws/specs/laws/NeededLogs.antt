-- A version that lets go of logs behind a switch has each log yet that the layout has sealed then.
use Rattle.std.specs.Prelude.{◌≡◌, ◌⊎◌, ◌<◌, ◌≤◌, ℕ, ◌==◌, ◌&&◌, ◌||◌, nat_lt, not, Bool, true, false, if◌then◌else◌}
use Rattle.std.specs.Prelude.{IsSome, List, [], ◌∷◌, Option, Some, refl}
use Rattle.std.specs.List.{AllByRecursion, AllZip, filter, flat_map, list_any, sum_by}
use Rattle.std.proofs.Common.{sym, ap, subst, ◌∙◌, arith, inl, inr, ⊎_elim}
use Rattle.std.proofs.lemmas.Bool.Decides.{nat_tests}
use Rattle.std.proofs.lemmas.List.Sums.{sum_by-append, sum_by-cons}
use Rattle.vl_table.specs.body.Footer.{Foot}
use Rattle.vl_model.specs.declared.point.Point.{Point}
use Rattle.vl_engine_laws.specs.Laid.{AreLevelsOf, AreTablesOf, HasLayout, HasLog, IsMemtableOf, IsTableOf, by_level}
use Rattle.vl_engine_laws.specs.Pointed.{segment_at}
use Rattle.vl_engine_laws.specs.laws.FileLaws.{all_back, all_each, all_filtered, all_front, all_more}
use Rattle.vl_engine_model.specs.Garbage.{live_bytes, pointed_bytes}
use Rattle.vl_engine_model.specs.Ruling.{is_idle, switched}
use Rattle.vl_engine_model.specs.Sources as sources
use Rattle.vl_engine_model.specs.Sources.{head, oldest, tables}
use Rattle.vl_engine_model.specs.Stock.{IsFalling}
use Rattle.vl_engine_model.specs.Tidy.{IsTrueTable, sealed}
use Rattle.vl_engine_model.specs.declared.layout.Layout.{Layout}
use Rattle.vl_engine_model.specs.declared.segment.Segment.{Segment}
use Rattle.vl_engine_model.specs.declared.table.Table as laid
use Rattle.vl_engine_model_laws.specs.laws.Stock.{head_least}
use Rattle.vl_memtable.specs.Contents.{Contents}
use Rattle.vl_memtable.specs.declared.frozen_log.FrozenLog.{FrozenLog}
use Rattle.vl_model.specs.Numbers.{has}
use Rattle.vl_seglog.specs.declared.sealed.SealedLog.{SealedLog}
use Rattle.vl_table.specs.Tables.{shape_of}
use Rattle.vl_table.specs.declared.table.Table.{Table}
use Rattle.vl_version.specs.Needed.{head_of, is_kept, is_needed, lead_into, leads_into, levels_into, number_or}
use Rattle.vl_version.specs.Oldest.{oldest_frozen}
use Rattle.vl_version.specs.Sources.{AreRising, AreTold, log_in}
use Rattle.vl_version.specs.declared.levels.Levels.{Levels}
use Rattle.vl_version.specs.declared.version.Version.{Version}
use Rattle.vl_version.specs.levels.LevelsLooked.{AreInOrder}

-- ---- the layout

-- what passes a test that is turned round fails it
turned : (b : Bool) → not b ≡ true → b ≡ false
turned true is = absurd cc
turned false is = refl

-- Behind a switch no log that is flushed is idle.
pub none_idle : (dropped : List laid.Table) (l : Layout)
    → AllByRecursion (λ (s : Segment). is_idle (switched dropped l) s ≡ false) (switched dropped l).flushed
none_idle dropped l = by l.flushed
  where
    stays : Segment → Bool
    stays s = not (is_idle l s)

    by : (ss : List Segment) → AllByRecursion (λ (s : Segment). is_idle l s ≡ false) (filter stays ss)
    by [] = tt
    by (s ∷ ss) = one (stays s) refl (by ss)
      where
        one : (b : Bool) → stays s ≡ b → AllByRecursion (λ (t : Segment). is_idle l t ≡ false) (filter stays ss)
            → AllByRecursion (λ (t : Segment). is_idle l t ≡ false) (if b then s ∷ filter stays ss else filter stays ss)
        one true is later = (turned (is_idle l s) is, later)
        one false is later = later

-- what all of these logs are the one with a number is
segment_of : (P : Segment → Type 0) (ss : List Segment) (n : ℕ) (s : Segment) → AllByRecursion P ss → segment_at ss n ≡ Some s
    → P s × (s.number ≡ n)
segment_of P [] n s all at = absurd cc
segment_of P (x ∷ ss) n s all at = by (x.number == n) refl at (segment_of P ss n s all.1)
  where
    same : (a b : Segment) → Some a ≡ Some b → a ≡ b
    same a b e = cc

    by : (b : Bool) → (x.number == n) ≡ b → (if b then Some x else segment_at ss n) ≡ Some s
        → (segment_at ss n ≡ Some s → P s × (s.number ≡ n)) → P s × (s.number ≡ n)
    by true here found later =
        let is : x.number ≡ n = grind (arith, nat_tests, here) in
        subst (λ (y : Segment). P y × (y.number ≡ n)) (same x s found) (all.0, is)
    by false other found later = later found

-- ---- head

-- A version whose memtables are the layout's has its head.
pub head_there : (a : Segment) (n : ℕ) → n ≡ a.number → (fs : List FrozenLog) (ss : List Segment) → AllZip IsMemtableOf fs ss
    → number_or n (oldest_frozen fs) ≡ sources.number_or a (oldest ss)
head_there a n same [] [] zip = same
head_there a n same [] (s ∷ ss) zip = absurd zip
head_there a n same (f ∷ fs) [] zip = absurd zip
head_there a n same (f ∷ []) (s ∷ []) zip = zip.0.number
head_there a n same (f ∷ []) (s ∷ t ∷ ss) zip = absurd zip.1
head_there a n same (f ∷ g ∷ fs) (s ∷ []) zip = absurd zip.1
head_there a n same (f ∷ g ∷ fs) (s ∷ t ∷ ss) zip = head_there a n same (g ∷ fs) (t ∷ ss) zip.1

-- ---- tables

left_none : (a b : Bool) → (a || b) ≡ false → a ≡ false
left_none true b is = is
left_none false b is = refl

right_none : (a b : Bool) → (a || b) ≡ false → b ≡ false
right_none true b is = absurd cc
right_none false b is = is

-- where no point leads into a segment, none of its bytes are pointed to
none_pointed : (n : ℕ) (ps : List Point) → list_any (λ (p : Point). p.segment == n) ps ≡ false → pointed_bytes n ps ≡ 0
none_pointed n [] none = refl
none_pointed n (p ∷ ps) none =
    let here : (p.segment == n) ≡ false = left_none (p.segment == n) (list_any (λ (q : Point). q.segment == n) ps) none in
    let first : (if p.segment == n then p.bytes else 0) ≡ 0 = ap (λ (b : Bool). if b then p.bytes else 0) here in
    let later = none_pointed n ps (right_none (p.segment == n) (list_any (λ (q : Point). q.segment == n) ps) none) in
    let sum = sum_by-cons (λ (q : Point). if q.segment == n then q.bytes else 0) p ps in
    omega (arith, first, later, sum)

module _ {H : Type 0} (bytes : H → Option (List ℕ)) where
  points_are : (table : Table H) (t : laid.Table) → IsTableOf bytes table t → IsTrueTable t
      → (shape_of table).footer.points.items ≡ t.points
  points_are table t is so = ap (λ (f : Foot). f.points) is.of.shape.foot ∙ sym (ap (λ (x : laid.Table). x.points) so)

  none_of : (n : ℕ) (us : List (Table H)) (ts : List laid.Table) → AreTablesOf bytes us ts → AllByRecursion IsTrueTable ts
      → lead_into n us ≡ false → live_bytes ts n ≡ 0
  none_of n [] [] are so none = refl
  none_of n [] (t ∷ ts) are so none = absurd are
  none_of n (u ∷ us) [] are so none = absurd are
  none_of n (u ∷ us) (t ∷ ts) are so none =
      let first : pointed_bytes n t.points ≡ 0 = subst (λ (ps : List Point). pointed_bytes n ps ≡ 0) (points_are u t are.0 so.0)
      (none_pointed n (shape_of u).footer.points.items (left_none (leads_into n u) (lead_into n us) none)) in
      let later = none_of n us ts are.1 so.1 (right_none (leads_into n u) (lead_into n us) none) in
      let sum = sum_by-cons (λ (x : laid.Table). pointed_bytes n x.points) t ts in
      omega (arith, first, later, sum)

  -- Where no table leads into a log, nothing of it is live.
  none_live : (n : ℕ) (levels : List (List (Table H))) (ls : List (List laid.Table)) → AllZip (AreTablesOf bytes) levels ls
      → AllByRecursion IsTrueTable (flat_map (λ ts. ts) ls) → list_any (lead_into n) levels ≡ false
      → live_bytes (flat_map (λ ts. ts) ls) n ≡ 0
  none_live n [] [] are so none = refl
  none_live n [] (ts ∷ ls) are so none = absurd are
  none_live n (us ∷ levels) [] are so none = absurd are
  none_live n (us ∷ levels) (ts ∷ ls) are so none =
      let first = none_of n us ts are.0 (all_front IsTrueTable ts (flat_map (λ xs. xs) ls) so)
      (left_none (lead_into n us) (list_any (lead_into n) levels) none) in
      let later = none_live n levels ls are.1 (all_back IsTrueTable ts (flat_map (λ xs. xs) ls) so)
      (right_none (lead_into n us) (list_any (lead_into n) levels) none) in
      let sum = sum_by-append (λ (x : laid.Table). pointed_bytes n x.points) ts (flat_map (λ xs. xs) ls) in
      omega (arith, first, later, sum)

-- ---- which logs stay

-- a log stays where it isn't below head, or where something of it is live
stays_there : (n least : ℕ) (into : Bool) → (nat_lt n least ≡ true → into ≡ false → ⊥) → (not (nat_lt n least) || into) ≡ true
stays_there n least into never = by (nat_lt n least) into never
  where
    by : (below b : Bool) → (below ≡ true → b ≡ false → ⊥) → (not below || b) ≡ true
    by false b neither = refl
    by true true neither = refl
    by true false neither = absurd (neither refl refl)

module _ {H : Type 0} (bytes : H → Option (List ℕ)) (levels : Levels H) (frozen : List FrozenLog) (active : ℕ) (l : Layout)
    (active_is : active ≡ l.active.number) (frozen_are : AllZip IsMemtableOf frozen l.frozen)
    (levels_are : AreLevelsOf bytes levels l.levels) (so : AllByRecursion IsTrueTable (tables l))
    (falling : IsFalling (l.active ∷ l.frozen))
    (none : AllByRecursion (λ (s : Segment). is_idle l s ≡ false) l.flushed) where
  abbrev least : ℕ
  least = head_of active frozen

  head_is : least ≡ head l
  head_is = head_there l.active active active_is frozen l.frozen frozen_are

  -- none that is sealed is below head with nothing live
  not_idle : (s : Segment) → head l ≤ s.number ⊎ (is_idle l s ≡ false) → nat_lt s.number least ≡ true
      → levels_into s.number levels ≡ false → ⊥
  not_idle s either below unled = ⊎_elim from idle either
    where
      less : s.number < head l
      less = let is : s.number < least = grind (arith, nat_tests, below) in omega (arith, is, head_is)

      from : head l ≤ s.number → ⊥
      from above = omega (arith, above, less)

      idle : is_idle l s ≡ false → ⊥
      idle not_so =
          let under : nat_lt s.number (head l) ≡ true = grind (arith, nat_tests, less) in
          let zero : live_bytes (tables l) s.number ≡ 0 = none_live bytes s.number (by_level levels) l.levels levels_are so unled in
          let nothing : (live_bytes (tables l) s.number == 0) ≡ true = grind (arith, nat_tests, zero) in
          let is : is_idle l s ≡ true = ap (λ (b : Bool). b && (live_bytes (tables l) s.number == 0)) under ∙ nothing in
          cc

  -- each that is sealed is needed
  needed_there : (n : ℕ) (s : Segment) → segment_at (sealed l) n ≡ Some s → is_needed least levels n ≡ true
  needed_there n s at =
      let of = segment_of (λ (x : Segment). (head l ≤ x.number) ⊎ (is_idle l x ≡ false)) (sealed l) n s
      (all_more (λ (x : Segment). (head l ≤ x.number) ⊎ (is_idle l x ≡ false)) l.frozen l.flushed
      (all_each (λ (x : Segment). head l ≤ x.number) (λ (x : Segment). (head l ≤ x.number) ⊎ (is_idle l x ≡ false)) l.frozen
      (λ x above. inl above) (head_least l falling).1)
      (all_each (λ (x : Segment). is_idle l x ≡ false) (λ (x : Segment). (head l ≤ x.number) ⊎ (is_idle l x ≡ false)) l.flushed
      (λ x idle. inr idle) none)) at in
      subst (λ (k : ℕ). is_needed least levels k ≡ true) of.1
      (stays_there s.number least (levels_into s.number levels) (not_idle s of.0))

  module _ (idle : List ℕ) where
    abbrev stays : SealedLog H → Bool
    stays = is_kept idle least levels

    found_left : (logs : List (SealedLog H)) (n : ℕ) (log : SealedLog H) → log_in logs n ≡ Some log → stays log ≡ true
        → log_in (filter stays logs) n ≡ Some log
    found_left [] n log at kept = at
    found_left (x ∷ logs) n log at kept = by (x.number == n) refl at (found_left logs n log)
      where
        same : (a b : SealedLog H) → Some a ≡ Some b → a ≡ b
        same a b e = cc

        by : (b : Bool) → (x.number == n) ≡ b → (if b then Some x else log_in logs n) ≡ Some log
            → (log_in logs n ≡ Some log → stays log ≡ true → log_in (filter stays logs) n ≡ Some log)
            → log_in (filter stays (x ∷ logs)) n ≡ Some log
        by true here found later =
            let kept_here : stays x ≡ true = subst (λ (y : SealedLog H). stays y ≡ true) (sym (same x log found)) kept in
            ap (λ (b : Bool). log_in (if b then x ∷ filter stays logs else filter stays logs) n) kept_here
            ∙ ap (λ (b : Bool). if b then Some x else log_in (filter stays logs) n) here ∙ found
        by false other found later = one (stays x)
          where
            one : (b : Bool) → log_in (if b then x ∷ filter stays logs else filter stays logs) n ≡ Some log
            one true = ap (λ (b : Bool). if b then Some x else log_in (filter stays logs) n) other ∙ later found kept
            one false = later found kept

    logs_left : (logs : List (SealedLog H)) (n : ℕ) (s : Segment) → segment_at (sealed l) n ≡ Some s → HasLog bytes logs n s
        → HasLog bytes (filter stays logs) n s
    logs_left logs n s at held = record {
      log = held.log;
      at = found_left logs n held.log held.at (kept held.log.number
          (held.is.number ∙ (segment_of (λ (x : Segment). Unit {0}) (sealed l) n s (all_units (sealed l)) at).1));
      is = held.is;
    }
      where
        all_units : (ss : List Segment) → AllByRecursion (λ (x : Segment). Unit {0}) ss
        all_units [] = tt
        all_units (x ∷ ss) = (tt, all_units ss)

        or_true : (a b : Bool) → b ≡ true → (a || b) ≡ true
        or_true true b is = refl
        or_true false b is = is

        kept : (k : ℕ) → k ≡ n → (not (has k idle) || is_needed least levels k) ≡ true
        kept k same = or_true (not (has k idle)) (is_needed least levels k)
            (subst (λ (j : ℕ). is_needed least levels j ≡ true) (sym same) (needed_there n s at))

-- ---- what is left

module _ {H : Type 0} (stays : SealedLog H → Bool) where
  above_first : (x : SealedLog H) (logs : List (SealedLog H)) → AreRising (x ∷ logs)
      → AllByRecursion (λ (log : SealedLog H). x.number < log.number) logs
  above_first x [] rising = tt
  above_first x (y ∷ logs) rising = (
    rising.0,
    all_each (λ (log : SealedLog H). y.number < log.number) (λ (log : SealedLog H). x.number < log.number) logs
        (λ log above. let first = rising.0 in omega (arith, first, above)) (above_first y logs rising.1),
  )

  rising_later : (x : SealedLog H) (logs : List (SealedLog H)) → AreRising (x ∷ logs) → AreRising logs
  rising_later x [] rising = tt
  rising_later x (y ∷ logs) rising = rising.1

  rising_first : (x : SealedLog H) (logs : List (SealedLog H)) → AllByRecursion (λ (log : SealedLog H). x.number < log.number) logs
      → AreRising logs → AreRising (x ∷ logs)
  rising_first x [] above rising = tt
  rising_first x (y ∷ logs) above rising = (above.0, rising)

  rising_left : (logs : List (SealedLog H)) → AreRising logs → AreRising (filter stays logs)
  rising_left [] rising = tt
  rising_left (x ∷ logs) rising = by (stays x) (rising_left logs (rising_later x logs rising))
    where
      by : (b : Bool) → AreRising (filter stays logs) → AreRising (if b then x ∷ filter stays logs else filter stays logs)
      by true later = rising_first x (filter stays logs)
          (all_filtered (λ (log : SealedLog H). x.number < log.number) stays logs (above_first x logs rising)) later
      by false later = later

  told_left : (bytes : H → Option (List ℕ)) (logs : List (SealedLog H)) → AreTold bytes logs → AreTold bytes (filter stays logs)
  told_left bytes logs told = record {
    told = all_filtered (λ (log : SealedLog H). IsSome (bytes log.held)) stays logs told.told;
    rising = rising_left logs told.rising;
  }

  below_left : (k : ℕ) (logs : List (SealedLog H)) → AllByRecursion (λ (log : SealedLog H). log.number < k) logs
      → AllByRecursion (λ (log : SealedLog H). log.number < k) (filter stays logs)
  below_left k logs below = all_filtered (λ (log : SealedLog H). log.number < k) stays logs below

-- A version has a layout yet without logs that are idle where they aren't needed, if no flushed log of the layout is idle.
pub laid_left : {H : Type 0} (bytes : H → Option (List ℕ)) (whole after : Version H) (l : Layout) → HasLayout bytes whole l
    → after.active ≡ whole.active → after.behind.frozen.items ≡ whole.behind.frozen.items
    → after.behind.levels ≡ whole.behind.levels → (active : ℕ) → active ≡ l.active.number → (idle : List ℕ)
    → after.behind.logs.items
    ≡ filter (is_kept idle (head_of active whole.behind.frozen.items) whole.behind.levels) whole.behind.logs.items
    → AllByRecursion IsTrueTable (tables l) → IsFalling (l.active ∷ l.frozen)
    → AllByRecursion (λ (s : Segment). is_idle l s ≡ false) l.flushed → HasLayout bytes after l
laid_left {H} bytes whole after l has active_same frozen_same levels_same active active_is idle left so falling none = record {
  active = ap (λ (m : Contents). m.entries) active_same ∙ has.active;
  frozen = subst (λ (fs : List FrozenLog). AllZip IsMemtableOf fs l.frozen) (sym frozen_same) has.frozen;
  levels = subst (λ (x : Levels H). AreLevelsOf bytes x l.levels) (sym levels_same) has.levels;
  in_order = subst AreInOrder (sym levels_same) has.in_order;
  logs = λ n s at. subst (λ (logs : List (SealedLog H)). HasLog bytes logs n s) (sym left)
      (logs_left bytes whole.behind.levels whole.behind.frozen.items active l active_is has.frozen has.levels so falling none idle
      whole.behind.logs.items n s at (has.logs n s at));
  told = subst (AreTold bytes) (sym left) (told_left stays bytes whole.behind.logs.items has.told);
  below = subst (AllByRecursion (λ (log : SealedLog H). log.number < l.active.number)) (sym left)
      (below_left stays l.active.number whole.behind.logs.items has.below);
}
  where
    stays : SealedLog H → Bool
    stays = is_kept idle (head_of active whole.behind.frozen.items) whole.behind.levels
