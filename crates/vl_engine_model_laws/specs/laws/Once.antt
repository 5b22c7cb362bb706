-- No file is retired twice: what a switch retires wasn't retired, and stands once.
use Rattle.std.proofs.Common.{◌≡◌, ℕ, ◌<◌, Bool, true, false, cond, not, List, [], ◌∷◌, ◌++◌, map, refl, ap, sym, ◌∙◌}
use Rattle.std.proofs.Common.{subst, arith, append_assoc}
use Rattle.std.proofs.lemmas.Bool.Decides.{nat_tests}
use Rattle.std.proofs.lemmas.Cmp.{ranked}
use Rattle.std.proofs.lemmas.List.{map-append}
use Rattle.std.specs.Prelude.{◌==◌, nat_lt, ◌&&◌}
use Rattle.std.specs.List.{AllByRecursion, filter}
use Rattle.std.specs.Ordering.{nat_cmp}
use Rattle.std.specs.declared.cmp.Ordering.{Ordering}
use Rattle.std.specs.declared.cmp.Ordering.TheVariants.{Less, Equal, Greater}
use Rattle.vl_model.specs.Entries.{by_order}
use Rattle.vl_engine_model.specs.Garbage.{live_bytes}
use Rattle.vl_engine_model.specs.Jobs.{AreDistinct, loose}
use Rattle.vl_engine_model.specs.Ruling.{is_idle, retired_at, switched}
use Rattle.vl_engine_model.specs.Rulings.Sweep.{is_same}
use Rattle.vl_engine_model.specs.Sources.{head, log_of, put_segment, rising, table_of, tables}
use Rattle.vl_engine_model.specs.Stock.{AreOnce, IsLogOff, files_of, is_in}
use Rattle.vl_engine_model.specs.TidyLevels.{IsDistinct}
use Rattle.vl_engine_model.specs.declared.file_name.FileName.{FileName}
use Rattle.vl_engine_model.specs.declared.file_name.FileName.TheVariants.{Log, Table as TableFile, Manifest}
use Rattle.vl_engine_model.specs.declared.file_name.Retired.{Retired}
use Rattle.vl_engine_model.specs.declared.layout.Layout.{Layout}
use Rattle.vl_engine_model.specs.declared.segment.Segment.{Segment}
use Rattle.vl_engine_model.specs.declared.table.Table.{Table}
use Rattle.vl_engine_model_laws.specs.laws.Files.{true_false, or_false, neither, any-append, all_weaker, all_filtered}
use Rattle.vl_engine_model_laws.specs.laws.Files.{all_passed, all_both, is_not}
use Rattle.vl_engine_model_laws.specs.laws.Steps.{all_rising, tables_only}

-- ---- lists of files

pub off_both : (f : FileName) (fs gs : List FileName) → is_in f fs ≡ false → is_in f gs ≡ false
    → is_in f (fs ++ gs) ≡ false
off_both f fs gs a b = any-append (is_same f) fs gs ∙ neither (is_in f fs) (is_in f gs) a b

pub off_parts : (f : FileName) (fs gs : List FileName) → is_in f (fs ++ gs) ≡ false
    → (is_in f fs ≡ false) × (is_in f gs ≡ false)
off_parts f fs gs off = or_false (is_in f fs) (is_in f gs) (sym (any-append (is_same f) fs gs) ∙ off)

turned : (f g : FileName) → is_same f g ≡ false → is_same g f ≡ false
turned (Log a) (Log b) is = grind (arith, nat_tests, is)
turned (Log a) (TableFile b) is = refl
turned (Log a) (Manifest b) is = refl
turned (TableFile a) (Log b) is = refl
turned (TableFile a) (TableFile b) is = grind (arith, nat_tests, is)
turned (TableFile a) (Manifest b) is = refl
turned (Manifest a) (Log b) is = refl
turned (Manifest a) (TableFile b) is = refl
turned (Manifest a) (Manifest b) is = grind (arith, nat_tests, is)

pub once_both : (fs gs : List FileName) → AreOnce fs → AreOnce gs
    → AllByRecursion (λ g. is_in g fs ≡ false) gs → AreOnce (fs ++ gs)
once_both [] gs a b off = b
once_both (f ∷ fs) gs a b off = (
  off_both f fs gs a.0 (none gs off),
  once_both fs gs a.1 b
      (all_weaker (λ g. is_in g (f ∷ fs) ≡ false) (λ g. is_in g fs ≡ false) (λ g is. (or_false (is_same g f) (is_in g fs) is).1) gs off),
)
  where
    none : (hs : List FileName) → AllByRecursion (λ g. is_in g (f ∷ fs) ≡ false) hs → is_in f hs ≡ false
    none [] all = refl
    none (h ∷ hs) all =
        neither (is_same f h) (is_in f hs) (turned h f (or_false (is_same h f) (is_in h fs) all.0).0) (none hs all.1)

pub off_filtered : (f : FileName) (p : Retired → Bool) (rs : List Retired) → is_in f (files_of rs) ≡ false
    → is_in f (files_of (filter p rs)) ≡ false
off_filtered f p [] off = refl
off_filtered f p (r ∷ rs) off =
    let both = or_false (is_same f r.file) (is_in f (files_of rs)) off in
    elim (p r) as (λ b. is_in f (files_of (cond b (r ∷ filter p rs) (filter p rs))) ≡ false) [
      | true ↦ neither (is_same f r.file) (is_in f (files_of (filter p rs))) both.0 (off_filtered f p rs both.1)
      | false ↦ off_filtered f p rs both.1
    ]

pub once_filtered : (p : Retired → Bool) (rs : List Retired) → AreOnce (files_of rs) → AreOnce (files_of (filter p rs))
once_filtered p [] once = tt
once_filtered p (r ∷ rs) once = elim (p r) as (λ b. AreOnce (files_of (cond b (r ∷ filter p rs) (filter p rs)))) [
  | true ↦ (off_filtered r.file p rs once.0, once_filtered p rs once.1)
  | false ↦ once_filtered p rs once.1
]

pub files-both : (rs ss : List Retired) → files_of (rs ++ ss) ≡ files_of rs ++ files_of ss
files-both rs ss = map-append (λ (r : Retired). r.file) rs ss

pub files-retired : (v : ℕ) (fs : List FileName) → files_of (map (retired_at v) fs) ≡ fs
files-retired v [] = refl
files-retired v (f ∷ fs) = ap (λ gs. f ∷ gs) (files-retired v fs)

-- ---- logs and tables

abbrev pub IsUp : List Segment → Type 0
IsUp [] = Unit {0}
IsUp (s ∷ ss) = AllByRecursion (λ (t : Segment). s.number < t.number) ss × IsUp ss

all_put : (P : Segment → Type 0) (s : Segment) (ss : List Segment) → P s → AllByRecursion P ss
    → AllByRecursion P (put_segment s ss)
all_put P s [] here all = (here, tt)
all_put P s (t ∷ ts) here all = elim (nat_cmp s.number t.number) as
    (λ r. AllByRecursion P (by_order r (s ∷ t ∷ ts) (s ∷ ts) (t ∷ put_segment s ts))) [
      | Less ↦ (here, all)
      | Equal ↦ (here, all.1)
      | Greater ↦ (all.0, all_put P s ts here all.1)
    ]

up_put : (s : Segment) (ss : List Segment) → IsUp ss → IsUp (put_segment s ss)
up_put s [] up = (tt, tt)
up_put s (t ∷ ts) up = by (nat_cmp s.number t.number) refl (up_put s ts up.1)
  where
    by : (r : Ordering) → nat_cmp s.number t.number ≡ r → IsUp (put_segment s ts)
        → IsUp (by_order r (s ∷ t ∷ ts) (s ∷ ts) (t ∷ put_segment s ts))
    by Less is later =
        let less : s.number < t.number = ranked s.number t.number Less (sym is) in (
          (
            less,
            all_weaker (λ (u : Segment). t.number < u.number) (λ (u : Segment). s.number < u.number)
                (λ u more. omega (arith, less, more)) ts up.0,
          ),
          up,
        )
    by Equal is later =
        let same : s.number ≡ t.number = ranked s.number t.number Equal (sym is) in
        (subst (λ (n : ℕ). AllByRecursion (λ (u : Segment). n < u.number) ts) (sym same) up.0, up.1)
    by Greater is later =
        let less : t.number < s.number = ranked s.number t.number Greater (sym is) in
        (all_put (λ (u : Segment). t.number < u.number) s ts less up.0, later)

up_rising : (ss : List Segment) → IsUp (rising ss)
up_rising [] = tt
up_rising (s ∷ ss) = up_put s (rising ss) (up_rising ss)

up_once : (ss : List Segment) → IsUp ss → AreOnce (map log_of ss)
up_once [] up = tt
up_once (s ∷ ss) up = (none ss up.0, up_once ss up.1)
  where
    none : (ts : List Segment) → AllByRecursion (λ (t : Segment). s.number < t.number) ts
        → is_in (log_of s) (map log_of ts) ≡ false
    none [] above = refl
    none (t ∷ ts) above =
        let apart : (s.number == t.number) ≡ false = let less = above.0 in grind (arith, nat_tests, less) in
        neither (s.number == t.number) (is_in (log_of s) (map log_of ts)) apart (none ts above.1)

pub tables_once : (ts : List Table) → IsDistinct ts → AreOnce (map table_of ts)
tables_once [] distinct = tt
tables_once (t ∷ ts) distinct = (none ts distinct.0, tables_once ts distinct.1)
  where
    none : (us : List Table) → AllByRecursion (λ (u : Table). u.number ≡ t.number → ⊥) us
        → is_in (table_of t) (map table_of us) ≡ false
    none [] off = refl
    none (u ∷ us) off =
        let apart : (t.number == u.number) ≡ false =
        is_not (t.number == u.number) (λ is. off.0 (let same : u.number ≡ t.number = grind (arith, nat_tests, is) in same)) in
        neither (t.number == u.number) (is_in (table_of t) (map table_of us)) apart (none us off.1)

pub distinct_filtered : (p : Table → Bool) (ts : List Table) → IsDistinct ts → IsDistinct (filter p ts)
distinct_filtered p [] distinct = tt
distinct_filtered p (t ∷ ts) distinct = elim (p t) as (λ b. IsDistinct (cond b (t ∷ filter p ts) (filter p ts))) [
  | true ↦ (all_filtered (λ (u : Table). u.number ≡ t.number → ⊥) p ts distinct.0, distinct_filtered p ts distinct.1)
  | false ↦ distinct_filtered p ts distinct.1
]

pub loose_once : (ns : List ℕ) → AreDistinct ns → AreOnce (files_of (loose ns))
loose_once [] distinct = tt
loose_once (n ∷ ns) distinct = (none ns distinct.0, loose_once ns distinct.1)
  where
    none : (ms : List ℕ) → Rattle.vl_model.specs.Numbers.has n ms ≡ false
        → is_in (TableFile n) (files_of (loose ms)) ≡ false
    none [] off = refl
    none (m ∷ ms) off =
        let both = or_false (m == n) (Rattle.vl_model.specs.Numbers.has n ms) off in
        let apart : (n == m) ≡ false = let no = both.0 in grind (arith, nat_tests, no) in
        neither (n == m) (is_in (TableFile n) (files_of (loose ms))) apart (none ms both.1)

pub log_not_loose : (n : ℕ) (ns : List ℕ) → is_in (Log n) (files_of (loose ns)) ≡ false
log_not_loose n [] = refl
log_not_loose n (m ∷ ms) = log_not_loose n ms

-- ---- a switch

module _ (l : Layout) (dropped : List Table)
    (once : AreOnce (files_of l.retired ++ map table_of dropped))
    (apart : AllByRecursion (IsLogOff (files_of l.retired)) l.flushed) where
  idle_off : (R : List FileName) → AllByRecursion (IsLogOff R) l.flushed
      → AllByRecursion (IsLogOff (R ++ map table_of dropped)) l.flushed
  idle_off R all =
      all_weaker (IsLogOff R) (IsLogOff (R ++ map table_of dropped))
      (λ s off. off_both (log_of s) R (map table_of dropped) off (tables_only s.number dropped)) l.flushed all

  gone : List Segment
  gone = rising (filter (is_idle l) l.flushed)

  named : (P : FileName → Type 0) (ss : List Segment) → AllByRecursion (λ (s : Segment). P (log_of s)) ss
      → AllByRecursion P (map log_of ss)
  named P [] all = tt
  named P (s ∷ ss) all = (all.0, named P ss all.1)

  files : files_of (switched dropped l).retired ≡ (files_of l.retired ++ map table_of dropped) ++ map log_of
      (rising (filter (is_idle l) l.flushed))
  files =
      files-both l.retired (map (retired_at l.epoch) (map table_of dropped ++ map log_of (rising (filter (is_idle l) l.flushed))))
      ∙ ap (λ fs. files_of l.retired ++ fs)
      (files-retired l.epoch (map table_of dropped ++ map log_of (rising (filter (is_idle l) l.flushed))))
      ∙ sym (append_assoc (files_of l.retired) (map table_of dropped) (map log_of (rising (filter (is_idle l) l.flushed))))

  pub switched_once : AreOnce (files_of (switched dropped l).retired)
  switched_once = subst AreOnce (sym files)
      (once_both (files_of l.retired ++ map table_of dropped) (map log_of (rising (filter (is_idle l) l.flushed))) once
      (up_once (rising (filter (is_idle l) l.flushed)) (up_rising (filter (is_idle l) l.flushed)))
      (named (λ g. is_in g (files_of l.retired ++ map table_of dropped) ≡ false) (rising (filter (is_idle l) l.flushed))
      (all_rising (IsLogOff (files_of l.retired ++ map table_of dropped)) (filter (is_idle l) l.flushed)
      (all_filtered (IsLogOff (files_of l.retired ++ map table_of dropped)) (is_idle l) l.flushed (idle_off (files_of l.retired) apart)))))

  -- a log that isn't idle is none of those that are
  not_idle : (s : Segment) → is_idle l s ≡ false → (ts : List Segment)
      → AllByRecursion (λ (t : Segment). is_idle l t ≡ true) ts → is_in (log_of s) (map log_of ts) ≡ false
  not_idle s busy [] idle = refl
  not_idle s busy (t ∷ ts) idle = neither (s.number == t.number) (is_in (log_of s) (map log_of ts))
      (is_not (s.number == t.number) (λ is.
      let same : s.number ≡ t.number = grind (arith, nat_tests, is) in
      true_false (sym idle.0 ∙ sym (ap (λ (n : ℕ). nat_lt n (head l) && (live_bytes (tables l) n == 0)) same) ∙ busy)))
      (not_idle s busy ts idle.1)

  pub switched_apart : AllByRecursion (IsLogOff (files_of (switched dropped l).retired)) (switched dropped l).flushed
  switched_apart =
      subst (λ (fs : List FileName). AllByRecursion (IsLogOff fs) (filter (λ (s : Segment). not (is_idle l s)) l.flushed)) (sym files)
      (all_passed (IsLogOff (files_of l.retired ++ map table_of dropped))
      (IsLogOff ((files_of l.retired ++ map table_of dropped) ++ map log_of (rising (filter (is_idle l) l.flushed))))
      (λ (s : Segment). not (is_idle l s))
      (λ s off stays. off_both (log_of s) (files_of l.retired ++ map table_of dropped)
      (map log_of (rising (filter (is_idle l) l.flushed))) off
      (not_idle s (not_true (is_idle l s) stays) (rising (filter (is_idle l) l.flushed))
      (all_rising (λ (t : Segment). is_idle l t ≡ true) (filter (is_idle l) l.flushed)
      (all_passed (λ (t : Segment). Unit {0}) (λ (t : Segment). is_idle l t ≡ true) (is_idle l) (λ t any is. is)
      l.flushed (Rattle.vl_engine_model_laws.specs.laws.Files.everything l.flushed)))))
      l.flushed (idle_off (files_of l.retired) apart))
    where
      not_true : (b : Bool) → not b ≡ true → b ≡ false
      not_true true h = absurd (true_false (sym h))
      not_true false h = refl
