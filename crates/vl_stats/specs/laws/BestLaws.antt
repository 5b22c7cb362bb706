-- Laws of the best log: the order in which logs are looked at doesn't change it, nor does what is live past the log's bytes.
use Rattle.std.proofs.Common.{◌≡◌, ◌≢◌, ℕ, ◌-◌, ◌*◌, ◌≤◌, ◌<◌, Bool, true, false, cond, ◌&&◌, ◌||◌, List, [], ◌∷◌, ◌++◌, map}
use Rattle.std.proofs.Common.{refl, ap, sym, ◌∙◌, subst, arith}
use Rattle.std.proofs.lemmas.Bool.{and_parts}
use Rattle.std.proofs.lemmas.Bool.Decides.{nat_tests}
use Rattle.std.proofs.lemmas.Cmp.{ranked}
use Rattle.std.specs.Prelude.{Option, Some, None, ◌==◌, nat_le, nat_lt, if◌then◌else◌}
use Rattle.std.specs.List.{AllByRecursion, filter}
use Rattle.std.specs.Option.{option_map}
use Rattle.std.specs.Ordering.{nat_cmp}
use Rattle.std.specs.declared.cmp.Ordering.{Ordering}
use Rattle.std.specs.declared.cmp.Ordering.TheVariants.{Less, Equal, Greater}
use Rattle.vl_model.specs.Entries.{by_order}
use Rattle.vl_model.specs.Numbers.{has}
use Rattle.vl_engine_model.specs.Garbage.{best_of, better_of, collectable, discard, is_better, is_worth, stat_of}
use Rattle.vl_engine_model.specs.Jobs.{AreDistinct}
use Rattle.vl_engine_model.specs.Sources.{head, put_segment, rising, tables}
use Rattle.vl_engine_model.specs.Stock.{IsFalling}
use Rattle.vl_engine_model.specs.Tidy.{log_numbers, sealed}
use Rattle.vl_engine_model.specs.declared.layout.Layout.{Layout}
use Rattle.vl_engine_model.specs.declared.segment.Segment.{Segment}
use Rattle.vl_engine_model.specs.declared.segment.SegmentStat.{SegmentStat}
use Rattle.vl_engine_model.specs.declared.table.Table.{Table}
use Rattle.vl_engine_model.specs.laws.RisingLaws.{map-filter}
use Rattle.vl_engine_model_laws.specs.laws.Files.{all_filtered, all_weaker, or_false, true_false}
use Rattle.vl_engine_model_laws.specs.laws.Steps.{all_rising}
use Rattle.vl_engine_model_laws.specs.laws.Stock.{head_least}
use Rattle.vl_stats.specs.Live.{AreOf}
use Rattle.vl_stats.specs.Tallies.{capped, lengths_of, share_by, stat_by}
use Rattle.vl_stats.specs.laws.TallyLaws.{none_pass, rising-filter}

-- ---- what is live past a log's bytes

capped_discard : (x : SegmentStat) → discard (capped x) ≡ discard x
capped_discard x = omega arith

capped_worth : (percent : ℕ) (x : SegmentStat) → is_worth percent (capped x) ≡ is_worth percent x
capped_worth percent x = ap (λ d. nat_lt 0 x.bytes && nat_le (percent * x.bytes) (d * 100)) (capped_discard x)

capped_better : (x y : SegmentStat) → is_better (capped x) (capped y) ≡ is_better x y
capped_better x y =
    ap (λ d. nat_lt (discard (capped y) * x.bytes) (d * y.bytes)
    || ((discard (capped y) * x.bytes == d * y.bytes) && nat_lt x.segment y.segment)) (capped_discard x)
    ∙ ap (λ d. nat_lt (d * x.bytes) (discard x * y.bytes)
    || ((d * x.bytes == discard x * y.bytes) && nat_lt x.segment y.segment)) (capped_discard y)

capped_better_of : (x : SegmentStat) (o : Option SegmentStat)
    → better_of (capped x) (option_map capped o) ≡ option_map capped (better_of x o)
capped_better_of x None = refl
capped_better_of x (Some y) =
    ap (λ b. if b then Some (capped x) else Some (capped y)) (capped_better x y)
    ∙ both (is_better x y)
  where
    both : (b : Bool) → (if b then Some (capped x) else Some (capped y)) ≡ option_map capped (if b then Some x else Some y)
    both true = refl
    both false = refl

capped_best : (percent : ℕ) (live : List (ℕ × ℕ)) (logs : List (ℕ × ℕ))
    → best_of (filter (is_worth percent) (map (share_by live) logs))
    ≡ option_map capped (best_of (filter (is_worth percent) (map (stat_by live) logs)))
capped_best percent live [] = refl
capped_best percent live (x ∷ xs) =
    let later = capped_best percent live xs in
    ap (λ b. best_of (cond b (share_by live x ∷ filter (is_worth percent) (map (share_by live) xs))
    (filter (is_worth percent) (map (share_by live) xs)))) (capped_worth percent (stat_by live x))
    ∙ elim (is_worth percent (stat_by live x)) as (λ b.
    best_of (cond b (share_by live x ∷ filter (is_worth percent) (map (share_by live) xs))
    (filter (is_worth percent) (map (share_by live) xs)))
    ≡ option_map capped (best_of (cond b (stat_by live x ∷ filter (is_worth percent) (map (stat_by live) xs))
    (filter (is_worth percent) (map (stat_by live) xs))))) [
      | true ↦ ap (better_of (share_by live x)) later
          ∙ capped_better_of (stat_by live x) (best_of (filter (is_worth percent) (map (stat_by live) xs)))
      | false ↦ later
    ]

-- the best one's number
abbrev pub number_of : Option SegmentStat → Option ℕ
number_of o = option_map (λ (x : SegmentStat). x.segment) o

capped_number : (o : Option SegmentStat) → number_of (option_map capped o) ≡ number_of o
capped_number None = refl
capped_number (Some x) = refl

-- ---- logs of a layout

stats_are : (live : List (ℕ × ℕ)) (ts : List Table) → AreOf ts live → (ss : List Segment)
    → map (stat_by live) (lengths_of ss) ≡ map (stat_of ts) ss
stats_are live ts of [] = refl
stats_are live ts of (s ∷ ss) =
    ap (λ (n : ℕ). record { segment = s.number; bytes = s.length - 16; live = n } ∷ map (stat_by live) (lengths_of ss))
    (of s.number)
    ∙ ap (λ xs. stat_of ts s ∷ xs) (stats_are live ts of ss)

-- ---- the order

-- no two of these logs have one number
abbrev AreApart : List Segment → Type 0
AreApart [] = Unit {0}
AreApart (s ∷ ss) = AllByRecursion (λ (t : Segment). t.number ≢ s.number) ss × AreApart ss

none_has : (n : ℕ) (ss : List Segment) → has n (log_numbers ss) ≡ false → AllByRecursion (λ (t : Segment). t.number ≢ n) ss
none_has n [] none = tt
none_has n (s ∷ ss) none =
    let both = or_false (s.number == n) (has n (log_numbers ss)) none in
    let off = both.0 in
    ((λ same. let is : (s.number == n) ≡ true = grind (arith, nat_tests, same) in true_false (sym is ∙ off)), none_has n ss both.1)

pub apart : (ss : List Segment) → AreDistinct (log_numbers ss) → AreApart ss
apart [] distinct = tt
apart (s ∷ ss) distinct = (none_has s.number ss distinct.0, apart ss distinct.1)

apart_behind : (xs ys : List Segment) → AreApart (xs ++ ys) → AreApart ys
apart_behind [] ys all = all
apart_behind (x ∷ xs) ys all = apart_behind xs ys all.1

apart_filtered : (p : Segment → Bool) (ss : List Segment) → AreApart ss → AreApart (filter p ss)
apart_filtered p [] all = tt
apart_filtered p (s ∷ ss) all = elim (p s) as (λ b. AreApart (cond b (s ∷ filter p ss) (filter p ss))) [
  | true ↦ (all_filtered (λ (t : Segment). t.number ≢ s.number) p ss all.0, apart_filtered p ss all.1)
  | false ↦ apart_filtered p ss all.1
]

module _ (Q : Segment → Type 0) where
  all_from_put : (s : Segment) (ss : List Segment) → AllByRecursion (λ (t : Segment). t.number ≢ s.number) ss
      → AllByRecursion Q (put_segment s ss) → Q s × AllByRecursion Q ss
  all_from_put s [] off all = (all.0, tt)
  all_from_put s (t ∷ ts) off all = by (nat_cmp s.number t.number) refl (all_from_put s ts off.1) all
    where
      by : (r : Ordering) → nat_cmp s.number t.number ≡ r
          → (AllByRecursion Q (put_segment s ts) → Q s × AllByRecursion Q ts)
          → AllByRecursion Q (by_order r (s ∷ t ∷ ts) (s ∷ ts) (t ∷ put_segment s ts)) → Q s × AllByRecursion Q (t ∷ ts)
      by Less is later all = (all.0, all.1)
      by Equal is later all = absurd (off.0 (sym (ranked s.number t.number Equal (sym is))))
      by Greater is later all = let both = later all.1 in (both.0, (all.0, both.1))

  all_from_rising : (ss : List Segment) → AreApart ss → AllByRecursion Q (rising ss) → AllByRecursion Q ss
  all_from_rising [] off all = tt
  all_from_rising (s ∷ ss) off all =
      let both = all_from_put s (rising ss) (all_rising (λ (t : Segment). t.number ≢ s.number) ss off.0) all in
      (both.0, all_from_rising ss off.1 both.1)

module _ (P : SegmentStat → Type 0) where
  best_in : (xs : List SegmentStat) (x : SegmentStat) → best_of xs ≡ Some x → AllByRecursion P xs → P x
  best_in [] x is all = absurd cc
  best_in (y ∷ ys) x is all = by (best_of ys) refl (λ z some. best_in ys z some all.1) is
    where
      one_some : (a b : SegmentStat) → Some a ≡ Some b → P a → P b
      one_some a b e here = subst P (let same : a ≡ b = cc in same) here

      by_test : (z : SegmentStat) → P z → (b : Bool) → (if b then Some y else Some z) ≡ Some x → P x
      by_test z there true e = one_some y x e all.0
      by_test z there false e = one_some z x e there

      by : (o : Option SegmentStat) → best_of ys ≡ o → ((z : SegmentStat) → best_of ys ≡ Some z → P z) → better_of y o ≡ Some x → P x
      by None none later e = one_some y x e all.0
      by (Some z) some later e = by_test z (later z some) (is_better y z) e

no_best : (xs : List SegmentStat) → best_of xs ≡ None → AllByRecursion (λ (x : SegmentStat). ⊥) xs
no_best [] is = tt
no_best (y ∷ ys) is = absurd (by (best_of ys) is)
  where
    by : (o : Option SegmentStat) → better_of y o ≡ None → ⊥
    by None e = cc
    by (Some z) e = by_test (is_better y z) e
      where
        by_test : (b : Bool) → (if b then Some y else Some z) ≡ None → ⊥
        by_test true is = cc
        by_test false is = cc

-- of two of which neither is better than the other the number is the same
neither_better : (x y : SegmentStat) → is_better x y ≡ false → is_better y x ≡ false → x.segment ≡ y.segment
neither_better x y one two =
    let a = or_false (nat_lt (discard y * x.bytes) (discard x * y.bytes))
    ((discard y * x.bytes == discard x * y.bytes) && nat_lt x.segment y.segment) one in
    let b = or_false (nat_lt (discard x * y.bytes) (discard y * x.bytes))
    ((discard x * y.bytes == discard y * x.bytes) && nat_lt y.segment x.segment) two in
    of_numbers (discard y * x.bytes) (discard x * y.bytes) x.segment y.segment a.0 a.1 b.0 b.1
  where
    of_numbers : (m n i j : ℕ) → nat_lt m n ≡ false → ((m == n) && nat_lt i j) ≡ false
        → nat_lt n m ≡ false → ((n == m) && nat_lt j i) ≡ false → i ≡ j
    of_numbers m n i j a b c d =
        let same : m ≡ n = grind (arith, nat_tests, a, c) in
        let e : (m == n) ≡ true = grind (arith, nat_tests, same) in
        let f : (n == m) ≡ true = grind (arith, nat_tests, same) in
        let g : nat_lt i j ≡ false = ap (λ t. t && nat_lt i j) (sym e) ∙ b in
        let k : nat_lt j i ≡ false = ap (λ t. t && nat_lt j i) (sym f) ∙ d in
        grind (arith, nat_tests, g, k)

-- the law that none has a greater share than the best
abbrev pub HasGreatest : Type 0
HasGreatest = (xs : List SegmentStat) (x : SegmentStat)
    → AllByRecursion (λ (y : SegmentStat). 0 < y.bytes) xs → best_of xs ≡ Some x
    → AllByRecursion (λ (y : SegmentStat). is_better y x ≡ false) xs

module _ (greatest : HasGreatest) (stat : Segment → SegmentStat) (percent : ℕ) where
  worthy : List Segment → List SegmentStat
  worthy ss = filter (is_worth percent) (map stat ss)

  module _ (P : SegmentStat → Type 0) where
    to_worthy : (ss : List Segment) → AllByRecursion (λ (s : Segment). is_worth percent (stat s) ≡ true → P (stat s)) ss
        → AllByRecursion P (filter (is_worth percent) (map stat ss))
    to_worthy [] all = tt
    to_worthy (s ∷ ss) all = by (is_worth percent (stat s)) refl (to_worthy ss all.1)
      where
        by : (b : Bool) → is_worth percent (stat s) ≡ b → AllByRecursion P (filter (is_worth percent) (map stat ss))
            → AllByRecursion P (cond b (stat s ∷ filter (is_worth percent) (map stat ss)) (filter (is_worth percent) (map stat ss)))
        by true is later = (all.0 is, later)
        by false is later = later

    from_worthy : (ss : List Segment) → AllByRecursion P (filter (is_worth percent) (map stat ss))
        → AllByRecursion (λ (s : Segment). is_worth percent (stat s) ≡ true → P (stat s)) ss
    from_worthy [] all = tt
    from_worthy (s ∷ ss) all = by (is_worth percent (stat s)) refl (from_worthy ss) all
      where
        by : (b : Bool) → is_worth percent (stat s) ≡ b
            → (AllByRecursion P (filter (is_worth percent) (map stat ss))
            → AllByRecursion (λ (t : Segment). is_worth percent (stat t) ≡ true → P (stat t)) ss)
            → AllByRecursion P (cond b (stat s ∷ filter (is_worth percent) (map stat ss)) (filter (is_worth percent) (map stat ss)))
            → AllByRecursion (λ (t : Segment). is_worth percent (stat t) ≡ true → P (stat t)) (s ∷ ss)
        by true is later all = ((λ worth. all.0), later all.1)
        by false is later all = ((λ worth. absurd (true_false (sym worth ∙ is))), later all)

    up : (ss : List Segment) → AllByRecursion P (filter (is_worth percent) (map stat ss))
        → AllByRecursion P (filter (is_worth percent) (map stat (rising ss)))
    up ss all = to_worthy (rising ss)
        (all_rising (λ (s : Segment). is_worth percent (stat s) ≡ true → P (stat s)) ss (from_worthy ss all))

    down : (ss : List Segment) → AreApart ss → AllByRecursion P (filter (is_worth percent) (map stat (rising ss)))
        → AllByRecursion P (filter (is_worth percent) (map stat ss))
    down ss off all = to_worthy ss
        (all_from_rising (λ (s : Segment). is_worth percent (stat s) ≡ true → P (stat s)) ss off (from_worthy (rising ss) all))

  some_bytes : (ss : List Segment) → AllByRecursion (λ (y : SegmentStat). 0 < y.bytes) (filter (is_worth percent) (map stat ss))
  some_bytes ss = to_worthy (λ (y : SegmentStat). 0 < y.bytes) ss (each ss)
    where
      each : (ts : List Segment) → AllByRecursion (λ (s : Segment). is_worth percent (stat s) ≡ true → 0 < (stat s).bytes) ts
      each [] = tt
      each (t ∷ ts) = (
        (λ worth.
            let some = (and_parts (nat_lt 0 (stat t).bytes) (nat_le (percent * (stat t).bytes) (discard (stat t) * 100)) worth).0 in
            grind (arith, nat_tests, some)),
        each ts,
      )

  pub best_in_any_order : (ss : List Segment) → AreApart ss
      → number_of (best_of (filter (is_worth percent) (map stat (rising ss))))
      ≡ number_of (best_of (filter (is_worth percent) (map stat ss)))
  best_in_any_order ss off =
      by (best_of (filter (is_worth percent) (map stat (rising ss)))) (best_of (filter (is_worth percent) (map stat ss))) refl refl
    where
      by : (o p : Option SegmentStat) → best_of (filter (is_worth percent) (map stat (rising ss))) ≡ o
          → best_of (filter (is_worth percent) (map stat ss)) ≡ p → number_of o ≡ number_of p
      by None None a b = refl
      by None (Some y) a b = absurd (best_in (λ (x : SegmentStat). ⊥) (filter (is_worth percent) (map stat ss)) y b
          (down (λ (x : SegmentStat). ⊥) ss off (no_best (filter (is_worth percent) (map stat (rising ss))) a)))
      by (Some x) None a b = absurd (best_in (λ (z : SegmentStat). ⊥) (filter (is_worth percent) (map stat (rising ss))) x a
          (up (λ (z : SegmentStat). ⊥) ss (no_best (filter (is_worth percent) (map stat ss)) b)))
      by (Some x) (Some y) a b =
          let one = best_in (λ (z : SegmentStat). is_better z x ≡ false) (filter (is_worth percent) (map stat ss)) y b
          (down (λ (z : SegmentStat). is_better z x ≡ false) ss off
          (greatest (filter (is_worth percent) (map stat (rising ss))) x (some_bytes (rising ss)) a)) in
          let two = best_in (λ (z : SegmentStat). is_better z y ≡ false) (filter (is_worth percent) (map stat (rising ss))) x a
          (up (λ (z : SegmentStat). is_better z y ≡ false) ss
          (greatest (filter (is_worth percent) (map stat ss)) y (some_bytes ss) b)) in
          ap (λ (n : ℕ). Some n) (neither_better x y two one)

-- ---- of a layout

-- What is found among a tally's logs below head is what is found among the layout's that may be collected.
pub best_of_tally : HasGreatest → (l : Layout) (live : List (ℕ × ℕ)) (percent : ℕ) → IsFalling (l.active ∷ l.frozen)
    → AreDistinct (log_numbers (l.active ∷ sealed l)) → AreOf (tables l) live
    → number_of (best_of (filter (is_worth percent) (map (share_by live)
    (filter (λ (log : ℕ × ℕ). nat_lt log.0 (head l)) (lengths_of (rising (sealed l)))))))
    ≡ number_of (best_of (filter (is_worth percent) (map (stat_of (tables l)) (collectable l))))
best_of_tally greatest l live percent falling distinct of =
    let below : ℕ → Bool = λ n. nat_lt n (head l) in
    ap number_of (capped_best percent live (filter (λ (log : ℕ × ℕ). nat_lt log.0 (head l)) (lengths_of (rising (sealed l)))))
    ∙ capped_number (best_of (filter (is_worth percent) (map (stat_by live)
    (filter (λ (log : ℕ × ℕ). nat_lt log.0 (head l)) (lengths_of (rising (sealed l)))))))
    ∙ ap (λ logs. number_of (best_of (filter (is_worth percent) (map (stat_by live) logs))))
    (sym (map-filter (λ (s : Segment). (s.number, s.length)) (λ (s : Segment). nat_lt s.number (head l))
    (λ (log : ℕ × ℕ). nat_lt log.0 (head l)) (λ s. refl) (rising (sealed l)))
    ∙ ap lengths_of (sym (rising-filter below (sealed l)) ∙ ap rising (none_pass below l.frozen l.flushed frozen_off)))
    ∙ ap (λ xs. number_of (best_of (filter (is_worth percent) xs))) (stats_are live (tables l) of (rising (collectable l)))
    ∙ best_in_any_order greatest (stat_of (tables l)) percent (collectable l)
    (apart_filtered (λ (s : Segment). nat_lt s.number (head l)) l.flushed
    (apart_behind l.frozen l.flushed (apart (l.active ∷ sealed l) distinct).1))
  where
    frozen_off : AllByRecursion (λ (s : Segment). nat_lt s.number (head l) ≡ false) l.frozen
    frozen_off =
        all_weaker (λ (s : Segment). head l ≤ s.number) (λ (s : Segment). nat_lt s.number (head l) ≡ false)
        (λ s least. grind (arith, nat_tests, least)) l.frozen (head_least l falling).1
