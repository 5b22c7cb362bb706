-- Laws of a memtable's runs: that they are few, and that each goes along the way of its cursor.
use Rattle.std.proofs.Common.{◌≡◌, ℕ, zero, suc, ◌+◌, ◌*◌, ◌-◌, ◌^◌, ◌<◌, ◌≤◌, Bool, true, cond, List, [], ◌∷◌, ◌++◌}
use Rattle.std.proofs.Common.{length, map, reverse, refl, ap, sym, ◌∙◌, subst, arith, length-append}
use Rattle.std.proofs.lemmas.List.{reverse-append}
use Rattle.std.proofs.lemmas.List.Sums.{sum_by-cons}
use Rattle.std.proofs.lemmas.Bool.{and_parts}
use Rattle.std.proofs.lemmas.Bool.Decides.{nat_tests}
use Rattle.std.specs.Prelude.{false, nat_le}
use Rattle.std.specs.List.{AllByRecursion, filter, sum}
use Rattle.std.specs.Ordering.{is_gt}
use Rattle.vl_model.specs.Entries.{entry_cmp}
use Rattle.vl_model.specs.declared.entry.Entry.{Entry}
use Rattle.vl_model.specs.Reads.{is_in_span}
use Rattle.vl_model.specs.declared.span.Span.{Span}
use Rattle.vl_model.specs.declared.way.Way.{Way}
use Rattle.vl_model.specs.declared.way.Way.TheVariants.{Up, Down}
use Rattle.vl_model.specs.EntryOrder.{IsInOrder, along, within}
use Rattle.vl_model.specs.laws.OrderLaws.{IsBefore, IsRising, rising}
use Rattle.vl_model.specs.Merging.{IsFirst, IsAlong}
use Rattle.vl_model.specs.Order.{way_cmp}
use Rattle.vl_memtable.specs.Contents.{Contents, all_of, contents_of, AreRuns, GiveAll, GiveWithin}
use Rattle.vl_memtable.specs.Lengths.{doubles}
use Rattle.vl_memtable.specs.Facts.{HasFewRuns}

-- ---- few

-- a bound for more is one for less
less : (a d p s : ℕ) → 1 ≤ p → (a + d) * p ≤ s + (a + d) → a * p ≤ s + a
less a d zero s some most = absurd (omega arith)
less a d (suc p) s some most = omega arith

one_more : (n m p s : ℕ) → 1 ≤ p → 2 * n ≤ m → m * p ≤ s + m → n * (2 * p) ≤ (n + s) + n
one_more n m p s some double most =
    let parts : m ≡ 2 * n + (m - 2 * n) = omega arith in
    let twice : 2 * n * p ≤ s + 2 * n = less (2 * n) (m - 2 * n) p s some (subst (λ k. k * p ≤ s + k) parts most) in
    omega arith

some_power : (k : ℕ) → 1 ≤ 2 ^ k
some_power zero = omega arith
some_power (suc k) = let half = some_power k in omega arith

power_more : (k : ℕ) → 2 ^ suc k ≡ 2 * 2 ^ k
power_more k = omega arith

doubled : (n : ℕ) (ns : List ℕ) → doubles (n ∷ ns) ≡ true → n * 2 ^ length (n ∷ ns) ≤ sum (n ∷ ns) + n
doubled n [] is = omega arith
doubled n (m ∷ ns) is =
    let parts = and_parts (nat_le (2 * n) m) (doubles (m ∷ ns)) is in
    let later = doubled m ns parts.1 in
    let double : 2 * n ≤ m = (let test = parts.0 in grind (arith, nat_tests)) in
    let whole = sum_by-cons (λ k. k) n (m ∷ ns) in
    let longer : length (n ∷ m ∷ ns) ≡ suc (length (m ∷ ns)) = omega arith in
    let power : 2 ^ length (n ∷ m ∷ ns) ≡ 2 * 2 ^ length (m ∷ ns) = ap (λ k. 2 ^ k) longer ∙ power_more (length (m ∷ ns)) in
    let more = one_more n m (2 ^ length (m ∷ ns)) (sum (m ∷ ns)) (some_power (length (m ∷ ns))) double later in
    subst (λ p. n * p ≤ sum (n ∷ m ∷ ns) + n) (sym power) (subst (λ all. n * (2 * 2 ^ length (m ∷ ns)) ≤ all + n) (sym whole) more)

pub few : (ns : List ℕ) → doubles ns ≡ true → AllByRecursion (λ n. 0 < n) ns → 2 ^ length ns ≤ sum ns + 1
few [] is some = omega arith
few (n ∷ ns) is some =
    let first = some.0 in
    let parts : n ≡ 1 + (n - 1) = omega arith in
    let most = doubled n ns is in
    let one = less 1 (n - 1) (2 ^ length (n ∷ ns)) (sum (n ∷ ns)) (some_power (length (n ∷ ns)))
    (subst (λ k. k * 2 ^ length (n ∷ ns) ≤ sum (n ∷ ns) + k) parts most) in
    omega arith

sum-lengths : (runs : List (List Entry)) → sum (map length runs) ≡ length (all_of runs)
sum-lengths [] = refl
sum-lengths (run ∷ runs) =
    sum_by-cons (λ k. k) (length run) (map length runs) ∙ ap (λ n. length run + n) (sum-lengths runs)
    ∙ sym (length-append run (all_of runs))

some-lengths : (runs : List (List Entry)) → AllByRecursion (λ run. 0 < length run) runs → AllByRecursion (λ n. 0 < n) (map length runs)
some-lengths [] some = tt
some-lengths (run ∷ runs) some = (some.0, some-lengths runs some.1)

pub few-runs : (held : Contents) (runs : List (List Entry)) → held ≡ contents_of runs → AreRuns runs → HasFewRuns held
few-runs held runs is are = subst HasFewRuns (sym is) (record {
  some = some-lengths runs are.some;
  double = are.double;
  whole = sum-lengths runs ∙ sym are.apart;
  few = let most = few (map length runs) are.double (some-lengths runs are.some) in let whole = sum-lengths runs
      ∙ sym are.apart in omega arith;
})

-- ---- along a way

first-before : (e : Entry) (es : List Entry) → IsBefore e es → IsFirst Up e es
first-before e [] before = tt
first-before e (f ∷ fs) before = (ap is_gt before.0, first-before e fs before.1)

along-last : (es : List Entry) (e : Entry) → IsAlong Down es → AllByRecursion (λ f. is_gt (way_cmp Down f e) ≡ false) es
    → IsAlong Down (es ++ e ∷ [])
along-last [] e along behind = (tt, tt)
along-last (f ∷ fs) e along behind = (first-more fs along.0, along-last fs e along.1 behind.1)
  where
    first-more : (gs : List Entry) → IsFirst Down f gs → IsFirst Down f (gs ++ e ∷ [])
    first-more [] first = (behind.0, tt)
    first-more (g ∷ gs) first = (first.0, first-more gs first.1)

all-reverse : (P : Entry → Type 0) (es : List Entry) → AllByRecursion P es → AllByRecursion P (reverse es)
all-reverse P [] all = tt
all-reverse P (e ∷ es) all = subst (AllByRecursion P) (sym (reverse-append (e ∷ []) es)) (all-last (reverse es) (all-reverse P es all.1))
  where
    all-last : (fs : List Entry) → AllByRecursion P fs → AllByRecursion P (fs ++ e ∷ [])
    all-last [] later = (all.0, tt)
    all-last (f ∷ fs) later = (later.0, all-last fs later.1)

along-rising : (way : Way) (es : List Entry) → IsRising es → IsAlong way (along way es)
along-rising Up [] rising = tt
along-rising Up (e ∷ es) rising = (first-before e es rising.0, along-rising Up es rising.1)
along-rising Down [] rising = tt
along-rising Down (e ∷ es) rising =
    subst (IsAlong Down) (sym (reverse-append (e ∷ []) es))
    (along-last (reverse es) e (along-rising Down es rising.1)
    (all-reverse (λ f. is_gt (entry_cmp e f) ≡ false) es (first-before e es rising.0)))

-- entries in order go along either way
pub along-along : (way : Way) (es : List Entry) → IsInOrder es → IsAlong way (along way es)
along-along way es is = along-rising way es (rising es is)

pub all_along : (way : Way) (runs : List (List Entry)) → AllByRecursion IsInOrder runs → AllByRecursion (IsAlong way) (map (along way) runs)
all_along way [] rising = tt
all_along way (run ∷ runs) rising = (along-along way run rising.0, all_along way runs rising.1)

-- what cursors over all runs give
pub give_all : (way : Way) (held : Contents) (runs left : List (List Entry)) → held ≡ contents_of runs → AreRuns runs
    → left ≡ map (along way) runs
    → GiveAll way held left
give_all way held runs left is are each = record {
  runs = runs;
  each = each;
  rising = are.rising;
  entries = ap (λ (m : Contents). m.entries) is;
  lengths = ap (λ (m : Contents). m.lengths) is;
  along = subst (AllByRecursion (IsAlong way)) (sym each) (all_along way runs are.rising);
}

-- ---- in an interval

before-filter : (p : Entry → Bool) (e : Entry) (es : List Entry) → IsBefore e es → IsBefore e (filter p es)
before-filter p e [] before = tt
before-filter p e (f ∷ fs) before =
    let later = before-filter p e fs before.1 in
    elim (p f) as (λ b. IsBefore e (cond b (f ∷ filter p fs) (filter p fs))) [
      | true ↦ (before.0, later)
      | false ↦ later
    ]

rising-filter : (p : Entry → Bool) (es : List Entry) → IsRising es → IsRising (filter p es)
rising-filter p [] rising = tt
rising-filter p (e ∷ es) rising =
    let later = rising-filter p es rising.1 in
    elim (p e) as (λ b. IsRising (cond b (e ∷ filter p es) (filter p es))) [
      | true ↦ (before-filter p e es rising.0, later)
      | false ↦ later
    ]

all_within : (span : Span) (way : Way) (runs : List (List Entry)) → AllByRecursion IsInOrder runs
    → AllByRecursion (IsAlong way) (map (λ run. along way (within span run)) runs)
all_within span way [] in_order = tt
all_within span way (run ∷ runs) in_order = (
  along-rising way (within span run) (rising-filter (λ e. is_in_span span e.key) run (rising run in_order.0)),
  all_within span way runs in_order.1,
)

pub give_within : (span : Span) (way : Way) (held : Contents) (runs left : List (List Entry)) → held ≡ contents_of runs
    → AreRuns runs → left ≡ map (λ run. along way (within span run)) runs → GiveWithin span way held left
give_within span way held runs left is are each = record {
  runs = runs;
  each = each;
  rising = are.rising;
  entries = ap (λ (m : Contents). m.entries) is;
  along = subst (AllByRecursion (IsAlong way)) (sym each) (all_within span way runs are.rising);
}
