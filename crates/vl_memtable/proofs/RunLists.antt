-- Laws of lists of runs.
use Rattle.std.proofs.Common.{◌≡◌, ℕ, zero, suc, ◌+◌, ◌*◌, ◌<◌, ◌≤◌, Bool, true, false, cond, ◌&&◌, List, [], ◌∷◌}
use Rattle.std.proofs.Common.{◌++◌, length, map, take, drop, refl, ap, sym, ◌∙◌, subst, arith, append_assoc}
use Rattle.std.proofs.Common.{length-append, get_or, Option, Some, None}
use Rattle.std.specs.Prelude.{◌==◌, IsTrue, nat_lt, nat_le}
use Rattle.std.specs.List.{AllByRecursion}
use Rattle.std.specs.Ordering.{is_eq}
use Rattle.std.proofs.lemmas.Bool.{and_parts}
use Rattle.std.proofs.lemmas.Bool.Decides.{nat_tests}
use Rattle.std.specs.declared.cmp.Ordering.{Ordering}
use Rattle.std.specs.declared.cmp.Ordering.TheVariants.{Less, Equal, Greater}
use Rattle.vl_model.specs.Entries.{entry_cmp, put, in_order, is_at}
use Rattle.vl_model.specs.Winners.{winner, exact, newest_of}
use Rattle.vl_model.specs.laws.WinnerLaws.{winner-append}
use Rattle.vl_model.specs.declared.entry.Entry.{Entry}
use Rattle.vl_model.specs.EntryOrder.{IsInOrder}
use Rattle.vl_model.specs.laws.OrderLaws.{IsRising, rising, in_order-front, in_order-back, length-in_order, put-less, put-greater}
use Rattle.vl_model.specs.laws.Lookup.{is_at-tied, exact-behind}
use Rattle.vl_model.specs.laws.Exact.{exact-append, exact-in_order}
use Rattle.vl_model.specs.Lookups.{or_else}
use Rattle.vl_memtable.specs.Contents.{all_of, IsApart, AreRuns, IsNewTo}
use Rattle.vl_memtable.specs.Lengths.{lengths_with, doubles}

-- ---- lengths

pub lengths_with-joins : (n first : ℕ) (rest : List ℕ) → first < 2 * n → lengths_with n (first ∷ rest) ≡ lengths_with (n + first) rest
lengths_with-joins n first rest less = ap (λ b. cond b (lengths_with (n + first) rest) (n ∷ first ∷ rest)) test
  where
    test : nat_lt first (2 * n) ≡ true
    test = grind (arith, nat_tests)

pub lengths_with-stays : (n first : ℕ) (rest : List ℕ) → 2 * n ≤ first → lengths_with n (first ∷ rest) ≡ n ∷ first ∷ rest
lengths_with-stays n first rest double = ap (λ b. cond b (lengths_with (n + first) rest) (n ∷ first ∷ rest)) test
  where
    test : nat_lt first (2 * n) ≡ false
    test = grind (arith, nat_tests)

doubles-rest : (n : ℕ) (rest : List ℕ) → doubles (n ∷ rest) ≡ true → doubles rest ≡ true
doubles-rest n [] is = refl
doubles-rest n (m ∷ rest) is = (and_parts _ _ is).1

doubles-more : (n m : ℕ) (rest : List ℕ) → 2 * n ≤ m → doubles (m ∷ rest) ≡ true → doubles (n ∷ m ∷ rest) ≡ true
doubles-more n m rest double is = ap (λ b. b && doubles (m ∷ rest)) test ∙ is
  where
    test : nat_le (2 * n) m ≡ true
    test = grind (arith, nat_tests)

-- the rule keeps each run at least twice as long as the next newer one
pub doubles-with : (n : ℕ) (lengths : List ℕ) → doubles lengths ≡ true → doubles (lengths_with n lengths) ≡ true
doubles-with n [] is = refl
doubles-with n (m ∷ rest) is = by (doubles-with (n + m) rest (doubles-rest m rest is)) (nat_lt m (2 * n)) refl
  where
    by : doubles (lengths_with (n + m) rest) ≡ true → (b : Bool) → nat_lt m (2 * n) ≡ b → doubles (lengths_with n (m ∷ rest)) ≡ true
    by later true less = ap (λ b. doubles (cond b (lengths_with (n + m) rest) (n ∷ m ∷ rest))) less ∙ later
    by later false less =
        ap (λ b. doubles (cond b (lengths_with (n + m) rest) (n ∷ m ∷ rest))) less
        ∙ doubles-more n m rest (grind (arith, nat_tests)) is

-- ---- no key and version twice

length-put-new : (e : Entry) (es : List Entry) → exact es e.key e.version ≡ None → length (put e es) ≡ length es + 1
length-put-new e [] none = refl
length-put-new e (f ∷ fs) none = by (length-put-new e fs) (entry_cmp e f) refl
  where
    at : (r : Ordering) → entry_cmp e f ≡ r → is_at e.key e.version f ≡ is_eq r
    at r is = is_at-tied e.key e.version f ∙ ap is_eq is

    there : (b : Bool) → is_at e.key e.version f ≡ b → cond b (Some f) (exact fs e.key e.version) ≡ None
    there b is = ap (λ b. cond b (Some f) (exact fs e.key e.version)) (sym is) ∙ none

    by : (exact fs e.key e.version ≡ None → length (put e fs) ≡ length fs + 1) → (r : Ordering) → entry_cmp e f ≡ r
        → length (put e (f ∷ fs)) ≡ length (f ∷ fs) + 1
    by later Less is = ap length (put-less e f fs is) ∙ (omega arith)
    by later Equal is = let some = there true (at Equal is) in absurd cc
    by later Greater is =
        let rest = later (there false (at Greater is)) in
        ap length (put-greater e f fs is) ∙ (omega (arith, rest))

first_none : (a b : Option Entry) → a ≡ None → b ≡ None → or_else a b ≡ None
first_none a b is_a is_b = ap (λ x. or_else x b) is_a ∙ is_b

-- a run in order that is new to entries without one twice is apart together with them
pub apart-new : (run all : List Entry) → IsRising run → IsNewTo (in_order all) run → IsApart all → IsApart (run ++ all)
apart-new [] all up new apart = apart
apart-new (e ∷ es) all up new apart =
    length-put-new e (in_order (es ++ all)) none ∙ ap (λ n. n + 1) (apart-new es all up.1 new.1 apart) ∙ (omega arith)
  where
    own : exact es e.key e.version ≡ None
    own = exact-behind e.key e.version es up.0

    none : exact (in_order (es ++ all)) e.key e.version ≡ None
    none =
        exact-in_order e.key e.version (es ++ all) ∙ exact-append e.key e.version es all
        ∙ first_none (exact es e.key e.version) (exact all e.key e.version) own
        (sym (exact-in_order e.key e.version all) ∙ new.0)

-- ---- one run joins the next

joined-order : (front run rest : List Entry) → in_order (in_order (front ++ run) ++ rest) ≡ in_order (front ++ (run ++ rest))
joined-order front run rest = in_order-front (front ++ run) rest ∙ ap in_order (append_assoc front run rest)

pub joined-length : (front run rest : List Entry) → IsApart (front ++ (run ++ rest))
    → length (in_order (front ++ run)) ≡ length front + length run
joined-length front run rest apart =
    omega (
      arith,
      apart,
      length-in_order (front ++ run),
      length-in_order (in_order (front ++ run) ++ rest),
      ap length
          (joined-order front run rest),
      length-append front (run ++ rest),
      length-append run rest,
      length-append front run,
      length-append (in_order (front ++ run)) rest,
    )

-- what is joined so far, and what is still to come
pub record Joins (run front : List Entry) (runs rest : List (List Entry)) : Type 0 where
  pub entries : in_order (front ++ all_of rest) ≡ in_order (run ++ all_of runs)
  pub lengths : lengths_with (length front) (map length rest) ≡ lengths_with (length run) (map length runs)
  pub apart : IsApart (front ++ all_of rest)
  pub some : 0 < length front

pub joins_next : (run front : List Entry) (runs rest : List (List Entry)) (next now : List Entry)
    → Joins run front runs (next ∷ rest) → length next < 2 * length front → now ≡ in_order (front ++ next) → Joins run now runs rest
joins_next run front runs rest next now so less is =
    subst (λ l. Joins run l runs rest) (sym is) (record {
      entries = joined-order front next (all_of rest) ∙ so.entries;
      lengths =
          ap (λ n. lengths_with n (map length rest)) (joined-length front next (all_of rest) so.apart)
          ∙ sym (lengths_with-joins (length front) (length next) (map length rest) less) ∙ so.lengths;
      apart = omega (
        arith,
        so.apart,
        joined-length front next (all_of rest) so.apart,
        ap length
            (joined-order front next (all_of rest)),
        length-append front (next ++ all_of rest),
        length-append next
            (all_of rest),
        length-append (in_order (front ++ next)) (all_of rest),
      );
      some = omega (arith, so.some, joined-length front next (all_of rest) so.apart);
    })

pub joins_first : (run : List Entry) (runs : List (List Entry)) → IsInOrder run → IsNewTo (in_order (all_of runs)) run
    → AreRuns runs → 0 < length run → Joins run run runs runs
joins_first run runs up new are some = record
    { some = some; entries = refl; lengths = refl; apart = apart-new run (all_of runs) (rising run up) new are.apart }

abbrev pub IsFinished : List Entry → List (List Entry) → Type 0
IsFinished front rest = lengths_with (length front) (map length rest) ≡ length front ∷ map length rest

pub joined-entries : (run front : List Entry) (runs rest : List (List Entry)) → Joins run front runs rest
    → in_order (all_of (front ∷ rest)) ≡ in_order (run ++ in_order (all_of runs))
joined-entries run front runs rest so = so.entries ∙ sym (in_order-back run (all_of runs))

pub joined-lengths : (run front : List Entry) (runs rest : List (List Entry)) → Joins run front runs rest → IsFinished front rest
    → map length (front ∷ rest) ≡ lengths_with (length run) (map length runs)
joined-lengths run front runs rest so finished = sym finished ∙ so.lengths

pub are_joined : (run front : List Entry) (runs rest : List (List Entry)) → Joins run front runs rest
    → IsFinished front rest → AreRuns runs → IsInOrder front → AllByRecursion IsInOrder rest
    → AllByRecursion (λ r. 0 < length r) rest → AreRuns (front ∷ rest)
are_joined run front runs rest so finished are here there some = record {
  some = (so.some, some);
  rising = (here, there);
  apart = so.apart;
  double = ap doubles (joined-lengths run front runs rest so finished) ∙ doubles-with (length run) (map length runs) are.double;
}

-- ---- looked up run by run

module _ (key : List ℕ) (number : ℕ) where
  all_of-push : (runs : List (List Entry)) (run : List Entry) → all_of (runs ++ run ∷ []) ≡ all_of runs ++ run
  all_of-push [] run = append-nil-run run
    where
      append-nil-run : (run : List Entry) → run ++ [] ≡ run
      append-nil-run [] = refl
      append-nil-run (e ∷ es) = ap (λ l. e ∷ l) (append-nil-run es)
  all_of-push (first ∷ runs) run = ap (λ l. first ++ l) (all_of-push runs run) ∙ sym (append_assoc first (all_of runs) run)

  pub winner-push : (runs : List (List Entry)) (run : List Entry)
      → winner (all_of (runs ++ run ∷ [])) key number ≡ newest_of (winner (all_of runs) key number) (winner run key number)
  winner-push runs run = ap (λ l. winner l key number) (all_of-push runs run) ∙ winner-append key number (all_of runs) run

  pub exact-push : (runs : List (List Entry)) (run : List Entry)
      → exact (all_of (runs ++ run ∷ [])) key number ≡ or_else (exact (all_of runs) key number) (exact run key number)
  exact-push runs run = ap (λ l. exact l key number) (all_of-push runs run) ∙ exact-append key number (all_of runs) run

  first_none-parts : (a b : Option Entry) → or_else a b ≡ None → (a ≡ None) × (b ≡ None)
  first_none-parts None b is = (refl, is)
  first_none-parts (Some e) b is = absurd cc

  pub exact-found : (runs : List (List Entry)) (i : ℕ) (run : List Entry) (e : Entry) → i < length runs
      → run ≡ get_or runs i run → exact (all_of (take i runs)) key number ≡ None → Some e ≡ exact run key number
      → Some e ≡ exact (all_of runs) key number
  exact-found [] i run e within is none found = absurd (omega arith)
  exact-found (first ∷ runs) zero run e within is none found =
      ap (λ x. or_else x (exact (all_of runs) key number)) (found ∙ ap (λ l. exact l key number) is)
      ∙ sym (exact-append key number first (all_of runs))
  exact-found (first ∷ runs) (suc i) run e within is none found =
      let parts = first_none-parts (exact first key number) (exact (all_of (take i runs)) key number)
      (sym (exact-append key number first (all_of (take i runs))) ∙ none) in
      exact-found runs i run e (omega arith) is parts.1 found
      ∙ sym (exact-append key number first (all_of runs) ∙ ap (λ x. or_else x (exact (all_of runs) key number)) parts.0)

module _ where
  suc_more : (i : ℕ) → suc i + 1 ≡ suc (i + 1)
  suc_more i = omega arith

  pub take_next : (runs : List (List Entry)) (i : ℕ) (run : List Entry) → i < length runs → run ≡ get_or runs i run
      → take (i + 1) runs ≡ take i runs ++ run ∷ []
  take_next [] i run within is = absurd (omega arith)
  take_next (first ∷ runs) zero run within is = ap (λ r. r ∷ []) (sym is)
  take_next (first ∷ runs) (suc i) run within is =
      ap (λ n. take n (first ∷ runs)) (suc_more i) ∙ ap (λ l. first ∷ l) (take_next runs i run (omega arith) is)

  pub drop_next : (runs : List (List Entry)) (i : ℕ) (run : List Entry) → i < length runs → run ≡ get_or runs i run
      → drop i runs ≡ run ∷ drop (i + 1) runs
  drop_next [] i run within is = absurd (omega arith)
  drop_next (first ∷ runs) zero run within is = ap (λ r. r ∷ runs) (sym is)
  drop_next (first ∷ runs) (suc i) run within is =
      drop_next runs i run (omega arith) is ∙ ap (λ n. run ∷ drop n (first ∷ runs)) (sym (suc_more i))

  pub drop_none : (runs : List (List Entry)) (i : ℕ) → length runs ≤ i → drop i runs ≡ []
  drop_none [] zero past = refl
  drop_none [] (suc i) past = refl
  drop_none (run ∷ runs) zero past = absurd (omega arith)
  drop_none (run ∷ runs) (suc i) past = drop_none runs i (omega arith)

  finished_next : (front next : List Entry) (rest : List (List Entry)) → 2 * length front ≤ length next → IsFinished front (next ∷ rest)
  finished_next front next rest double = lengths_with-stays (length front) (length next) (map length rest) double

  -- no further run joins
  pub finished_at : (front : List Entry) (runs : List (List Entry)) (i : ℕ) (next : List Entry) → i < length runs
      → next ≡ get_or runs i next
      → 2 * length front ≤ length next → IsFinished front (drop i runs)
  finished_at front runs i next within is double = subst (IsFinished front) (sym (drop_next runs i next within is))
      (finished_next front next (drop (i + 1) runs) double)

  pub finished_past : (front : List Entry) (runs : List (List Entry)) (i : ℕ) → length runs ≤ i → IsFinished front (drop i runs)
  finished_past front runs i past = subst (IsFinished front) (sym (drop_none runs i past)) refl

  pub joins_at : (run front : List Entry) (runs : List (List Entry)) (i : ℕ) (next now : List Entry) → i < length runs
      → next ≡ get_or runs i next
      → Joins run front runs (drop i runs) → length next < 2 * length front → now ≡ in_order (front ++ next)
      → Joins run now runs (drop (i + 1) runs)
  joins_at run front runs i next now within is so less merged =
      joins_next run front runs (drop (i + 1) runs) next now (subst (Joins run front runs) (drop_next runs i next within is) so) less merged

  pub all-drop : (P : List Entry → Type 0) (runs : List (List Entry)) (i : ℕ) → AllByRecursion P runs → AllByRecursion P (drop i runs)
  all-drop P runs zero all = all
  all-drop P [] (suc i) all = tt
  all-drop P (run ∷ runs) (suc i) all = all-drop P runs i all.1

  -- entries there are where there is a run
  pub some_runs : (runs : List (List Entry)) → AreRuns runs → in_order (all_of runs) ≡ [] → length runs ≡ 0
  some_runs [] are none = refl
  some_runs (run ∷ runs) are none = absurd (omega (arith, are.some.0, are.apart, ap length none, length-append run (all_of runs)))

  not_zero : (n : ℕ) → (suc n == 0) ≡ true → ⊥
  not_zero n is = grind (arith, nat_tests)

  pub is_empty-runs : (runs : List (List Entry)) → AreRuns runs → (b : Bool) (es : List Entry) → b ≡ (length runs == 0)
      → in_order (all_of runs) ≡ es → (IsTrue b → es ≡ []) × (es ≡ [] → IsTrue b)
  is_empty-runs [] are b es is same = (λ yes. sym same, λ none. is)
  is_empty-runs (run ∷ runs) are b es is same = (
    λ yes. absurd (not_zero (length runs) (sym is ∙ yes)),
    λ none. let zero_runs : length
        (run ∷ runs) ≡ 0 = some_runs (run ∷ runs) are (same ∙ none) in absurd (omega (arith, zero_runs)),
  )
