-- What a begin, an end and a new last number do to the tickets, to the counts and to the floor.
use Rattle.std.proofs.Common.{◌≡◌, ℕ, ◌+◌, ◌^◌, ◌<◌, ◌≤◌, ◌==◌, Bool, true, false, cond, not, List, [], ◌∷◌, length}
use Rattle.std.proofs.Common.{refl, ap, sym, ◌∙◌, subst, arith, T, min, Option, Some, None, IsSome, is_some}
use Rattle.std.proofs.Common.{unwrap_or}
use Rattle.std.proofs.lemmas.Bool.Decides.{nat_tests}
use Rattle.std.specs.FinMap.{put, find, is_sorted}
use Rattle.std.specs.FinMap.Entries.{below_all, by_order, is_sorted-put, is_sorted-where_key, length-put}
use Rattle.std.specs.Cmp.{nat_cmp_total}
use Rattle.std.specs.declared.cmp.Ordering.{Ordering}
use Rattle.std.specs.declared.cmp.Ordering.TheVariants.{Less, Equal, Greater}
use Rattle.std.specs.Ordering.{nat_cmp, eq_by_cmp, is_eq}
use Rattle.vl_model.specs.Limits.{max_live}
use Rattle.vl_oracle.specs.LiveTickets.{LiveTickets, Ticket, AreLive, free_ticket, least_number, floor_of, begun, ended, without}
use Rattle.vl_oracle.specs.Counts.{uses, counted, with_count, IsLeastKey, IsKept}
use Rattle.vl_oracle.proofs.LiveLaws.{as_T, from_T, two_parts, low_of, AreUpTo, floor_of-low_of, find-free_ticket}
use Rattle.vl_oracle.proofs.LiveLaws.{find_less, AreFrom, above_first, free_from-le}

-- ---- what is taken out

-- where a ticket isn't found, none is taken away
pub without-none : (ticket : ℕ) (live : List Ticket) → find nat_cmp ticket live ≡ None → without ticket live ≡ live
without-none ticket [] none = refl
without-none ticket (t ∷ ts) none = by_test (eq_by_cmp nat_cmp ticket t.0) (without-none ticket ts) none
  where
    by_test : (b : Bool) → (find nat_cmp ticket ts ≡ None → without ticket ts ≡ ts)
        → cond b (Some t.1) (find nat_cmp ticket ts) ≡ None → cond (not b) (t ∷ without ticket ts) (without ticket ts) ≡ t ∷ ts
    by_test true further is = cc
    by_test false further is = ap (λ rest. t ∷ rest) (further is)

pub none_behind : (t : Ticket) (ts : List Ticket) (ticket : ℕ) → T (below_all nat_cmp t.0 ts)
    → eq_by_cmp nat_cmp ticket t.0 ≡ true → find nat_cmp ticket ts ≡ None
none_behind t ts ticket below is = find_less ticket ts
    (subst (λ (n : ℕ). AreFrom (n + 1) ts) (same t.0 ticket is) (above_first t.0 ts below))
  where
    same : (held ticket : ℕ) → eq_by_cmp nat_cmp ticket held ≡ true → held ≡ ticket
    same held ticket is = grind (arith, nat_tests)

-- ---- counts

abbrev one_if : ℕ → ℕ → ℕ
one_if m n = cond (m == n) 1 0

uses-put : (n ticket number : ℕ) (live : List Ticket) → find nat_cmp ticket live ≡ None
    → uses n (put nat_cmp ticket number live) ≡ one_if number n + uses n live
uses-put n ticket number [] none = refl
uses-put n ticket number (t ∷ ts) none = by_order_of (nat_cmp ticket t.0) (uses-put n ticket number ts) none
  where
    by_order_of : (r : Ordering)
        → (find nat_cmp ticket ts ≡ None → uses n (put nat_cmp ticket number ts) ≡ one_if number n + uses n ts)
        → cond (is_eq r) (Some t.1) (find nat_cmp ticket ts) ≡ None
        → uses n (by_order r ((ticket, number) ∷ t ∷ ts) ((t.0, number) ∷ ts) (t ∷ put nat_cmp ticket number ts)) ≡
        one_if number n + (one_if t.1 n + uses n ts)
    by_order_of Less further is = refl
    by_order_of Equal further is = cc
    by_order_of Greater further is = let later = further is in omega arith

uses-without : (n ticket number : ℕ) (live : List Ticket) → T (is_sorted nat_cmp live)
    → find nat_cmp ticket live ≡ Some number → one_if number n + uses n (without ticket live) ≡ uses n live
uses-without n ticket number [] rising found = cc
uses-without n ticket number (t ∷ ts) rising found = by_test (eq_by_cmp nat_cmp ticket t.0) refl
    (uses-without n ticket number ts parts.1) found
  where
    parts : T (below_all nat_cmp t.0 ts) × T (is_sorted nat_cmp ts)
    parts = two_parts (below_all nat_cmp t.0 ts) (is_sorted nat_cmp ts) rising

    here : eq_by_cmp nat_cmp ticket t.0 ≡ true → t.1 ≡ number → one_if number n + uses n (without ticket ts) ≡ one_if t.1 n + uses n ts
    here is same = ap (λ m. one_if m n + uses n (without ticket ts)) (sym same)
        ∙ ap (λ (rest : List Ticket). one_if t.1 n + uses n rest) (without-none ticket ts (none_behind t ts ticket parts.0 is))

    by_test : (b : Bool) → eq_by_cmp nat_cmp ticket t.0 ≡ b
        → (find nat_cmp ticket ts ≡ Some number → one_if number n + uses n (without ticket ts) ≡ uses n ts)
        → cond b (Some t.1) (find nat_cmp ticket ts) ≡ Some number
        → one_if number n + uses n (cond (not b) (t ∷ without ticket ts) (without ticket ts)) ≡ one_if t.1 n + uses n ts
    by_test true is further found = here is cc
    by_test false is further found = let later = further found in omega arith

pub uses-le : (n : ℕ) (live : List Ticket) → uses n live ≤ length live
uses-le n [] = omega arith
uses-le n (t ∷ ts) = elim (t.1 == n) as (λ b. cond b 1 0 + uses n ts ≤ length (t ∷ ts)) [
  | true ↦ omega (arith, uses-le n ts)
  | false ↦ omega (arith, uses-le n ts)
]

pub counted-value : (count : ℕ) → unwrap_or (counted count) 0 ≡ count
counted-value count = by_test (count == 0) refl
  where
    zero_is : (count == 0) ≡ true → 0 ≡ count
    zero_is is = grind (arith, nat_tests)

    by_test : (b : Bool) → (count == 0) ≡ b → unwrap_or (cond b None (Some count)) 0 ≡ count
    by_test true is = zero_is is
    by_test false is = refl

-- the counts of a map after one of its numbers got another count
counts_after : (number count n : ℕ) (old new : Option ℕ) (before after : ℕ) → old ≡ counted before
    → new ≡ with_count count number old n → ((number == n) ≡ true → count ≡ after)
    → ((number == n) ≡ false → before ≡ after) → new ≡ counted after
counts_after number count n old new before after was is here there = by_test (number == n) refl is
  where
    by_test : (b : Bool) → (number == n) ≡ b → new ≡ cond b (counted count) old → new ≡ counted after
    by_test true same e = e ∙ ap counted (here same)
    by_test false apart e = e ∙ was ∙ ap counted (there apart)

number_is : (number n : ℕ) → (number == n) ≡ true → number ≡ n
number_is number n is = grind (arith, nat_tests)

-- ---- what is kept after each call

module _ (live : LiveTickets) (standing new : ℕ → Option ℕ) (kept : IsKept live standing) where
  added_at : (n : ℕ) → new n ≡ with_count (unwrap_or (standing live.last) 0 + 1) live.last (standing n) n
      → new n ≡ counted (one_if live.last n + uses n live.tickets)
  added_at n is =
      counts_after live.last (unwrap_or (standing live.last) 0 + 1) n (standing n) (new n) (uses n live.tickets)
      (one_if live.last n + uses n live.tickets) (kept.counts n) is
      here (λ apart. sym none ∙ ap (λ b. cond b 1 0 + uses n live.tickets) (sym apart))
    where
      value : unwrap_or (standing live.last) 0 ≡ uses live.last live.tickets
      value = ap (λ (o : Option ℕ). unwrap_or o 0) (kept.counts live.last) ∙ counted-value (uses live.last live.tickets)

      none : 0 + uses n live.tickets ≡ uses n live.tickets
      none = omega arith

      here : (live.last == n) ≡ true → unwrap_or (standing live.last) 0 + 1 ≡ one_if live.last n + uses n live.tickets
      here same =
          ap (λ m. m + 1) (value ∙ ap (λ m. uses m live.tickets) (number_is live.last n same)) ∙ one_more
          ∙ ap (λ b. cond b 1 0 + uses n live.tickets) (sym same)
        where
          one_more : uses n live.tickets + 1 ≡ 1 + uses n live.tickets
          one_more = omega arith

  added : ((n : ℕ) → new n ≡ with_count (unwrap_or (standing live.last) 0 + 1) live.last (standing n) n) → (n : ℕ)
      → new n ≡ counted (one_if live.last n + uses n live.tickets)
  added is n = added_at n (is n)

some_counted : (m : ℕ) → counted (m + 1) ≡ Some (m + 1)
some_counted m = ap (λ b. cond b None (Some (m + 1))) not_zero
  where
    not_zero : (m + 1 == 0) ≡ false
    not_zero = grind (arith, nat_tests)

is_counted : (m : ℕ) → IsSome (counted m) → 0 < m
is_counted m some = by_test (m == 0) refl some
  where
    above : (m == 0) ≡ false → 0 < m
    above is = grind (arith, nat_tests)

    by_test : (b : Bool) → (m == 0) ≡ b → IsSome (cond b None (Some m)) → 0 < m
    by_test true is some = cc
    by_test false is some = above is

counted_is : (m : ℕ) → 0 < m → IsSome (counted m)
counted_is m above = ap (λ b. is_some (cond b None (Some m))) not_zero
  where
    not_zero : (m == 0) ≡ false
    not_zero = grind (arith, nat_tests)

-- ---- tickets that rise, read at numbers up to the last, and are few

up_to-put : (last ticket number : ℕ) (live : List Ticket) → number ≤ last → AreUpTo last live
    → AreUpTo last (put nat_cmp ticket number live)
up_to-put last ticket number [] le are = (le, tt)
up_to-put last ticket number (t ∷ ts) le are = by_order_of (nat_cmp ticket t.0) (up_to-put last ticket number ts le are.1)
  where
    by_order_of : (r : Ordering) → AreUpTo last (put nat_cmp ticket number ts)
        → AreUpTo last (by_order r ((ticket, number) ∷ t ∷ ts) ((t.0, number) ∷ ts) (t ∷ put nat_cmp ticket number ts))
    by_order_of Less later = (le, are)
    by_order_of Equal later = (le, are.1)
    by_order_of Greater later = (are.0, later)

up_to-without : (last ticket : ℕ) (live : List Ticket) → AreUpTo last live → AreUpTo last (without ticket live)
up_to-without last ticket [] are = tt
up_to-without last ticket (t ∷ ts) are =
    let later = up_to-without last ticket ts are.1 in
    elim (not (eq_by_cmp nat_cmp ticket t.0)) as (λ b. AreUpTo last (cond b (t ∷ without ticket ts) (without ticket ts))) [
      | true ↦ (are.0, later)
      | false ↦ later
    ]

length_without-le : (ticket : ℕ) (live : List Ticket) → length (without ticket live) ≤ length live
length_without-le ticket [] = omega arith
length_without-le ticket (t ∷ ts) =
    elim (not (eq_by_cmp nat_cmp ticket t.0)) as (λ b. length (cond b (t ∷ without ticket ts) (without ticket ts)) ≤ length (t ∷ ts)) [
      | true ↦ omega (arith, length_without-le ticket ts)
      | false ↦ omega (arith, length_without-le ticket ts)
    ]

length_put-le : (ticket number : ℕ) (live : List Ticket) → T (is_sorted nat_cmp live)
    → length (put nat_cmp ticket number live) ≤ length live + 1
length_put-le ticket number live rising =
    subst (λ (n : ℕ). n ≤ length live + 1) (sym (length-put nat_cmp nat_cmp_total ticket number live rising))
    (by_test (is_some (find nat_cmp ticket live)))
  where
    by_test : (b : Bool) → cond b (length live) (length live + 1) ≤ length live + 1
    by_test true = omega arith
    by_test false = omega arith

module _ (live : LiveTickets) (standing : ℕ → Option ℕ) (kept : IsKept live standing) where
  sorted : T (is_sorted nat_cmp live.tickets)
  sorted = as_T (is_sorted nat_cmp live.tickets) kept.are.rising

  pub kept-begun : (new : ℕ → Option ℕ) → length live.tickets < max_live
      → ((n : ℕ) → new n ≡ with_count (unwrap_or (standing live.last) 0 + 1) live.last (standing n) n) → IsKept (begun live) new
  kept-begun new room is = record {
    are = record {
      rising = from_T (is_sorted nat_cmp (put nat_cmp (free_ticket live) live.last live.tickets))
          (is_sorted-put nat_cmp nat_cmp_total (free_ticket live) live.last live.tickets sorted);
      read_below = up_to-put live.last (free_ticket live) live.last live.tickets (omega arith) kept.are.read_below;
    };
    few = omega (arith, length_put-le (free_ticket live) live.last live.tickets sorted);
    counts = λ n. added live standing new kept is n
        ∙ ap counted (sym (uses-put n (free_ticket live) live.last live.tickets (find-free_ticket live kept.are.rising)));
  }

  -- the count that was added is taken away again
  pub kept-undone : (mid new : ℕ → Option ℕ)
      → ((n : ℕ) → mid n ≡ with_count (unwrap_or (standing live.last) 0 + 1) live.last (standing n) n)
      → ((count n : ℕ) → mid live.last ≡ Some (count + 1) → new n ≡ with_count count live.last (mid n) n) → IsKept live new
  kept-undone mid new is back = record { are = kept.are; few = kept.few; counts = counts }
    where
      counts : (n : ℕ) → new n ≡ counted (uses n live.tickets)
      counts n =
          let here : mid live.last ≡ counted (one_if live.last live.last + uses live.last live.tickets) = added live
          standing mid kept is live.last in
          let one : mid live.last ≡ Some (uses live.last live.tickets + 1) = here
          ∙ ap counted (own live.last (uses live.last live.tickets)) ∙ some_counted (uses live.last live.tickets) in
          counts_after live.last (uses live.last live.tickets) n (mid n) (new n)
          (one_if live.last n + uses n live.tickets) (uses n live.tickets) (added live standing mid kept is n)
          (back (uses live.last live.tickets) n one)
          (λ same. ap (λ m. uses m live.tickets) (number_is live.last n same))
          (λ apart. ap (λ b. cond b 1 0 + uses n live.tickets) apart ∙ none)
        where
          own : (n more : ℕ) → one_if n n + more ≡ more + 1
          own n more = ap (λ b. cond b 1 0 + more) tied ∙ omega arith
            where
              tied : (n == n) ≡ true
              tied = grind (arith, nat_tests)

          none : 0 + uses n live.tickets ≡ uses n live.tickets
          none = omega arith

  pub kept-ended : (ticket number : ℕ) (new : ℕ → Option ℕ) → find nat_cmp ticket live.tickets ≡ Some number
      → ((count n : ℕ) → standing number ≡ Some (count + 1) → new n ≡ with_count count number (standing n) n)
      → IsKept (ended ticket live) new
  kept-ended ticket number new found back = record {
    are = record {
      rising = from_T (is_sorted nat_cmp (without ticket live.tickets))
          (is_sorted-where_key nat_cmp (λ (other : ℕ). not (eq_by_cmp nat_cmp ticket other)) live.tickets sorted);
      read_below = up_to-without live.last ticket live.tickets kept.are.read_below;
    };
    few = let few = kept.few in omega (arith, length_without-le ticket live.tickets);
    counts = counts;
  }
    where
      counts : (n : ℕ) → new n ≡ counted (uses n (without ticket live.tickets))
      counts n =
          let more : (m : ℕ) → one_if number m + uses m (without ticket live.tickets) ≡ uses m live.tickets = λ m.
          uses-without m ticket number live.tickets sorted found in
          let one : standing number ≡ Some (uses number (without ticket live.tickets) + 1) =
          kept.counts number ∙ ap counted (sym (more number) ∙ own number (uses number (without ticket live.tickets)))
          ∙ some_counted (uses number (without ticket live.tickets)) in
          counts_after number (uses number (without ticket live.tickets)) n (standing n) (new n) (uses n live.tickets)
          (uses n (without ticket live.tickets)) (kept.counts n) (back (uses number (without ticket live.tickets)) n one)
          (λ same. ap (λ m. uses m (without ticket live.tickets)) (number_is number n same))
          (λ apart. sym (more n) ∙ ap (λ b. cond b 1 0 + uses n (without ticket live.tickets)) apart ∙ none)
        where
          own : (n more : ℕ) → one_if n n + more ≡ more + 1
          own n more = ap (λ b. cond b 1 0 + more) tied ∙ omega arith
            where
              tied : (n == n) ≡ true
              tied = grind (arith, nat_tests)

          none : 0 + uses n (without ticket live.tickets) ≡ uses n (without ticket live.tickets)
          none = omega arith

-- what is taken out again leaves the others as they were
without-put : (ticket number : ℕ) (live : List Ticket) → find nat_cmp ticket live ≡ None
    → without ticket (put nat_cmp ticket number live) ≡ live
without-put ticket number live none = by_list live none
  where
    tied : eq_by_cmp nat_cmp ticket ticket ≡ true
    tied = grind (arith, nat_tests)

    own : (ts : List Ticket) → without ticket ((ticket, number) ∷ ts) ≡ without ticket ts
    own ts = ap (λ b. cond (not b) ((ticket, number) ∷ without ticket ts) (without ticket ts)) tied

    by_list : (ts : List Ticket) → find nat_cmp ticket ts ≡ None → without ticket (put nat_cmp ticket number ts) ≡ ts
    by_list [] is = own []
    by_list (t ∷ ts) is = by_order_of (nat_cmp ticket t.0) refl (by_list ts) is
      where
        by_order_of : (r : Ordering) → nat_cmp ticket t.0 ≡ r
            → (find nat_cmp ticket ts ≡ None → without ticket (put nat_cmp ticket number ts) ≡ ts)
            → cond (is_eq r) (Some t.1) (find nat_cmp ticket ts) ≡ None
            → without ticket (by_order r ((ticket, number) ∷ t ∷ ts) ((t.0, number) ∷ ts) (t ∷ put nat_cmp ticket number ts))
            ≡ t ∷ ts
        by_order_of Less order further none = own (t ∷ ts) ∙ without-none ticket (t ∷ ts) is
        by_order_of Equal order further none = cc
        by_order_of Greater order further none =
            ap (λ (r : Ordering). cond (not (is_eq r)) (t ∷ without ticket (put nat_cmp ticket number ts))
            (without ticket (put nat_cmp ticket number ts))) order
            ∙ ap (λ (rest : List Ticket). t ∷ rest) (further none)

pub ended-begun : (live : LiveTickets) → AreLive live → ended (free_ticket live) (begun live) ≡ live
ended-begun live are = ap (λ (ts : List Ticket). record { last = live.last; tickets = ts })
    (without-put (free_ticket live) live.last live.tickets (find-free_ticket live are.rising))

-- ---- the floor

low_of-without : (last ticket : ℕ) (live : List Ticket) → low_of last live ≤ low_of last (without ticket live)
low_of-without last ticket [] = omega arith
low_of-without last ticket (t ∷ ts) =
    elim (not (eq_by_cmp nat_cmp ticket t.0)) as
    (λ b. min t.1 (low_of last ts) ≤ low_of last (cond b (t ∷ without ticket ts) (without ticket ts))) [
      | true ↦ omega (arith, low_of-without last ticket ts)
      | false ↦ omega (arith, low_of-without last ticket ts)
    ]

low_of-put : (last low ticket number : ℕ) (live : List Ticket) → find nat_cmp ticket live ≡ None → low ≤ number
    → low ≤ low_of last live → low ≤ low_of last (put nat_cmp ticket number live)
low_of-put last low ticket number [] none le all = omega arith
low_of-put last low ticket number (t ∷ ts) none le all = by_order_of (nat_cmp ticket t.0) (low_of-put last low ticket number ts) none
  where
    by_order_of : (r : Ordering)
        → (find nat_cmp ticket ts ≡ None → low ≤ number → low ≤ low_of last ts
        → low ≤ low_of last (put nat_cmp ticket number ts)) → cond (is_eq r) (Some t.1) (find nat_cmp ticket ts) ≡ None
        → low ≤ low_of last (by_order r ((ticket, number) ∷ t ∷ ts) ((t.0, number) ∷ ts) (t ∷ put nat_cmp ticket number ts))
    by_order_of Less further is = omega arith
    by_order_of Equal further is = cc
    by_order_of Greater further is = let later = further is le (omega arith) in omega arith

low_le_last : (last : ℕ) (live : List Ticket) → low_of last live ≤ last
low_le_last last [] = omega arith
low_le_last last (t ∷ ts) = omega (arith, low_le_last last ts)

pub floor-begun : (live : LiveTickets) → AreLive live → AreLive (begun live) → floor_of live ≤ floor_of (begun live)
floor-begun live are after =
    omega (
      arith,
      floor_of-low_of live are,
      floor_of-low_of (begun live) after,
      low_of-put live.last
          (low_of live.last live.tickets) (free_ticket live) live.last live.tickets (find-free_ticket live are.rising)
          (low_le_last live.last live.tickets) (omega arith),
    )

low_of-put-le : (last ticket : ℕ) (live : List Ticket) → find nat_cmp ticket live ≡ None
    → low_of last (put nat_cmp ticket last live) ≤ low_of last live
low_of-put-le last ticket [] none = omega arith
low_of-put-le last ticket (t ∷ ts) none = by_order_of (nat_cmp ticket t.0) (low_of-put-le last ticket ts) none
  where
    by_order_of : (r : Ordering) → (find nat_cmp ticket ts ≡ None → low_of last (put nat_cmp ticket last ts) ≤ low_of last ts)
        → cond (is_eq r) (Some t.1) (find nat_cmp ticket ts) ≡ None
        → low_of last (by_order r ((ticket, last) ∷ t ∷ ts) ((t.0, last) ∷ ts) (t ∷ put nat_cmp ticket last ts))
        ≤ low_of last (t ∷ ts)
    by_order_of Less further is = omega arith
    by_order_of Equal further is = cc
    by_order_of Greater further is = let later = further is in omega arith

-- what begins reads at the last number, so the floor stays
pub floor-begun-same : (live : LiveTickets) → AreLive live → AreLive (begun live) → floor_of (begun live) ≡ floor_of live
floor-begun-same live are after =
    omega (
      arith,
      floor-begun live are after,
      floor_of-low_of live are,
      floor_of-low_of (begun live) after,
      low_of-put-le live.last (free_ticket live) live.tickets (find-free_ticket live are.rising),
    )

pub floor-ended : (ticket : ℕ) (live : LiveTickets) → AreLive live → AreLive (ended ticket live)
    → floor_of live ≤ floor_of (ended ticket live)
floor-ended ticket live are after = omega
    (arith, floor_of-low_of live are, floor_of-low_of (ended ticket live) after, low_of-without live.last ticket live.tickets)

-- ---- the least number of the map

used_more : (n : ℕ) (t : Ticket) (ts : List Ticket) → 0 < uses n ts → 0 < uses n (t ∷ ts)
used_more n t ts used = omega arith

used_here : (t : Ticket) (ts : List Ticket) → 0 < uses t.1 (t ∷ ts)
used_here t ts = subst (λ b. 0 < cond b 1 0 + uses t.1 ts) (sym tied) (omega arith)
  where
    tied : (t.1 == t.1) ≡ true
    tied = grind (arith, nat_tests)

low_of-ge : (low last : ℕ) (live : List Ticket) → low ≤ last → ((n : ℕ) → 0 < uses n live → low ≤ n) → low ≤ low_of last live
low_of-ge low last [] le all = le
low_of-ge low last (t ∷ ts) le all = omega
    (arith, all t.1 (used_here t ts), low_of-ge low last ts le (λ n used. all n (used_more n t ts used)))

used_le : (last n : ℕ) (live : List Ticket) → AreUpTo last live → 0 < uses n live → (low_of last live ≤ n) × (n ≤ last)
used_le last n [] are used = absurd (omega arith)
used_le last n (t ∷ ts) are used = by_test (t.1 == n) refl (used_le last n ts are.1) used
  where
    same : (t.1 == n) ≡ true → t.1 ≡ n
    same is = grind (arith, nat_tests)

    by_test : (b : Bool) → (t.1 == n) ≡ b → (0 < uses n ts → (low_of last ts ≤ n) × (n ≤ last))
        → 0 < cond b 1 0 + uses n ts → (min t.1 (low_of last ts) ≤ n) × (n ≤ last)
    by_test true is further used = let e = same is in let le = are.0 in (omega arith, omega arith)
    by_test false is further used = let later = further (omega arith) in (omega (arith, later.0), later.1)

no_tickets : (live : List Ticket) → ((n : ℕ) → counted (uses n live) ≡ None) → live ≡ []
no_tickets [] none = refl
no_tickets (t ∷ ts) none = absurd (other (counted (uses t.1 (t ∷ ts))) (counted_is (uses t.1 (t ∷ ts)) (used_here t ts)) (none t.1))
  where
    other : (o : Option ℕ) → IsSome o → o ≡ None → ⊥
    other None some is = cc
    other (Some n) some is = cc

pub floor-least : (live : LiveTickets) (standing : ℕ → Option ℕ) (least : Option ℕ) → IsKept live standing
    → IsLeastKey standing least → unwrap_or least live.last ≡ floor_of live
floor-least live standing None kept is =
    sym (ap (λ (ts : List Ticket). unwrap_or (least_number ts) live.last) (no_tickets live.tickets (λ n. sym (kept.counts n) ∙ is n)))
floor-least live standing (Some least) kept is =
    let here : 0 < uses least live.tickets = is_counted (uses least live.tickets) (subst IsSome (kept.counts least) is.0) in
    let bounds = used_le live.last least live.tickets kept.are.read_below here in
    let all : (n : ℕ) → 0 < uses n live.tickets
    → least ≤ n = λ n used. is.1 n (subst IsSome (sym (kept.counts n)) (counted_is (uses n live.tickets) used)) in
    omega (arith, floor_of-low_of live kept.are, bounds.0, bounds.1, low_of-ge least live.last live.tickets bounds.1 all)

-- ---- limits

pub few_uses : (live : LiveTickets) (standing : ℕ → Option ℕ) → IsKept live standing → unwrap_or (standing live.last) 0 + 1 < 2 ^ 32
few_uses live standing kept =
    let few = kept.few in
    let value : unwrap_or (standing live.last) 0 ≡ uses live.last live.tickets = ap (λ (o : Option ℕ). unwrap_or o 0)
    (kept.counts live.last) ∙ counted-value (uses live.last live.tickets) in
    omega (arith, value, uses-le live.last live.tickets)

pub free_below : (live : LiveTickets) → length live.tickets < max_live → free_ticket live < max_live
free_below live room = omega (arith, free_from-le 0 live.tickets)
