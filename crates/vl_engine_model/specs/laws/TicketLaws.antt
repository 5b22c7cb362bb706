-- Laws of tickets: one that is free, and what a begin and an end make of those that live and those that are open.
use Rattle.std.proofs.Common.{◌≡◌, ℕ, ◌+◌, ◌≤◌, ◌<◌, Bool, true, false, cond, not, ◌&&◌, ◌||◌, List, [], ◌∷◌, refl, ap, sym, ◌∙◌, arith}
use Rattle.std.proofs.lemmas.Bool.{false≢true}
use Rattle.std.proofs.lemmas.Bool.Decides.{nat_tests}
use Rattle.std.specs.Prelude.{◌==◌}
use Rattle.std.specs.List.{AllByRecursion, filter, list_any}
use Rattle.vl_engine_model.specs.LockHistory.{OpenTicket, is_of, closed, opened, tickets_in, IsOpen}
use Rattle.vl_engine_model.specs.Rising.{put_by, IsRising}
use Rattle.vl_engine_model.specs.Tickets.{Ticket, tickets_of, has_ticket, free_from, free_ticket}
use Rattle.vl_engine_model.specs.declared.live.Live.{Live}
use Rattle.vl_engine_model.specs.declared.live.Pin.{Pin}
use Rattle.vl_engine_model.specs.laws.LockHistoryLaws.{AreRising}
use Rattle.vl_engine_model.specs.laws.RisingLaws.{map-put_by, map-filter}

-- ---- a free ticket

next_from : (low : ℕ) (ts : List Ticket) → AllByRecursion (λ (t : Ticket). low < t.0) ts → AllByRecursion (λ (t : Ticket). low + 1 ≤ t.0) ts
next_from low [] all = tt
next_from low (t ∷ ts) all = ((let less = all.0 in omega (arith, less)), next_from low ts all.1)

above_all : (n : ℕ) (ts : List Ticket) → AllByRecursion (λ (t : Ticket). n < t.0) ts → has_ticket n ts ≡ false
above_all n [] all = refl
above_all n (t ∷ ts) all = let less = all.0 in let no : (t.0 == n) ≡ false = grind (arith, nat_tests, less) in ap
    (λ b. b || has_ticket n ts) no ∙ above_all n ts all.1

higher : (m n : ℕ) → m ≤ n → (ts : List Ticket) → AllByRecursion (λ (t : Ticket). n < t.0) ts → AllByRecursion (λ (t : Ticket). m < t.0) ts
higher m n le [] all = tt
higher m n le (t ∷ ts) all = ((let less = all.0 in omega (arith, le, less)), higher m n le ts all.1)

free_from-ge : (low : ℕ) (ts : List Ticket) → low ≤ free_from low ts
free_from-ge low [] = omega arith
free_from-ge low (t ∷ ts) =
    let later = free_from-ge (low + 1) ts in
    elim (t.0 == low) as (λ b. low ≤ cond b (free_from (low + 1) ts) low) [ true ↦ omega (arith, later) | false ↦ omega arith ]

free_from-free : (low : ℕ) (ts : List Ticket) → IsRising (λ (t : Ticket). t.0) ts → AllByRecursion (λ (t : Ticket). low ≤ t.0) ts
    → has_ticket (free_from low ts) ts ≡ false
free_from-free low [] rising from = refl
free_from-free low (t ∷ ts) rising from =
    by_test (t.0 == low) refl (λ above. free_from-free (low + 1) ts rising.1 (next_from low ts above))
  where
    by_test : (b : Bool) → (t.0 == low) ≡ b
        → (AllByRecursion (λ (u : Ticket). low < u.0) ts → has_ticket (free_from (low + 1) ts) ts ≡ false)
        → has_ticket (cond b (free_from (low + 1) ts) low) (t ∷ ts) ≡ false
    by_test true is rest =
        let same : t.0 ≡ low = grind (arith, nat_tests) in
        let ge = free_from-ge (low + 1) ts in
        let no : (t.0 == free_from (low + 1) ts) ≡ false = grind (arith, nat_tests, same, ge) in
        ap (λ b. b || has_ticket (free_from (low + 1) ts) ts) no ∙ rest (higher low t.0 (omega (arith, same)) ts rising.0)
    by_test false is rest =
        let le = from.0 in
        let less : low < t.0 = grind (arith, nat_tests, le, is) in
        ap (λ b. b || has_ticket low ts) is ∙ above_all low ts (higher low t.0 (omega (arith, less)) ts rising.0)

all_from_zero : (ts : List Ticket) → AllByRecursion (λ (t : Ticket). 0 ≤ t.0) ts
all_from_zero [] = tt
all_from_zero (t ∷ ts) = (omega arith, all_from_zero ts)

-- the ticket that is given is free
pub free_ticket-free : (ts : List Ticket) → IsRising (λ (t : Ticket). t.0) ts → has_ticket (free_ticket ts) ts ≡ false
free_ticket-free ts rising = free_from-free 0 ts rising (all_from_zero ts)

all_in : (P : ℕ → Type 0) (ts : List OpenTicket) → AllByRecursion (λ (t : OpenTicket). P t.ticket) ts
    → AllByRecursion (λ (t : Ticket). P t.0) (tickets_in ts)
all_in P [] all = tt
all_in P (t ∷ ts) all = (all.0, all_in P ts all.1)

pub rising_in : (ts : List OpenTicket) → AreRising ts → IsRising (λ (t : Ticket). t.0) (tickets_in ts)
rising_in [] rising = tt
rising_in (t ∷ ts) rising = (all_in (λ n. t.ticket < n) ts rising.0, rising_in ts rising.1)

-- ---- a begin and an end

pub live_begun : (ts : List OpenTicket) (live : List Live) (s ticket number : ℕ) (pin : Pin) → tickets_of live ≡ tickets_in ts
    → tickets_of (put_by (λ (x : Live). x.ticket) (record { ticket = ticket; number = number; pin = pin }) live) ≡
    tickets_in (opened s ticket number ts)
live_begun ts live s ticket number pin are =
    map-put_by (λ (x : Live). (x.ticket, x.number)) (λ (x : Live). x.ticket) (λ (t : Ticket). t.0) (λ x. refl)
    (record { ticket = ticket; number = number; pin = pin }) live
    ∙ ap (put_by (λ (t : Ticket). t.0) (ticket, number)) are
    ∙ sym (map-put_by (λ (t : OpenTicket). (t.ticket, t.number)) (λ (t : OpenTicket). t.ticket) (λ (t : Ticket). t.0)
    (λ t. refl) (record { session = s; ticket = ticket; number = number }) ts)

-- the ticket that ends is one, and the session's
closed_alone : (s ticket : ℕ) (ts : List OpenTicket) → AreRising ts → IsOpen s ticket ts
    → tickets_in (closed s ticket ts) ≡ filter (λ (t : Ticket). not (t.0 == ticket)) (tickets_in ts)
closed_alone s ticket [] rising is = refl
closed_alone s ticket (t ∷ ts) rising is =
    by_tests (t.session == s) (t.ticket == ticket) refl is (closed_alone s ticket ts rising.1)
  where
    none_left : (us : List OpenTicket) → t.ticket ≡ ticket → AllByRecursion (λ (u : OpenTicket). t.ticket < u.ticket) us
        → tickets_in (closed s ticket us) ≡ filter (λ (v : Ticket). not (v.0 == ticket)) (tickets_in us)
    none_left [] same above = refl
    none_left (u ∷ us) same above =
        let less = above.0 in
        let no : (u.ticket == ticket) ≡ false = grind (arith, nat_tests, less, same) in
        ap (λ b. tickets_in (cond (not ((u.session == s) && b)) (u ∷ closed s ticket us) (closed s ticket us))) no
        ∙ kept (u.session == s)
        ∙ ap (λ vs. (u.ticket, u.number) ∷ vs) (none_left us same above.1)
        ∙ sym (ap (λ b. cond (not b)
        ((u.ticket, u.number) ∷ filter (λ (v : Ticket). not (v.0 == ticket)) (tickets_in us))
        (filter (λ (v : Ticket). not (v.0 == ticket)) (tickets_in us))) no)
      where
        kept : (b : Bool) → tickets_in (cond (not (b && false)) (u ∷ closed s ticket us) (closed s ticket us)) ≡
            (u.ticket, u.number) ∷ tickets_in (closed s ticket us)
        kept true = refl
        kept false = refl

    not_open : (us : List OpenTicket) → t.ticket ≡ ticket → AllByRecursion (λ (u : OpenTicket). t.ticket < u.ticket) us
        → list_any (is_of s ticket) us ≡ true → ⊥
    not_open [] same above is = false≢true is
    not_open (u ∷ us) same above is =
        let less = above.0 in
        let no : (u.ticket == ticket) ≡ false = grind (arith, nat_tests, less, same) in
        not_open us same above.1
        (sym (ap (λ b. b || list_any (is_of s ticket) us) (ap (λ b. (u.session == s) && b) no ∙ never (u.session == s))) ∙ is)
      where
        never : (b : Bool) → (b && false) ≡ false
        never true = refl
        never false = refl

    by_tests : (a b : Bool) → (t.ticket == ticket) ≡ b → ((a && b) || list_any (is_of s ticket) ts) ≡ true
        → (IsOpen s ticket ts → tickets_in (closed s ticket ts) ≡ filter (λ (v : Ticket). not (v.0 == ticket)) (tickets_in ts))
        → tickets_in (cond (not (a && b)) (t ∷ closed s ticket ts) (closed s ticket ts)) ≡ cond (not b)
        ((t.ticket, t.number) ∷ filter (λ (v : Ticket). not (v.0 == ticket)) (tickets_in ts))
        (filter (λ (v : Ticket). not (v.0 == ticket)) (tickets_in ts))
    by_tests true true e is rest = let same : t.ticket ≡ ticket = grind (arith, nat_tests) in none_left ts same rising.0
    by_tests true false e is rest = ap (λ vs. (t.ticket, t.number) ∷ vs) (rest is)
    by_tests false true e is rest = let same : t.ticket ≡ ticket = grind (arith, nat_tests) in absurd (not_open ts same rising.0 is)
    by_tests false false e is rest = ap (λ vs. (t.ticket, t.number) ∷ vs) (rest is)

pub live_closed : (ts : List OpenTicket) (live : List Live) (s ticket : ℕ) → AreRising ts → IsOpen s ticket ts
    → tickets_of live ≡ tickets_in ts
    → tickets_of (filter (λ (x : Live). not (x.ticket == ticket)) live) ≡ tickets_in (closed s ticket ts)
live_closed ts live s ticket rising is are =
    map-filter (λ (x : Live). (x.ticket, x.number)) (λ (x : Live). not (x.ticket == ticket))
    (λ (t : Ticket). not (t.0 == ticket)) (λ x. refl) live
    ∙ ap (filter (λ (t : Ticket). not (t.0 == ticket))) are
    ∙ sym (closed_alone s ticket ts rising is)
