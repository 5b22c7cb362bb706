-- Where tickets stand in their list, which rises.
use Rattle.std.proofs.Common.{◌≡◌, ℕ, zero, suc, ◌+◌, ◌<◌, ◌≤◌, ◌==◌, Bool, true, false, cond, not, List, [], ◌∷◌}
use Rattle.std.proofs.Common.{length, get_or, refl, ap, sym, ◌∙◌, subst, arith, T, Some, None}
use Rattle.std.proofs.lemmas.Bool.Decides.{nat_tests}
use Rattle.std.specs.Prelude.{nat_lt}
use Rattle.std.specs.List.{prefix_len, insert, remove}
use Rattle.std.specs.FinMap.{put, find, is_sorted}
use Rattle.std.specs.FinMap.Entries.{below_all, by_order}
use Rattle.std.specs.declared.cmp.Ordering.TheVariants.{Less, Greater}
use Rattle.std.specs.Ordering.{nat_cmp, eq_by_cmp}
use Rattle.vl_oracle.specs.LiveTickets.{Ticket, free_from, without, is_below}
use Rattle.vl_oracle.proofs.LiveLaws.{two_parts, AreFrom, above_first, all_from_zero, free_from-ge, find_less}
use Rattle.vl_oracle.proofs.Tickets.{without-none, none_behind}

parts_of : (t : Ticket) (ts : List Ticket) → T (is_sorted nat_cmp (t ∷ ts)) → T (below_all nat_cmp t.0 ts) × T (is_sorted nat_cmp ts)
parts_of t ts rising = two_parts (below_all nat_cmp t.0 ts) (is_sorted nat_cmp ts) rising

-- each is at least its place further
at_least : (low : ℕ) (live : List Ticket) (i : ℕ) (d : Ticket) → T (is_sorted nat_cmp live) → AreFrom low live
    → i < length live → low + i ≤ (get_or live i d).0
at_least low [] i d rising are within = absurd (omega arith)
at_least low (t ∷ ts) zero d rising are within = let le = are.0 in omega arith
at_least low (t ∷ ts) (suc i) d rising are within =
    let parts = parts_of t ts rising in
    let first = are.0 in
    let later = at_least (t.0 + 1) ts i d parts.1 (above_first t.0 ts parts.0) (omega arith) in
    omega arith

from_next : (low : ℕ) (t : Ticket) (ts : List Ticket) → T (below_all nat_cmp t.0 ts) → t.0 ≡ low → AreFrom (low + 1) ts
from_next low t ts below is = subst (λ (n : ℕ). AreFrom (n + 1) ts) is (above_first t.0 ts below)

tied_at : (n m : ℕ) → n ≡ m → (n == m) ≡ true
tied_at n m is = grind (arith, nat_tests)

-- ---- the free ticket

-- one at the place that it names stands below the free ticket
taken_at : (low : ℕ) (live : List Ticket) (i : ℕ) (d : Ticket) → T (is_sorted nat_cmp live) → AreFrom low live → i < length live
    → (get_or live i d).0 ≡ low + i → low + i < free_from low live
taken_at low [] i d rising are within is = absurd (omega arith)
taken_at low (t ∷ ts) zero d rising are within is =
    subst (λ b. low + 0 < cond b (free_from (low + 1) ts) low) (sym (tied_at t.0 low (omega arith)))
    (omega (arith, free_from-ge (low + 1) ts))
taken_at low (t ∷ ts) (suc i) d rising are within is =
    let parts = parts_of t ts rising in
    let le = are.0 in
    let behind = at_least (t.0 + 1) ts i d parts.1 (above_first t.0 ts parts.0) (omega arith) in
    let first : t.0 ≡ low = omega arith in
    let later = taken_at (low + 1) ts i d parts.1 (from_next low t ts parts.0 first) (omega arith) (omega arith) in
    subst (λ b. low + suc i < cond b (free_from (low + 1) ts) low) (sym (tied_at t.0 low first)) (omega arith)

-- another stands at the free ticket's place or behind it
gap_at : (low : ℕ) (live : List Ticket) (i : ℕ) (d : Ticket) → i < length live → ((get_or live i d).0 ≡ low + i → ⊥)
    → free_from low live ≤ low + i
gap_at low [] i d within other = absurd (omega arith)
gap_at low (t ∷ ts) zero d within other =
    subst (λ b. cond b (free_from (low + 1) ts) low ≤ low + 0) (sym apart) (omega arith)
  where
    apart : (t.0 == low) ≡ false
    apart = let no : t.0 ≡ low → ⊥ = λ is. other (omega arith) in grind (arith, nat_tests)
gap_at low (t ∷ ts) (suc i) d within other =
    elim (t.0 == low) as (λ b. cond b (free_from (low + 1) ts) low ≤ low + suc i) [
      | true ↦ omega (arith, gap_at (low + 1) ts i d (omega arith) (λ is. other (omega arith)))
      | false ↦ omega arith
    ]

pub free-above : (live : List Ticket) (i : ℕ) (d : Ticket) → T (is_sorted nat_cmp live) → i < length live
    → (get_or live i d).0 ≡ i → i < free_from 0 live
free-above live i d rising within is = omega (arith, taken_at 0 live i d rising (all_from_zero live) within (omega arith))

pub free-up_to : (live : List Ticket) (i : ℕ) (d : Ticket) → i < length live → ((get_or live i d).0 ≡ i → ⊥) → free_from 0 live ≤ i
free-up_to live i d within other = omega (arith, gap_at 0 live i d within (λ is. other (omega arith)))

-- what is put in at the free ticket's place
insert-from : (low number : ℕ) (live : List Ticket) → T (is_sorted nat_cmp live) → AreFrom low live → (place : ℕ)
    → low + place ≡ free_from low live
    → insert live place (free_from low live, number) ≡ put nat_cmp (free_from low live) number live
insert-from low number [] rising are zero is = refl
insert-from low number [] rising are (suc place) is = absurd (omega arith)
insert-from low number (t ∷ ts) rising are place is =
    by (t.0 == low) refl place is (λ same place is. insert-from (low + 1) number ts parts.1 (from_next low t ts parts.0 same) place is)
  where
    parts : T (below_all nat_cmp t.0 ts) × T (is_sorted nat_cmp ts)
    parts = parts_of t ts rising

    greater : (free : ℕ) → t.0 ≡ low → low + 1 ≤ free → nat_cmp free t.0 ≡ Greater
    greater free same le = grind (arith, nat_tests)

    less : (t.0 == low) ≡ false → nat_cmp low t.0 ≡ Less
    less apart = let le = are.0 in grind (arith, nat_tests)

    same : (t.0 == low) ≡ true → t.0 ≡ low
    same is = grind (arith, nat_tests)

    by : (b : Bool) → (t.0 == low) ≡ b → (place : ℕ) → low + place ≡ cond b (free_from (low + 1) ts) low
        → (t.0 ≡ low → (place : ℕ) → low + 1 + place ≡ free_from (low + 1) ts
        → insert ts place (free_from (low + 1) ts, number) ≡ put nat_cmp (free_from (low + 1) ts) number ts)
        → insert (t ∷ ts) place (cond b (free_from (low + 1) ts) low, number) ≡ put nat_cmp
        (cond b (free_from (low + 1) ts) low) number (t ∷ ts)
    by true tied zero is later = absurd (omega (arith, free_from-ge (low + 1) ts))
    by true tied (suc place) is later =
        ap (λ rest. t ∷ rest) (later (same tied) place (omega arith))
        ∙ sym (ap (λ o. by_order o ((free_from (low + 1) ts, number) ∷ t ∷ ts) ((t.0, number) ∷ ts)
        (t ∷ put nat_cmp (free_from (low + 1) ts) number ts))
        (greater (free_from (low + 1) ts) (same tied) (free_from-ge (low + 1) ts)))
    by false apart zero is later =
        sym (ap (λ o. by_order o ((low, number) ∷ t ∷ ts) ((t.0, number) ∷ ts) (t ∷ put nat_cmp low number ts)) (less apart))
    by false apart (suc place) is later = absurd (omega arith)

pub insert-free : (number : ℕ) (live : List Ticket) → T (is_sorted nat_cmp live)
    → insert live (free_from 0 live) (free_from 0 live, number) ≡ put nat_cmp (free_from 0 live) number live
insert-free number live rising = insert-from 0 number live rising (all_from_zero live) (free_from 0 live) (omega arith)

-- ---- a ticket's place

below_test : (n ticket : ℕ) → n < ticket → nat_lt n ticket ≡ true
below_test n ticket lt = grind (arith, nat_tests)

above_test : (n ticket : ℕ) → ticket ≤ n → nat_lt n ticket ≡ false
above_test n ticket le = grind (arith, nat_tests)

pub place-above : (ticket : ℕ) (live : List Ticket) (i : ℕ) (d : Ticket) → T (is_sorted nat_cmp live)
    → i < length live → (get_or live i d).0 < ticket
    → i < prefix_len (is_below ticket) live
place-above ticket [] i d rising within lt = absurd (omega arith)
place-above ticket (t ∷ ts) zero d rising within lt =
    subst (λ b. 0 < cond b (1 + prefix_len (is_below ticket) ts) 0) (sym (below_test t.0 ticket lt)) (omega arith)
place-above ticket (t ∷ ts) (suc i) d rising within lt =
    let parts = parts_of t ts rising in
    let behind = at_least (t.0 + 1) ts i d parts.1 (above_first t.0 ts parts.0) (omega arith) in
    let later = place-above ticket ts i d parts.1 (omega arith) lt in
    subst (λ b. suc i < cond b (1 + prefix_len (is_below ticket) ts) 0) (sym (below_test t.0 ticket (omega arith))) (omega arith)

pub place-up_to : (ticket : ℕ) (live : List Ticket) (i : ℕ) (d : Ticket) → i < length live → ticket ≤ (get_or live i d).0
    → prefix_len (is_below ticket) live ≤ i
place-up_to ticket [] i d within le = absurd (omega arith)
place-up_to ticket (t ∷ ts) zero d within le =
    subst (λ b. cond b (1 + prefix_len (is_below ticket) ts) 0 ≤ 0) (sym (above_test t.0 ticket le)) (omega arith)
place-up_to ticket (t ∷ ts) (suc i) d within le =
    let later = place-up_to ticket ts i d (omega arith) le in
    elim (is_below ticket t) as (λ b. cond b (1 + prefix_len (is_below ticket) ts) 0 ≤ suc i) [
      | true ↦ omega arith
      | false ↦ omega arith
    ]

-- What is at a ticket's place says whether the ticket is there.
pub record IsTaken (ticket : ℕ) (live : List Ticket) (number : ℕ) : Type 0 where
  pub found : find nat_cmp ticket live ≡ Some number
  pub left : remove live (prefix_len (is_below ticket) live) ≡ without ticket live

skipped : (ticket : ℕ) (t : Ticket) (ts : List Ticket) → t.0 < ticket → eq_by_cmp nat_cmp ticket t.0 ≡ false
skipped ticket t ts lt = grind (arith, nat_tests)

pub taken : (ticket : ℕ) (live : List Ticket) (d : Ticket) → T (is_sorted nat_cmp live) → prefix_len (is_below ticket) live < length live
    → (get_or live (prefix_len (is_below ticket) live) d).0 ≡ ticket → IsTaken ticket live
    (get_or live (prefix_len (is_below ticket) live) d).1
taken ticket [] d rising within is = absurd (omega arith)
taken ticket (t ∷ ts) d rising within is = by (is_below ticket t) refl (taken ticket ts d parts.1) within is
  where
    parts : T (below_all nat_cmp t.0 ts) × T (is_sorted nat_cmp ts)
    parts = parts_of t ts rising

    lower : nat_lt t.0 ticket ≡ true → t.0 < ticket
    lower is = grind (arith, nat_tests)

    tied : t.0 ≡ ticket → eq_by_cmp nat_cmp ticket t.0 ≡ true
    tied is = grind (arith, nat_tests)

    further : (n : ℕ) → 1 + n ≡ suc n
    further n = omega arith

    by : (b : Bool) → is_below ticket t ≡ b
        → (prefix_len (is_below ticket) ts < length ts → (get_or ts (prefix_len (is_below ticket) ts) d).0 ≡ ticket
        → IsTaken ticket ts (get_or ts (prefix_len (is_below ticket) ts) d).1)
        → cond b (1 + prefix_len (is_below ticket) ts) 0 < length (t ∷ ts)
        → (get_or (t ∷ ts) (cond b (1 + prefix_len (is_below ticket) ts) 0) d).0 ≡ ticket
        → IsTaken ticket (t ∷ ts) (get_or (t ∷ ts) (cond b (1 + prefix_len (is_below ticket) ts) 0) d).1
    by true below later within is =
        let place = prefix_len (is_below ticket) ts in
        let same : get_or (t ∷ ts) (1 + place) d ≡ get_or ts place d = ap (λ (n : ℕ). get_or (t ∷ ts) n d) (further place) in
        let rest = later (omega arith) (sym (ap (λ (e : Ticket). e.0) same) ∙ is) in
        let skip = skipped ticket t ts (lower below) in
        record {
          found =
              ap (λ b. cond b (Some t.1) (find nat_cmp ticket ts)) skip ∙ rest.found
              ∙ ap (λ (e : Ticket). Some e.1) (sym same);
          left =
              ap (remove (t ∷ ts)) (ap (λ b. cond b (1 + place) 0) below ∙ further place) ∙ ap (λ rest. t ∷ rest) rest.left
              ∙ sym (ap (λ b. cond (not b) (t ∷ without ticket ts) (without ticket ts)) skip);
        }
    by false above later within is =
        let here = tied is in
        record {
          found = ap (λ b. cond b (Some t.1) (find nat_cmp ticket ts)) here;
          left =
              ap (remove (t ∷ ts)) (ap (λ b. cond b (1 + prefix_len (is_below ticket) ts) 0) above)
              ∙ sym (ap (λ b. cond (not b) (t ∷ without ticket ts) (without ticket ts)) here ∙ without-none ticket ts
              (none_behind t ts ticket parts.0 here));
        }

pub not_taken : (ticket : ℕ) (live : List Ticket) (d : Ticket) → T (is_sorted nat_cmp live)
    → (prefix_len (is_below ticket) live < length live → (get_or live (prefix_len (is_below ticket) live) d).0 ≡ ticket → ⊥)
    → find nat_cmp ticket live ≡ None
not_taken ticket [] d rising other = refl
not_taken ticket (t ∷ ts) d rising other = by (is_below ticket t) refl (not_taken ticket ts d parts.1) other
  where
    parts : T (below_all nat_cmp t.0 ts) × T (is_sorted nat_cmp ts)
    parts = parts_of t ts rising

    lower : nat_lt t.0 ticket ≡ true → t.0 < ticket
    lower is = grind (arith, nat_tests)

    higher : nat_lt t.0 ticket ≡ false → (t.0 ≡ ticket → ⊥) → ticket + 1 ≤ t.0
    higher is apart = grind (arith, nat_tests)

    all_higher : (low : ℕ) (us : List Ticket) → ticket + 1 ≤ low → AreFrom low us → AreFrom (ticket + 1) us
    all_higher low [] le are = tt
    all_higher low (u ∷ us) le are = (let first = are.0 in omega arith, all_higher low us le are.1)

    by : (b : Bool) → is_below ticket t ≡ b
        → ((prefix_len (is_below ticket) ts < length ts → (get_or ts (prefix_len (is_below ticket) ts) d).0 ≡ ticket
        → ⊥) → find nat_cmp ticket ts ≡ None)
        → (cond b (1 + prefix_len (is_below ticket) ts) 0 < length (t ∷ ts)
        → (get_or (t ∷ ts) (cond b (1 + prefix_len (is_below ticket) ts) 0) d).0 ≡ ticket → ⊥)
        → find nat_cmp ticket (t ∷ ts) ≡ None
    by true below later other =
        ap (λ b. cond b (Some t.1) (find nat_cmp ticket ts)) (skipped ticket t ts (lower below))
        ∙ later (λ within is. other (omega arith)
        (ap (λ (n : ℕ). (get_or (t ∷ ts) n d).0) (further (prefix_len (is_below ticket) ts)) ∙ is))
      where
        further : (n : ℕ) → 1 + n ≡ suc n
        further n = omega arith
    by false above later other =
        let first = higher above (λ is. other (omega arith) is) in
        find_less ticket (t ∷ ts) (first, all_higher (t.0 + 1) ts (omega arith) (above_first t.0 ts parts.0))

-- a list from which nothing is taken
pub without-not_taken : (ticket : ℕ) (live : List Ticket) → find nat_cmp ticket live ≡ None → live ≡ without ticket live
without-not_taken ticket live none = sym (without-none ticket live none)
