-- Laws of what is live: the free ticket is the least that none has, and the floor the least number at which one reads.
use Rattle.std.proofs.Common.{◌≡◌, ℕ, ◌+◌, ◌<◌, ◌≤◌, ◌==◌, Bool, true, false, cond, ◌&&◌, ◌||◌, List, [], ◌∷◌, length}
use Rattle.std.proofs.Common.{refl, ap, ◌∙◌, subst, arith, T, min, Option, Some, None, IsTrue, IsSome, unwrap_or}
use Rattle.std.proofs.lemmas.Bool.Decides.{nat_tests}
use Rattle.std.specs.Prelude.{nat_le}
use Rattle.std.specs.Option.{option_map}
use Rattle.std.specs.List.{AllByRecursion}
use Rattle.std.specs.FinMap.{find, is_sorted}
use Rattle.std.specs.FinMap.Entries.{below_all}
use Rattle.std.specs.Ordering.{nat_cmp, eq_by_cmp, is_lt}
use Rattle.vl_oracle.specs.LiveTickets.{LiveTickets, Ticket, AreLive, free_from, free_ticket, least_number, floor_of}
use Rattle.vl_oracle.specs.LiveTickets.{is_read_at, IsAttained}

pub as_T : (b : Bool) → IsTrue b → T b
as_T true is = tt
as_T false is = cc

pub from_T : (b : Bool) → T b → IsTrue b
from_T true is = refl
from_T false is = absurd is

-- ---- the free ticket

-- each ticket is at least this one
abbrev pub AreFrom : ℕ → List Ticket → Type 0
AreFrom low = AllByRecursion (λ (live : Ticket). low ≤ live.0)

pub free_from-ge : (low : ℕ) (live : List Ticket) → low ≤ free_from low live
free_from-ge low [] = omega arith
free_from-ge low (t ∷ ts) = elim (t.0 == low) as (λ b. low ≤ cond b (free_from (low + 1) ts) low) [
  | true ↦ omega (arith, free_from-ge (low + 1) ts)
  | false ↦ omega arith
]

pub free_from-le : (low : ℕ) (live : List Ticket) → free_from low live ≤ low + length live
free_from-le low [] = omega arith
free_from-le low (t ∷ ts) = elim (t.0 == low) as (λ b. cond b (free_from (low + 1) ts) low ≤ low + length (t ∷ ts)) [
  | true ↦ omega (arith, free_from-le (low + 1) ts)
  | false ↦ omega arith
]

pub above_first : (low : ℕ) (ts : List Ticket) → T (below_all nat_cmp low ts) → AreFrom (low + 1) ts
above_first low [] below = tt
above_first low (t ∷ ts) below = by_test (is_lt (nat_cmp low t.0)) refl (above_first low ts) below
  where
    above : is_lt (nat_cmp low t.0) ≡ true → low + 1 ≤ t.0
    above is = grind (arith, nat_tests)

    by_test : (b : Bool) → is_lt (nat_cmp low t.0) ≡ b → (T (below_all nat_cmp low ts) → AreFrom (low + 1) ts)
        → T (b && below_all nat_cmp low ts) → AreFrom (low + 1) (t ∷ ts)
    by_test true is later rest = (above is, later rest)
    by_test false is later rest = absurd rest

pub two_parts : (a b : Bool) → T (a && b) → T a × T b
two_parts true b both = (tt, both)
two_parts false b both = absurd both

-- a ticket below all of them isn't found
pub find_less : (ticket : ℕ) (live : List Ticket) → AreFrom (ticket + 1) live → find nat_cmp ticket live ≡ None
find_less ticket [] are = refl
find_less ticket (t ∷ ts) are = by_test (eq_by_cmp nat_cmp ticket t.0) refl (find_less ticket ts are.1)
  where
    apart : ticket + 1 ≤ t.0 → eq_by_cmp nat_cmp ticket t.0 ≡ false
    apart le = grind (arith, nat_tests)

    by_test : (b : Bool) → eq_by_cmp nat_cmp ticket t.0 ≡ b → find nat_cmp ticket ts ≡ None
        → cond b (Some t.1) (find nat_cmp ticket ts) ≡ None
    by_test true is later = let other = apart are.0 in cc
    by_test false is later = later

pub find-free_from : (low : ℕ) (live : List Ticket) → T (is_sorted nat_cmp live) → AreFrom low live
    → find nat_cmp (free_from low live) live ≡ None
find-free_from low [] rising are = refl
find-free_from low (t ∷ ts) rising are = by_test (t.0 == low) refl (find-free_from (low + 1) ts)
  where
    parts : T (below_all nat_cmp t.0 ts) × T (is_sorted nat_cmp ts)
    parts = two_parts (below_all nat_cmp t.0 ts) (is_sorted nat_cmp ts) rising

    same : (t.0 == low) ≡ true → t.0 ≡ low
    same is = grind (arith, nat_tests)

    higher : (t.0 == low) ≡ false → low + 1 ≤ t.0
    higher is = let le = are.0 in grind (arith, nat_tests)

    apart : (f : ℕ) → low + 1 ≤ f → t.0 ≡ low → eq_by_cmp nat_cmp f t.0 ≡ false
    apart f le is = grind (arith, nat_tests)

    skipped : (f : ℕ) → eq_by_cmp nat_cmp f t.0 ≡ false → find nat_cmp f ts ≡ None → find nat_cmp f (t ∷ ts) ≡ None
    skipped f is none = ap (λ b. cond b (Some t.1) (find nat_cmp f ts)) is ∙ none

    from_next : t.0 ≡ low → AreFrom (low + 1) ts
    from_next is = subst (λ (n : ℕ). AreFrom (n + 1) ts) is (above_first t.0 ts parts.0)

    later : (n : ℕ) (us : List Ticket) → AreFrom (n + 1) us → low ≤ n → AreFrom (low + 1) us
    later n [] are le = tt
    later n (u ∷ us) are le = (omega (arith, are.0), later n us are.1 le)

    by_test : (b : Bool) → (t.0 == low) ≡ b
        → (T (is_sorted nat_cmp ts) → AreFrom (low + 1) ts → find nat_cmp (free_from (low + 1) ts) ts ≡ None)
        → find nat_cmp (cond b (free_from (low + 1) ts) low) (t ∷ ts) ≡ None
    by_test true is further =
        skipped (free_from (low + 1) ts) (apart (free_from (low + 1) ts) (free_from-ge (low + 1) ts) (same is))
        (further parts.1 (from_next (same is)))
    by_test false is further = find_less low (t ∷ ts) (higher is, later t.0 ts (above_first t.0 ts parts.0) are.0)

pub all_from_zero : (live : List Ticket) → AreFrom 0 live
all_from_zero [] = tt
all_from_zero (t ∷ ts) = (omega arith, all_from_zero ts)

-- none has the free ticket
pub find-free_ticket : (live : LiveTickets) → IsTrue (is_sorted nat_cmp live.tickets) → find nat_cmp (free_ticket live) live.tickets ≡ None
find-free_ticket live rising = find-free_from 0 live.tickets (as_T (is_sorted nat_cmp live.tickets) rising) (all_from_zero live.tickets)

taken_from : (low : ℕ) (live : List Ticket) (ticket : ℕ) → low ≤ ticket → ticket < free_from low live → IsSome (find nat_cmp ticket live)
taken_from low [] ticket ge less = absurd (omega arith)
taken_from low (t ∷ ts) ticket ge less = by_test (t.0 == low) refl (taken_from (low + 1) ts ticket) less
  where
    later : (b : Bool) → eq_by_cmp nat_cmp ticket t.0 ≡ b → (b ≡ false → IsSome (find nat_cmp ticket ts))
        → IsSome (cond b (Some t.1) (find nat_cmp ticket ts))
    later true is found = refl
    later false is found = found refl

    not_here : t.0 ≡ low → eq_by_cmp nat_cmp ticket t.0 ≡ false → low + 1 ≤ ticket
    not_here same is = grind (arith, nat_tests)

    same : (t.0 == low) ≡ true → t.0 ≡ low
    same is = grind (arith, nat_tests)

    by_test : (b : Bool) → (t.0 == low) ≡ b → (low + 1 ≤ ticket → ticket < free_from (low + 1) ts → IsSome (find nat_cmp ticket ts))
        → ticket < cond b (free_from (low + 1) ts) low → IsSome (find nat_cmp ticket (t ∷ ts))
    by_test true is further below = later (eq_by_cmp nat_cmp ticket t.0) refl (λ apart. further (not_here (same is) apart) below)
    by_test false is further below = absurd (omega arith)

-- and each lesser one is taken
pub taken-below_free : (live : LiveTickets) (ticket : ℕ) → ticket < free_ticket live → IsSome (find nat_cmp ticket live.tickets)
taken-below_free live ticket less = taken_from 0 live.tickets ticket (omega arith) less

-- ---- the floor

-- the floor, as the least of the numbers and the last one
abbrev pub low_of : ℕ → List Ticket → ℕ
low_of last [] = last
low_of last (live ∷ others) = min live.1 (low_of last others)

abbrev pub AreUpTo : ℕ → List Ticket → Type 0
AreUpTo last = AllByRecursion (λ (live : Ticket). live.1 ≤ last)

low_of-le : (last : ℕ) (live : List Ticket) → low_of last live ≤ last
low_of-le last [] = omega arith
low_of-le last (t ∷ ts) = omega (arith, low_of-le last ts)

floor-low_of : (last : ℕ) (live : List Ticket) → AreUpTo last live → unwrap_or (least_number live) last ≡ low_of last live
floor-low_of last [] are = refl
floor-low_of last (t ∷ ts) are = by_least (least_number ts) (floor-low_of last ts are.1)
  where
    by_least : (o : Option ℕ) → unwrap_or o last ≡ low_of last ts → unwrap_or (option_map (min t.1) o) t.1 ≡ min t.1 (low_of last ts)
    by_least None is = let le = are.0 in omega arith
    by_least (Some least) is = ap (min t.1) is

pub floor_of-low_of : (live : LiveTickets) → AreLive live → floor_of live ≡ low_of live.last live.tickets
floor_of-low_of live are = floor-low_of live.last live.tickets are.read_below

pub floor_of-le_last : (live : LiveTickets) → AreLive live → floor_of live ≤ live.last
floor_of-le_last live are = omega (arith, floor_of-low_of live are, low_of-le live.last live.tickets)

least_number-le : (live : List Ticket) (last ticket number : ℕ) → find nat_cmp ticket live ≡ Some number
    → unwrap_or (least_number live) last ≤ number
least_number-le [] last ticket number found = cc
least_number-le (t ∷ ts) last ticket number found = by_test (eq_by_cmp nat_cmp ticket t.0) (least_number-le ts t.1 ticket number) found
  where
    here : (o : Option ℕ) → unwrap_or (option_map (min t.1) o) t.1 ≤ t.1
    here None = omega arith
    here (Some least) = omega arith

    there : (o : Option ℕ) → unwrap_or o t.1 ≤ number → unwrap_or (option_map (min t.1) o) t.1 ≤ number
    there None le = le
    there (Some least) le = omega arith

    by_test : (b : Bool) → (find nat_cmp ticket ts ≡ Some number → unwrap_or (least_number ts) t.1 ≤ number)
        → cond b (Some t.1) (find nat_cmp ticket ts) ≡ Some number → unwrap_or (option_map (min t.1) (least_number ts)) t.1 ≤ number
    by_test true further is = let same : t.1 ≡ number = cc in omega (arith, here (least_number ts))
    by_test false further is = there (least_number ts) (further is)

-- nothing that is live reads below the floor
pub floor_of-le : (live : LiveTickets) (ticket number : ℕ) → find nat_cmp ticket live.tickets ≡ Some number → floor_of live ≤ number
floor_of-le live ticket number found = least_number-le live.tickets live.last ticket number found

-- one reads at the floor
least-read : (t : Ticket) (ts : List Ticket) (last : ℕ) → is_read_at (unwrap_or (least_number (t ∷ ts)) last) (t ∷ ts) ≡ true
least-read t [] last = ap (λ b. b || false) (same t.1)
  where
    same : (n : ℕ) → (n == n) ≡ true
    same n = grind (arith, nat_tests)
least-read t (u ∷ ts) last = by (unwrap_or (option_map (min u.1) (least_number ts)) u.1) (least-read u ts t.1)
  where
    by : (least : ℕ) → is_read_at least (u ∷ ts) ≡ true → is_read_at (min t.1 least) (t ∷ u ∷ ts) ≡ true
    by least there = which (nat_le t.1 least) refl
      where
        or_true : (a : Bool) → (a || true) ≡ true
        or_true true = refl
        or_true false = refl

        here : nat_le t.1 least ≡ true → (t.1 == min t.1 least) ≡ true
        here is = grind (arith, nat_tests)

        later : nat_le t.1 least ≡ false → min t.1 least ≡ least
        later is = grind (arith, nat_tests)

        which : (b : Bool) → nat_le t.1 least ≡ b → is_read_at (min t.1 least) (t ∷ u ∷ ts) ≡ true
        which true is = ap (λ b. b || is_read_at (min t.1 least) (u ∷ ts)) (here is)
        which false is =
            ap (λ b. (t.1 == min t.1 least) || b) (ap (λ n. is_read_at n (u ∷ ts)) (later is) ∙ there) ∙ or_true (t.1 == min t.1 least)

attained : (ts : List Ticket) (last : ℕ) → IsAttained (unwrap_or (least_number ts) last) last ts
attained [] last = refl
attained (t ∷ ts) last = least-read t ts last

-- the floor is the number at which one reads, or the last
pub floor_of-attained : (live : LiveTickets) → IsAttained (floor_of live) live.last live.tickets
floor_of-attained live = attained live.tickets live.last
