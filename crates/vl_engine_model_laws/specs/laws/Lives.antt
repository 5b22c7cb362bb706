-- What lives has tickets that rise, known numbers and a limit, and a begin gives a ticket that is free.
use Rattle.std.proofs.Common.{◌≡◌, ◌≢◌, ℕ, ◌≤◌, ◌<◌, Bool, true, false, cond, not, ◌||◌, List, [], ◌∷◌, length, refl, sym, subst, arith}
use Rattle.std.proofs.lemmas.Bool.{false≢true}
use Rattle.std.proofs.lemmas.Bool.Decides.{nat_tests}
use Rattle.std.specs.Prelude.{nat_le, ◌==◌, if◌then◌else◌}
use Rattle.std.specs.List.{AllByRecursion, filter}
use Rattle.vl_model.specs.History.{History, last_number, with_commit}
use Rattle.vl_model.specs.Keys.{Writes}
use Rattle.vl_model.specs.Limits.{max_live}
use Rattle.vl_model.specs.laws.HistoryLaws.{last_number-extends}
use Rattle.vl_engine_model.specs.Rising.{IsRising}
use Rattle.vl_engine_model.specs.Ruling.{ended, leaving, pin_of}
use Rattle.vl_engine_model.specs.Rulings.Begin.{Begun, TooMany, begin_ruling, begun}
use Rattle.vl_engine_model.specs.Tickets.{Ticket, free_ticket, has_ticket, tickets_of}
use Rattle.vl_engine_model.specs.declared.layout.Layout.{Layout}
use Rattle.vl_engine_model.specs.declared.live.Live.{Live}
use Rattle.vl_engine_model.specs.laws.RisingLaws.{all-filter, all-put_by, length-put_by, rising-filter, rising-put_by}
use Rattle.vl_engine_model.specs.laws.TicketLaws.{free_ticket-free}
use Rattle.vl_engine_model_laws.specs.Live.{IsLivedIn}
use Rattle.vl_engine_model_laws.specs.laws.Floors.{committed-extends}

-- ---- tickets

tickets_above : (n : ℕ) (xs : List Live) → AllByRecursion (λ (x : Live). n < x.ticket) xs
    → AllByRecursion (λ (t : Ticket). n < t.0) (tickets_of xs)
tickets_above n [] all = tt
tickets_above n (x ∷ xs) all = (all.0, tickets_above n xs all.1)

tickets_rise : (xs : List Live) → IsRising (λ (x : Live). x.ticket) xs → IsRising (λ (t : Ticket). t.0) (tickets_of xs)
tickets_rise [] rising = tt
tickets_rise (x ∷ xs) rising = (tickets_above x.ticket xs rising.0, tickets_rise xs rising.1)

pub free_one : (xs : List Live) → IsRising (λ (x : Live). x.ticket) xs
    → has_ticket (free_ticket (tickets_of xs)) (tickets_of xs) ≡ false
free_one xs rising = free_ticket-free (tickets_of xs) (tickets_rise xs rising)

-- none that lives has a ticket that is free
others : (ticket : ℕ) (xs : List Live) → has_ticket ticket (tickets_of xs) ≡ false
    → AllByRecursion (λ (x : Live). x.ticket ≢ ticket) xs
others ticket [] free = tt
others ticket (x ∷ xs) free = by_test (x.ticket == ticket) refl free (others ticket xs)
  where
    by_test : (b : Bool) → (x.ticket == ticket) ≡ b → (b || has_ticket ticket (tickets_of xs)) ≡ false
        → (has_ticket ticket (tickets_of xs) ≡ false → AllByRecursion (λ (y : Live). y.ticket ≢ ticket) xs)
        → AllByRecursion (λ (y : Live). y.ticket ≢ ticket) (x ∷ xs)
    by_test true is free later = absurd (false≢true (sym free))
    by_test false is free later = ((λ same. absurd (grind (arith, nat_tests, is, same))), later free)

fewer : (p : Live → Bool) (xs : List Live) → length (filter p xs) ≤ length xs
fewer p [] = omega arith
fewer p (x ∷ xs) = let later = fewer p xs in elim (p x) as (λ b. length (cond b (x ∷ filter p xs) (filter p xs)) ≤ length (x ∷ xs)) [
  | true ↦ omega (arith, later)
  | false ↦ omega (arith, later)
]

up_to : (m n : ℕ) → m ≤ n → (xs : List Live) → AllByRecursion (λ (x : Live). x.number ≤ m) xs
    → AllByRecursion (λ (x : Live). x.number ≤ n) xs
up_to m n le [] all = tt
up_to m n le (x ∷ xs) all = ((let low = all.0 in omega (arith, le, low)), up_to m n le xs all.1)

-- ---- what a begin answers

module _ (l : Layout) (h : History) where
  by_limit : (b : Bool) (ticket number : ℕ) → (if b then leaving TooMany h l
      else leaving (Begun (free_ticket (tickets_of l.live)) (last_number h)) h
      (begun l (free_ticket (tickets_of l.live)) (last_number h))).answer ≡ Begun ticket number
      → (ticket ≡ free_ticket (tickets_of l.live)) × (number ≡ last_number h)
  by_limit true ticket number is = absurd cc
  by_limit false ticket number is = (cc, cc)

  pub begun_number : (ticket number : ℕ) → (begin_ruling l h).answer ≡ Begun ticket number → number ≡ last_number h
  begun_number ticket number is = (by_limit (nat_le max_live (length l.live)) ticket number is).1

module _ (l : Layout) (h : History) (w : IsLivedIn l h) where
  -- ---- a begin

  pub live-begun : nat_le max_live (length l.live) ≡ false
      → IsLivedIn (begun l (free_ticket (tickets_of l.live)) (last_number h)) h
  live-begun few =
      let one = length-put_by (λ (x : Live). x.ticket)
      (record { ticket = free_ticket (tickets_of l.live); number = last_number h; pin = pin_of l }) l.live in
      let room : length l.live < max_live = grind (arith, nat_tests, few) in
      record {
        rising =
            rising-put_by (λ (x : Live). x.ticket) _ l.live
            (others (free_ticket (tickets_of l.live)) l.live (free_one l.live w.rising)) w.rising;
        known =
            all-put_by (λ (x : Live). x.ticket) (λ (x : Live). x.number ≤ last_number h) _ l.live (omega arith) w.known;
        few = omega (arith, one, room);
      }

  pub begun_free : (ticket number : ℕ) → (begin_ruling l h).answer ≡ Begun ticket number
      → has_ticket ticket (tickets_of l.live) ≡ false
  begun_free ticket number is =
      subst (λ (n : ℕ). has_ticket n (tickets_of l.live) ≡ false)
      (sym (by_limit l h (nat_le max_live (length l.live)) ticket number is).0) (free_one l.live w.rising)

  -- ---- an end and a commit

  pub live-ended : (ticket : ℕ) → IsLivedIn (ended ticket l) h
  live-ended ticket =
      let less = fewer (λ (x : Live). not (x.ticket == ticket)) l.live in
      let few = w.few in
      record {
        rising = rising-filter (λ (x : Live). x.ticket) (λ (x : Live). not (x.ticket == ticket)) l.live w.rising;
        known =
            all-filter (λ (x : Live). x.ticket) (λ (x : Live). x.number ≤ last_number h)
            (λ (x : Live). not (x.ticket == ticket)) l.live w.known;
        few = omega (arith, less, few);
      }

-- behind a commit, whatever else the layout has
pub live-committed : (l x : Layout) (h : History) (writes : Writes) → x.live ≡ l.live → IsLivedIn l h
    → IsLivedIn x (with_commit h writes)
live-committed l x h writes same w = record {
  rising = subst (λ (xs : List Live). IsRising (λ (y : Live). y.ticket) xs) (sym same) w.rising;
  known =
      subst (λ (xs : List Live). AllByRecursion (λ (y : Live). y.number ≤ last_number (with_commit h writes)) xs)
      (sym same) (up_to (last_number h) (last_number (with_commit h writes))
      (last_number-extends h (with_commit h writes) (committed-extends l h writes)) l.live w.known);
  few = subst (λ (xs : List Live). length xs ≤ max_live) (sym same) w.few;
}

-- where the same lives
pub live-same : (l x : Layout) (h : History) → x.live ≡ l.live → IsLivedIn l h → IsLivedIn x h
live-same l x h same w = record {
  rising = subst (λ (xs : List Live). IsRising (λ (y : Live). y.ticket) xs) (sym same) w.rising;
  known = subst (λ (xs : List Live). AllByRecursion (λ (y : Live). y.number ≤ last_number h) xs) (sym same) w.known;
  few = subst (λ (xs : List Live). length xs ≤ max_live) (sym same) w.few;
}
