-- What lives, as the oracle has it and as the layout has it: tickets, the floor, and what begins and ends.
use Rattle.std.specs.Prelude.{◌≡◌, ◌≤◌, ℕ, ◌+◌, ◌==◌, min, Bool, true, false, not, nat_lt, List, [], ◌∷◌, Option}
use Rattle.std.specs.Prelude.{None, Some, unwrap_or, refl}
use Rattle.std.specs.Cmp.{nat_cmp_total, unsigned_tied}
use Rattle.std.specs.FinMap.{find, put}
use Rattle.std.specs.FinMap.Entries.{by_order, find-put, find-where_key}
use Rattle.std.specs.List.{AllByRecursion, filter}
use Rattle.std.specs.Option.{option_map}
use Rattle.std.specs.Ordering.{eq_by_cmp, nat_cmp}
use Rattle.std.specs.declared.cmp.Ordering.{Ordering}
use Rattle.std.specs.declared.cmp.Ordering.TheVariants.{Less, Equal, Greater}
use Rattle.std.proofs.Common.{sym, ap, ◌∙◌, cond, arith}
use Rattle.std.proofs.lemmas.Bool.Decides.{nat_tests}
use Rattle.vl_engine_laws.specs.Represents.{IsLive}
use Rattle.vl_engine_model.specs.Rising.{put_by}
use Rattle.vl_engine_model.specs.Ruling.{ended, pin_of}
use Rattle.vl_engine_model.specs.Rulings.Begin.{begun}
use Rattle.vl_engine_model.specs.Sources.{floor, least_number}
use Rattle.vl_engine_model.specs.Tickets as tickets
use Rattle.vl_engine_model.specs.Tickets.{has_ticket, tickets_of}
use Rattle.vl_engine_model.specs.declared.layout.Layout.{Layout}
use Rattle.vl_engine_model.specs.declared.live.Live.{Live}
use Rattle.vl_engine_model.specs.declared.live.Pin.{Pin}
use Rattle.vl_engine_model.specs.laws.RisingLaws.{map-filter}
use Rattle.vl_engine_model_laws.specs.Live.{IsLivedIn}
use Rattle.vl_engine_model_laws.specs.laws.Files.{or_false}
use Rattle.vl_engine_model_laws.specs.laws.Lives.{free_one}
use Rattle.vl_model.specs.History.{History, last_number}
use Rattle.vl_oracle.specs.LiveTickets as oracle
use Rattle.vl_oracle.specs.LiveTickets.{LiveTickets, Ticket, floor_of}

-- ---- tickets

-- both give the same free ticket
pub same_free_ticket : (ts : List Ticket) → oracle.free_from 0 ts ≡ tickets.free_ticket ts
same_free_ticket ts = from 0 ts
  where
    from : (n : ℕ) (us : List Ticket) → oracle.free_from n us ≡ tickets.free_from n us
    from n [] = refl
    from n (u ∷ us) = ap (λ (m : ℕ). cond (u.0 == n) m n) (from (n + 1) us)

module _ (ticket number : ℕ) (pin : Pin) where
  abbrev new : Live
  new = record { ticket = ticket; number = number; pin = pin }

  -- where it is put before one that lives, by their order
  abbrev put_so : Live → List Ticket → Ordering → List Ticket
  put_so x ts order = by_order order ((ticket, number) ∷ (x.ticket, x.number) ∷ ts) ((x.ticket, number) ∷ ts)
      ((x.ticket, x.number) ∷ put nat_cmp ticket number ts)

  -- one that begins stands at the same place
  pub tickets-begun : (xs : List Live) → has_ticket ticket (tickets_of xs) ≡ false
      → tickets_of (put_by (λ (x : Live). x.ticket) (record { ticket = ticket; number = number; pin = pin }) xs)
      ≡ put nat_cmp ticket number (tickets_of xs)
  tickets-begun [] free = refl
  tickets-begun (x ∷ xs) free =
      let parts = or_false (x.ticket == ticket) (has_ticket ticket (tickets_of xs)) free in
      by (nat_lt x.ticket ticket) refl parts.0 (tickets-begun xs parts.1)
    where
      by : (b : Bool) → nat_lt x.ticket ticket ≡ b → (x.ticket == ticket) ≡ false
          → tickets_of (put_by (λ (y : Live). y.ticket) new xs) ≡ put nat_cmp ticket number (tickets_of xs)
          → tickets_of (cond b (x ∷ put_by (λ (y : Live). y.ticket) new xs) (new ∷ x ∷ xs))
          ≡ put nat_cmp ticket number ((x.ticket, x.number) ∷ tickets_of xs)
      by true is other later =
          let order : nat_cmp ticket x.ticket ≡ Greater = grind (arith, nat_tests, is) in
          ap (λ (ts : List Ticket). (x.ticket, x.number) ∷ ts) later ∙ sym (ap (put_so x (tickets_of xs)) order)
      by false is other later =
          let order : nat_cmp ticket x.ticket ≡ Less = grind (arith, nat_tests, is, other) in
          sym (ap (put_so x (tickets_of xs)) order)

-- and one that ends goes
pub tickets-ended : (ticket : ℕ) (xs : List Live)
    → tickets_of (filter (λ (x : Live). not (x.ticket == ticket)) xs)
    ≡ filter (λ (t : Ticket). not (eq_by_cmp nat_cmp ticket t.0)) (tickets_of xs)
tickets-ended ticket xs =
    map-filter (λ (x : Live). (x.ticket, x.number)) (λ (x : Live). not (x.ticket == ticket))
    (λ (t : Ticket). not (eq_by_cmp nat_cmp ticket t.0))
    (λ x. ap not (unsigned_tied ticket x.ticket ∙ turned ticket x.ticket)) xs
  where
    turned : (m n : ℕ) → (m == n) ≡ (n == m)
    turned m n = grind (arith, nat_tests)

-- ---- the floor

least_same : (last : ℕ) (x : Live) (xs : List Live) → AllByRecursion (λ (y : Live). y.number ≤ last) (x ∷ xs)
    → oracle.least_number (tickets_of (x ∷ xs)) ≡ Some (least_number last (x ∷ xs))
least_same last x [] known = ap Some (let below = known.0 in lesser x.number last below)
  where
    lesser : (m n : ℕ) → m ≤ n → m ≡ min m n
    lesser m n le = omega (arith, le)
least_same last x (y ∷ ys) known =
    ap (λ (o : Option ℕ). Some (unwrap_or (option_map (min x.number) o) x.number)) (least_same last y ys known.1)

-- The oracle's floor is the layout's.
pub same_floor : (live : LiveTickets) (l : Layout) (h : History) → live.last ≡ last_number h
    → live.tickets ≡ tickets_of l.live → IsLivedIn l h → floor_of live ≡ floor l h
same_floor live l h last are lived =
    ap (λ (ts : List Ticket). unwrap_or (oracle.least_number ts) live.last) are
    ∙ ap (λ (n : ℕ). unwrap_or (oracle.least_number (tickets_of l.live)) n) last
    ∙ by l.live lived.known
  where
    by : (xs : List Live) → AllByRecursion (λ (y : Live). y.number ≤ last_number h) xs
        → unwrap_or (oracle.least_number (tickets_of xs)) (last_number h) ≡ least_number (last_number h) xs
    by [] known = refl
    by (x ∷ xs) known = ap (λ (o : Option ℕ). unwrap_or o (last_number h)) (least_same (last_number h) x xs known)

-- What is live doesn't read below the floor.
pub floor_below : (l : Layout) (h : History) (ticket number : ℕ) → find nat_cmp ticket (tickets_of l.live) ≡ Some number
    → floor l h ≤ number
floor_below l h ticket number is = by l.live is
  where
    same : (a b : ℕ) → Some a ≡ Some b → a ≡ b
    same a b e = cc

    by : (xs : List Live) → find nat_cmp ticket (tickets_of xs) ≡ Some number → least_number (last_number h) xs ≤ number
    by [] none = absurd cc
    by (x ∷ xs) found = at (eq_by_cmp nat_cmp ticket x.ticket) found (by xs)
      where
        at : (b : Bool) → cond b (Some x.number) (find nat_cmp ticket (tickets_of xs)) ≡ Some number
            → (find nat_cmp ticket (tickets_of xs) ≡ Some number → least_number (last_number h) xs ≤ number)
            → min x.number (least_number (last_number h) xs) ≤ number
        at true here later = let e = same x.number number here in omega (arith, e)
        at false here later = let rest = later here in omega (arith, rest)

-- ---- what begins and ends

module _ (live : LiveTickets) (l : Layout) (h : History) (are : live.tickets ≡ tickets_of l.live) where
  -- where something begins,
  pub live_begun : live.last ≡ last_number h → IsLivedIn l h
      → (oracle.begun live).tickets ≡ tickets_of (begun l (tickets.free_ticket (tickets_of l.live)) (last_number h)).live
  live_begun last lived =
      let ticket = tickets.free_ticket (tickets_of l.live) in
      ap (λ (ts : List Ticket). put nat_cmp (oracle.free_from 0 ts) live.last ts) are
      ∙ ap (λ (n : ℕ). put nat_cmp (oracle.free_from 0 (tickets_of l.live)) n (tickets_of l.live)) last
      ∙ ap (λ (n : ℕ). put nat_cmp n (last_number h) (tickets_of l.live)) (same_free_ticket (tickets_of l.live))
      ∙ sym (tickets-begun ticket (last_number h) (pin_of l) l.live (free_one l.live lived.rising))

  -- and where it ends
  pub live_ended : (ticket : ℕ) → (oracle.ended ticket live).tickets ≡ tickets_of (ended ticket l).live
  live_ended ticket =
      ap (filter (λ (t : Ticket). not (eq_by_cmp nat_cmp ticket t.0))) are ∙ sym (tickets-ended ticket l.live)

-- ---- what lives on

not_found : (ticket : ℕ) (ts : List Ticket) → has_ticket ticket ts ≡ false → find nat_cmp ticket ts ≡ None
not_found ticket [] none = refl
not_found ticket (t ∷ ts) none =
    let parts = or_false (t.0 == ticket) (has_ticket ticket ts) none in
    let other : eq_by_cmp nat_cmp ticket t.0 ≡ false = unsigned_tied ticket t.0 ∙ turned_false parts.0 in
    ap (λ (b : Bool). cond b (Some t.1) (find nat_cmp ticket ts)) other ∙ not_found ticket ts parts.1
  where
    turned_false : (t.0 == ticket) ≡ false → (ticket == t.0) ≡ false
    turned_false apart = grind (arith, nat_tests, apart)

module _ (l : Layout) (h : History) (lived : IsLivedIn l h) where
  abbrev new_ticket : ℕ
  new_ticket = tickets.free_ticket (tickets_of l.live)

  live_then : tickets_of (begun l new_ticket (last_number h)).live ≡ put nat_cmp new_ticket (last_number h) (tickets_of l.live)
  live_then = tickets-begun new_ticket (last_number h) (pin_of l) l.live (free_one l.live lived.rising)

  -- The ticket that a begin gives was none's,
  pub begun_was_free : (number : ℕ) → IsLive l (tickets.free_ticket (tickets_of l.live)) number → ⊥
  begun_was_free number is = some_none number (sym is ∙ not_found new_ticket (tickets_of l.live) (free_one l.live lived.rising))
    where
      some_none : (n : ℕ) → Some n ≡ None → ⊥
      some_none n e = cc

  -- and what has it reads at the last number.
  pub begun_lives : IsLive (begun l (tickets.free_ticket (tickets_of l.live)) (last_number h))
      (tickets.free_ticket (tickets_of l.live)) (last_number h)
  begun_lives =
      let here : eq_by_cmp nat_cmp new_ticket new_ticket ≡ true = itself new_ticket in
      ap (find nat_cmp new_ticket) live_then
      ∙ find-put nat_cmp nat_cmp_total new_ticket new_ticket (last_number h) (tickets_of l.live)
      ∙ ap (λ (b : Bool). cond b (Some (last_number h)) (find nat_cmp new_ticket (tickets_of l.live))) here
    where
      itself : (n : ℕ) → eq_by_cmp nat_cmp n n ≡ true
      itself n = grind (arith, nat_tests)

  -- What lives lives on where something begins,
  pub lives_begun : (ticket number : ℕ) → IsLive l ticket number
      → IsLive (begun l (tickets.free_ticket (tickets_of l.live)) (last_number h)) ticket number
  lives_begun ticket number is = by (eq_by_cmp nat_cmp ticket new_ticket) refl
    where
      same_ticket : eq_by_cmp nat_cmp ticket new_ticket ≡ true → ticket ≡ new_ticket
      same_ticket tied = grind (arith, nat_tests, tied)

      by : (b : Bool) → eq_by_cmp nat_cmp ticket new_ticket ≡ b
          → find nat_cmp ticket (tickets_of (begun l new_ticket (last_number h)).live) ≡ Some number
      by true tied = absurd (begun_was_free number
          (ap (λ (t : ℕ). find nat_cmp t (tickets_of l.live)) (sym (same_ticket tied)) ∙ is))
      by false other =
          ap (find nat_cmp ticket) live_then
          ∙ find-put nat_cmp nat_cmp_total ticket new_ticket (last_number h) (tickets_of l.live)
          ∙ ap (λ (b : Bool). cond b (Some (last_number h)) (find nat_cmp ticket (tickets_of l.live))) other
          ∙ is

-- and where another thing ends, also by its commit.
pub lives_ended : (l : Layout) (other ticket number : ℕ) → (ticket ≡ other → ⊥) → IsLive l ticket number
    → IsLive (ended other l) ticket number
lives_ended l other ticket number apart is =
    ap (find nat_cmp ticket) (tickets-ended other l.live)
    ∙ find-where_key nat_cmp (λ (t : ℕ). not (eq_by_cmp nat_cmp other t)) ticket (λ t tied. alike t tied) (tickets_of l.live)
    ∙ ap (λ (b : Bool). cond (not b) (find nat_cmp ticket (tickets_of l.live)) None) away
    ∙ is
  where
    away : eq_by_cmp nat_cmp other ticket ≡ false
    away = grind (arith, nat_tests, apart)

    alike : (t : ℕ) → nat_cmp ticket t ≡ Equal → not (eq_by_cmp nat_cmp other t) ≡ not (eq_by_cmp nat_cmp other ticket)
    alike t tied =
        let same : t ≡ ticket = grind (arith, nat_tests, tied) in
        ap (λ (n : ℕ). not (eq_by_cmp nat_cmp other n)) same
