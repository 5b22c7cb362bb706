-- Two lists of what lives that have the same tickets give the same one to what begins, and keep the same ones.
use Rattle.std.proofs.Common.{◌≡◌, ℕ, suc, ◌+◌, ◌==◌, Bool, true, false, cond, not, List, [], ◌∷◌, length, refl, ap, sym, ◌∙◌}
use Rattle.std.specs.FinMap.{put}
use Rattle.std.specs.FinMap.Entries.{by_order}
use Rattle.std.specs.List.{filter}
use Rattle.std.specs.Ordering.{eq_by_cmp, nat_cmp}
use Rattle.std.specs.declared.cmp.Ordering.{Ordering}
use Rattle.std.specs.declared.cmp.Ordering.TheVariants.{Less, Equal, Greater}
use Rattle.vl_oracle.specs.LiveTickets.{LiveTickets, Ticket, begun, ended, free_from, free_ticket, without}
use Rattle.vl_pins.specs.Same.{HaveSameTickets, tickets_in}

-- the least number from this one on that isn't among rising ones
abbrev free_in : ℕ → List ℕ → ℕ
free_in low [] = low
free_in low (n ∷ ns) = cond (n == low) (free_in (low + 1) ns) low

abbrev put_in : ℕ → List ℕ → List ℕ
put_in ticket [] = ticket ∷ []
put_in ticket (n ∷ ns) = by_order (nat_cmp ticket n) (ticket ∷ n ∷ ns) (n ∷ ns) (n ∷ put_in ticket ns)

free_as : (low : ℕ) (ts : List Ticket) → free_from low ts ≡ free_in low (tickets_in ts)
free_as low [] = refl
free_as low (t ∷ ts) = ap (λ (m : ℕ). cond (t.0 == low) m low) (free_as (low + 1) ts)

put_as : (ticket number : ℕ) (ts : List Ticket) → tickets_in (put nat_cmp ticket number ts) ≡ put_in ticket (tickets_in ts)
put_as ticket number [] = refl
put_as ticket number (t ∷ ts) = by (nat_cmp ticket t.0) (put_as ticket number ts)
  where
    by : (r : Ordering) → tickets_in (put nat_cmp ticket number ts) ≡ put_in ticket (tickets_in ts)
        → tickets_in (by_order r ((ticket, number) ∷ t ∷ ts) ((t.0, number) ∷ ts) (t ∷ put nat_cmp ticket number ts))
        ≡ by_order r (ticket ∷ t.0 ∷ tickets_in ts) (t.0 ∷ tickets_in ts) (t.0 ∷ put_in ticket (tickets_in ts))
    by Less later = refl
    by Equal later = refl
    by Greater later = ap (λ (ns : List ℕ). t.0 ∷ ns) later

many : (ts : List Ticket) → length (tickets_in ts) ≡ length ts
many [] = refl
many (t ∷ ts) = ap suc (many ts)

without_as : (ticket : ℕ) (ts : List Ticket)
    → tickets_in (without ticket ts) ≡ filter (λ (n : ℕ). not (eq_by_cmp nat_cmp ticket n)) (tickets_in ts)
without_as ticket [] = refl
without_as ticket (t ∷ ts) = by (not (eq_by_cmp nat_cmp ticket t.0)) (without_as ticket ts)
  where
    by : (b : Bool) → tickets_in (without ticket ts) ≡ filter (λ (n : ℕ). not (eq_by_cmp nat_cmp ticket n)) (tickets_in ts)
        → tickets_in (cond b (t ∷ without ticket ts) (without ticket ts))
        ≡ cond b (t.0 ∷ filter (λ (n : ℕ). not (eq_by_cmp nat_cmp ticket n)) (tickets_in ts))
        (filter (λ (n : ℕ). not (eq_by_cmp nat_cmp ticket n)) (tickets_in ts))
    by true later = ap (λ (ns : List ℕ). t.0 ∷ ns) later
    by false later = later

module _ (one other : LiveTickets) (same : HaveSameTickets one other) where
  -- the same ticket is free
  pub same_free_ticket : free_ticket one ≡ free_ticket other
  same_free_ticket = free_as 0 one.tickets ∙ ap (free_in 0) same ∙ sym (free_as 0 other.tickets)

  -- as many live
  pub same_many : length one.tickets ≡ length other.tickets
  same_many = sym (many one.tickets) ∙ ap length same ∙ many other.tickets

  -- something begins in both
  pub same_begun : HaveSameTickets (begun one) (begun other)
  same_begun =
      put_as (free_ticket one) one.last one.tickets ∙ ap (put_in (free_ticket one)) same
      ∙ ap (λ (t : ℕ). put_in t (tickets_in other.tickets)) same_free_ticket
      ∙ sym (put_as (free_ticket other) other.last other.tickets)

  -- something ends in both
  pub same_ended : (ticket : ℕ) → HaveSameTickets (ended ticket one) (ended ticket other)
  same_ended ticket =
      without_as ticket one.tickets ∙ ap (filter (λ (n : ℕ). not (eq_by_cmp nat_cmp ticket n))) same
      ∙ sym (without_as ticket other.tickets)
