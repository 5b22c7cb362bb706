-- The live transactions and views, which tickets are free, and the floor.
use Rattle.std.specs.Prelude.{◌≡◌, ◌≤◌, ◌==◌, ◌+◌, ℕ, Bool, true, not, min, if◌then◌else◌, List, [], ◌∷◌, Option}
use Rattle.std.specs.Prelude.{Some, None, unwrap_or, IsTrue, nat_lt}
use Rattle.std.specs.Option.{option_map}
use Rattle.std.specs.List.{AllByRecursion, filter, list_any}
use Rattle.std.specs.FinMap.{put, is_sorted}
use Rattle.std.specs.Ordering.{nat_cmp, eq_by_cmp}

-- a live transaction or view: its ticket, and the number at which it reads
abbrev pub Ticket : Type 0
Ticket = ℕ × ℕ

-- the number of the last commit, and what is live, in rising order of tickets
pub record LiveTickets : Type 0 where
  pub last : ℕ
  pub tickets : List Ticket

-- of rising tickets, of which none is below this one, the least that isn't among them from this one on
abbrev pub free_from : ℕ → List Ticket → ℕ
free_from ticket [] = ticket
free_from ticket (live ∷ others) = if live.0 == ticket then free_from (ticket + 1) others else ticket

-- the least ticket that none has
abbrev pub free_ticket : LiveTickets → ℕ
free_ticket live = free_from 0 live.tickets

-- one more, with the free ticket and at the last number
abbrev pub begun : LiveTickets → LiveTickets
begun live = record live { tickets = put nat_cmp (free_ticket live) live.last live.tickets }

abbrev pub without : ℕ → List Ticket → List Ticket
without ticket tickets = filter (λ (other : Ticket). not (eq_by_cmp nat_cmp ticket other.0)) tickets

-- without the one that has the ticket
abbrev pub ended : ℕ → LiveTickets → LiveTickets
ended ticket live = record live { tickets = without ticket live.tickets }

abbrev pub is_below : ℕ → Ticket → Bool
is_below ticket live = nat_lt live.0 ticket

abbrev pub advanced : ℕ → LiveTickets → LiveTickets
advanced last live = record live { last = last }

-- the least number at which one reads
abbrev pub least_number : List Ticket → Option ℕ
least_number [] = None
least_number (live ∷ others) = Some (unwrap_or (option_map (min live.1) (least_number others)) live.1)

-- the least number at which one reads, and the last one where none does
abbrev pub floor_of : LiveTickets → ℕ
floor_of live = unwrap_or (least_number live.tickets) live.last

-- tickets rise, and none reads at a number above the last
pub record AreLive (live : LiveTickets) : Type 0 where
  pub rising : IsTrue (is_sorted nat_cmp live.tickets)
  pub read_below : AllByRecursion (λ other. other.1 ≤ live.last) live.tickets

-- whether one that is live reads at the number
abbrev pub is_read_at : ℕ → List Ticket → Bool
is_read_at number tickets = list_any (λ other. other.1 == number) tickets

-- one reads at the number, or where none is live it is the last
abbrev pub IsAttained : ℕ → ℕ → List Ticket → Type 0
IsAttained number last [] = number ≡ last
IsAttained number last (live ∷ others) = is_read_at number (live ∷ others) ≡ true
