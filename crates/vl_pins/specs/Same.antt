-- Two lists of what lives that have the same tickets.
use Rattle.std.specs.Prelude.{◌≡◌, ℕ, List, map}
use Rattle.vl_oracle.specs.LiveTickets.{LiveTickets, Ticket}

abbrev pub tickets_in : List Ticket → List ℕ
tickets_in ts = map (λ (t : Ticket). t.0) ts

-- What lives has the same tickets in both, whatever numbers stand beside them.
abbrev pub HaveSameTickets : LiveTickets → LiveTickets → Type 0
HaveSameTickets one other = tickets_in one.tickets ≡ tickets_in other.tickets
