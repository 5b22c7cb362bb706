-- The tickets of live transactions and views, which rise.
use Rattle.std.specs.Prelude.{ℕ, ◌+◌, ◌==◌, Bool, if◌then◌else◌, List, [], ◌∷◌, map}
use Rattle.std.specs.List.{list_any}
use Rattle.vl_engine_model.specs.declared.live.Live.{Live}

-- a ticket, and the number at which what has it reads
abbrev pub Ticket : Type 0
Ticket = ℕ × ℕ

abbrev pub tickets_of : List Live → List Ticket
tickets_of live = map (λ (x : Live). (x.ticket, x.number)) live

abbrev pub has_ticket : ℕ → List Ticket → Bool
has_ticket ticket tickets = list_any (λ (t : Ticket). t.0 == ticket) tickets

-- of rising tickets, of which none is below this one, the least from it on that isn't among them
abbrev pub free_from : ℕ → List Ticket → ℕ
free_from ticket [] = ticket
free_from ticket (t ∷ ts) = if t.0 == ticket then free_from (ticket + 1) ts else ticket

-- the least ticket that nothing live has
abbrev pub free_ticket : List Ticket → ℕ
free_ticket tickets = free_from 0 tickets
