use Rattle.std.proofs.Common.{◌-◌, ◌≤◌, length}
use Rattle.vl_oracle.specs.LiveTickets.{free_from}
use Rattle.vl_oracle.proofs.ticket_list.free_ticket.Given as goal

abbrev pub invariant-loop-low : goal.invariant-loop-low
invariant-loop-low l =
    (l.low ≤ l.high) × (l.high ≤ length l.live) × (l.low ≤ free_from 0 l.live) × (free_from 0 l.live ≤ l.high)

abbrev pub decreases-loop-low : goal.decreases-loop-low
decreases-loop-low l = l.high - l.low
