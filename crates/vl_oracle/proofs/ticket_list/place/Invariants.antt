use Rattle.std.proofs.Common.{◌-◌, ◌≤◌, length}
use Rattle.std.specs.List.{prefix_len}
use Rattle.vl_oracle.specs.LiveTickets.{is_below}
use Rattle.vl_oracle.proofs.ticket_list.place.Given as goal

abbrev pub invariant-loop-low : goal.invariant-loop-low
invariant-loop-low l =
    (l.low ≤ l.high) × (l.high ≤ length l.live)
    × (l.low ≤ prefix_len (is_below l.ticket) l.live) × (prefix_len (is_below l.ticket) l.live ≤ l.high)

abbrev pub decreases-loop-low : goal.decreases-loop-low
decreases-loop-low l = l.high - l.low
