use Rattle.std.proofs.Common.{◌≡◌, ◌+◌, ◌-◌, ◌≤◌, take}
use Rattle.vl_model.proofs.keys.long_order.Given as goal

abbrev pub invariant-loop-at : goal.invariant-loop-at
invariant-loop-at l = record { within : l.at ≤ l.last + 8; alike : take l.at l.a ≡ take l.at l.b }

abbrev pub decreases-loop-at : goal.decreases-loop-at
decreases-loop-at l = l.last + 8 - l.at
