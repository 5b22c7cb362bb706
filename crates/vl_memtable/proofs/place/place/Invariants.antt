use Rattle.std.proofs.Common.{◌≤◌, ◌-◌, length}
use Rattle.std.specs.List.{prefix_len}
use Rattle.vl_model.specs.Lookups.{is_ahead}
use Rattle.vl_memtable.proofs.place.place.Given as goal

-- the place lies between both ends
abbrev pub invariant-halving : goal.invariant-halving
invariant-halving l = record {
  low : l.low ≤ prefix_len (is_ahead l.sought.key.now l.sought.version) l.entries;
  high : prefix_len (is_ahead l.sought.key.now l.sought.version) l.entries ≤ l.high;
  within : l.high ≤ length l.entries;
}

abbrev pub decreases-halving : goal.decreases-halving
decreases-halving l = l.high - l.low
