use Rattle.std.proofs.Common.{◌≤◌, ◌-◌, length, drop}
use Rattle.vl_memtable.proofs.RunLists.{Joins}
use Rattle.vl_memtable.proofs.runs.with.Given as goal

abbrev pub invariant-joining : goal.invariant-joining
invariant-joining l = record {
  place : l.joined ≤ length l.runs;
  joins : Joins l.fn.run l.front l.runs (drop l.joined l.runs);
}

abbrev pub decreases-joining : goal.decreases-joining
decreases-joining l = length l.runs - l.joined
