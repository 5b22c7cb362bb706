use Rattle.std.proofs.Common.{◌≤◌, ◌+◌, ◌-◌, length}
use Rattle.vl_memtable.proofs.MergeSteps.{Merges}
use Rattle.vl_memtable.proofs.merged.merged.Given as goal

abbrev pub invariant-steps : goal.invariant-steps
invariant-steps l = record {
  new_place : l.i ≤ length l.newer;
  old_place : l.j ≤ length l.older;
  merges : Merges l.newer l.older l.both.items l.i l.j;
}

abbrev pub decreases-steps : goal.decreases-steps
decreases-steps l = (length l.newer - l.i) + (length l.older - l.j)
