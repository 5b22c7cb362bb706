use Rattle.std.specs.List.{AllByRecursion}
use Rattle.std.proofs.Common.{◌≡◌, ◌≤◌, ◌+◌, ◌-◌, length}
use Rattle.vl_table.specs.Kept.{Files, IsKept}
use Rattle.vl_table.proofs.block_reader.BlockReader.new.Given as goal

abbrev pub invariant-loop : goal.invariant-loop
invariant-loop g l = record {
  kept : (files : Files) → AllByRecursion (IsKept files) l.others.items;
  slots : length l.others.items + 1 ≡ l.counter;
  within : length l.others.items ≤ l.blocks - 1;
}
