use Rattle.std.proofs.Common.{take}
use Rattle.vl_memtable.specs.Heads.{AreHeads}
use Rattle.vl_memtable.proofs.heads.heads_of.Given as goal

abbrev pub invariant-loop-entry : goal.invariant-loop-entry
invariant-loop-entry l = AreHeads l.heads.items (take l.entry-index l.entries)
