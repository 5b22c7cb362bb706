use Rattle.std.proofs.Common.{◌≡◌, take}
use Rattle.vl_space.specs.Collecting.{lengths_in}
use Rattle.vl_space.proofs.collect.lengths_of.Given as goal

abbrev pub invariant-loop-log : goal.invariant-loop-log
invariant-loop-log g l = l.lengths.items ≡ lengths_in g.H.HeldFile.size (take l.log-index l.logs)
