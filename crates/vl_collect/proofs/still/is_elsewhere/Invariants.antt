use Rattle.std.proofs.Common.{◌↔◌, length}
use Rattle.vl_seglog.specs.Moves.{IsElsewhere}
use Rattle.vl_collect.proofs.still.is_elsewhere.Given as goal

-- what is said of those that are left is said of all
abbrev pub invariant-loop-rest : goal.invariant-loop-rest
invariant-loop-rest l = IsElsewhere l.moved l.rest ↔ IsElsewhere l.moved l.others

abbrev pub decreases-loop-rest : goal.decreases-loop-rest
decreases-loop-rest l = length l.rest
