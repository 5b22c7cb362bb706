use Rattle.std.proofs.Common.{◌↔◌, length, map}
use Rattle.vl_seglog.specs.Reading.{moved_of}
use Rattle.vl_seglog.specs.Moves.{IsElsewhere}
use Rattle.vl_seglog.proofs.read.once.is_elsewhere.Given as goal

-- what is said of those that are left is said of all
abbrev pub invariant-loop-rest : goal.invariant-loop-rest
invariant-loop-rest l = IsElsewhere (moved_of l.moved) (map moved_of l.rest) ↔ IsElsewhere (moved_of l.moved) (map moved_of l.others)

abbrev pub decreases-loop-rest : goal.decreases-loop-rest
decreases-loop-rest l = length l.rest
