use Rattle.std.proofs.Common.{take}
use Rattle.vl_recover.specs.opening.Finding.{greatest_of}
use Rattle.vl_recover.specs.opening.Named.{AreGreatestIn}
use Rattle.vl_recover.proofs.names.greatest_numbers.Given as goal

abbrev pub invariant-loop-name : goal.invariant-loop-name
invariant-loop-name l = AreGreatestIn (take l.name-index l.names) (greatest_of l.greatest)
