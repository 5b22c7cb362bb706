use Rattle.std.proofs.Common.{◌≡◌, drop}
use Rattle.vl_compact.specs.Racing.{least_moved}
use Rattle.vl_compact.proofs.race.least_moved.Given as goal

abbrev pub invariant-loop-entry : goal.invariant-loop-entry
invariant-loop-entry l = least_moved l.moved l.keys ≡ least_moved l.moved (drop l.entry-index l.keys)
