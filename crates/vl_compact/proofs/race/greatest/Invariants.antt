use Rattle.std.proofs.Common.{◌≡◌, drop}
use Rattle.std.specs.Prelude.{max}
use Rattle.vl_compact.specs.Racing.{greatest}
use Rattle.vl_compact.proofs.race.greatest.Given as goal

abbrev pub invariant-loop-entry : goal.invariant-loop-entry
invariant-loop-entry l = greatest l.keys ≡ max l.most (greatest (drop l.entry-index l.keys))
