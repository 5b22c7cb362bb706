use Rattle.std.proofs.Common.{◌≡◌, ℕ, List, Some}
use Rattle.vl_replay.proofs.stopped.pass_over.Given as goal

-- what is told of the source stays told, and it hasn't failed
abbrev pub invariant-loop : goal.invariant-loop
invariant-loop g l = record {
  told : (had : List ℕ) → g.S.Source.left l.fn.source ≡ Some had → (rest : List ℕ) × (g.S.Source.left l.source ≡ Some rest);
  steady : g.S.Source.faults l.source ≡ g.S.Source.faults l.fn.source;
}

abbrev pub decreases-loop : goal.decreases-loop
decreases-loop g l = g.S.Source.budget l.source
