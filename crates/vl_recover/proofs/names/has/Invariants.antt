use Rattle.std.proofs.Common.{drop}
use Rattle.std.specs.Prelude.{Contains}
use Rattle.vl_recover.proofs.names.has.Given as goal

-- if it is there, it is among those that are left
abbrev pub invariant-loop-other : goal.invariant-loop-other
invariant-loop-other l = Contains l.names l.name → Contains (drop l.other-index l.names) l.name
