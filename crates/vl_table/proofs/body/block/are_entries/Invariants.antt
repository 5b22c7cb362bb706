use Rattle.vl_table.proofs.StartSteps.{Finding}
use Rattle.vl_table.proofs.body.block.are_entries.Given as goal

abbrev pub invariant-loop-i : goal.invariant-loop-i
invariant-loop-i l = Finding l.tested l.format l.bytes l.count l.i l.starts l.last l.rest
