use Rattle.vl_table.specs.body.Footer.{points}
use Rattle.vl_table.specs.laws.ListLaws.{SoFar}
use Rattle.vl_table.proofs.body.points.take_points.Given as goal

abbrev pub invariant-loop : goal.invariant-loop
invariant-loop l = SoFar points l.bytes l.count l.counter l.list.items l.rest
