use Rattle.vl_table.specs.body.Index.{places}
use Rattle.vl_table.specs.laws.ListLaws.{SoFar}
use Rattle.vl_table.proofs.body.index.take_places.Given as goal

abbrev pub invariant-loop : goal.invariant-loop
invariant-loop l = SoFar places l.bytes l.count l.counter l.blocks.items l.rest
