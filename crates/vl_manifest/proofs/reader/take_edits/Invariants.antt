use Rattle.vl_manifest.proofs.Taking.{SoFar}
use Rattle.vl_manifest.proofs.reader.take_edits.Given as goal

abbrev pub invariant-loop : goal.invariant-loop
invariant-loop l = SoFar l.format l.bytes l.counter l.edits.items l.rest
