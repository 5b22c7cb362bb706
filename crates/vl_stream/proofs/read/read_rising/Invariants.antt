use Rattle.vl_stream.proofs.SeriesAbove.{SoFar}
use Rattle.vl_stream.proofs.read.read_rising.Given as goal

abbrev pub invariant-loop : goal.invariant-loop
invariant-loop l = SoFar l.last l.bytes l.counter l.batch.records.items l.rest l.before
