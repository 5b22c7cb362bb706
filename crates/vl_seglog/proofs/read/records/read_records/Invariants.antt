use Rattle.vl_seglog.specs.Commit.{records_spelling}
use Rattle.vl_seglog.specs.Placed.{LiesAt, record_size}
use Rattle.vl_seglog.specs.Reading.{write_of}
use Rattle.vl_seglog.proofs.Following.{ReadSoFar, write_sized}
use Rattle.vl_seglog.proofs.read.records.read_records.Given as goal

abbrev pub invariant-loop : goal.invariant-loop
invariant-loop l =
    ReadSoFar (records_spelling l.format) write_of (LiesAt l.format l.log l.number) (record_size l.format)
    (write_sized l.format) l.first l.bytes l.counter l.records.items l.rest l.place
