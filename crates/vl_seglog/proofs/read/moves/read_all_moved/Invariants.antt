use Rattle.vl_seglog.specs.Placed.{LiesMovedAt, moved_size}
use Rattle.vl_seglog.specs.Reading.{moved_of}
use Rattle.vl_seglog.specs.Relocation.{moves_spelling}
use Rattle.vl_seglog.proofs.Following.{ReadSoFar, moved_sized}
use Rattle.vl_seglog.proofs.read.moves.read_all_moved.Given as goal

abbrev pub invariant-loop : goal.invariant-loop
invariant-loop l =
    ReadSoFar (moves_spelling l.format) moved_of (LiesMovedAt l.format l.log) (moved_size l.format)
    (moved_sized l.format) l.first l.bytes l.counter l.records.items l.rest l.place
