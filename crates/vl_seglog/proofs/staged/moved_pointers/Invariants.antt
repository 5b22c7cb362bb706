use Rattle.vl_model.specs.Formats.{log_format}
use Rattle.std.proofs.Common.{drop}
use Rattle.vl_seglog.specs.Stored.{moved_pointers}
use Rattle.vl_seglog.proofs.Placing.{UnderWay, moves_lying}
use Rattle.vl_seglog.proofs.staged.moved_pointers.Given as goal

abbrev pub invariant-loop-moved : goal.invariant-loop-moved
invariant-loop-moved l = UnderWay (moves_lying log_format l.log) l.place l.pointers.items
    (moved_pointers log_format l.log l.fn.from l.records) (drop l.moved-index l.records)
