use Rattle.vl_model.specs.Formats.{log_format}
use Rattle.std.proofs.Common.{drop}
use Rattle.vl_seglog.specs.Stored.{pointers_from}
use Rattle.vl_seglog.proofs.Placing.{UnderWay, records_lying}
use Rattle.vl_seglog.proofs.staged.record_pointers.Given as goal

abbrev pub invariant-loop-key : goal.invariant-loop-key
invariant-loop-key l = UnderWay (records_lying log_format l.log) l.place l.pointers.items
    (pointers_from log_format l.log l.fn.from l.writes) (drop l.key-index l.writes)
