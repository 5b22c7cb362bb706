use Rattle.std.proofs.Common.{◌≡◌, ◌++◌, drop}
use Rattle.vl_stream.specs.Pieces.{record_format}
use Rattle.vl_seglog.specs.Commit.{records_bytes}
use Rattle.vl_stream.proofs.frames.write_records.Given as goal

-- the records that are still to be written stand behind what was written
abbrev pub invariant-loop-key : goal.invariant-loop-key
invariant-loop-key l =
    l.out.items ++ records_bytes record_format (drop l.key-index l.records)
    ≡ l.fn.out.items ++ records_bytes record_format l.records
