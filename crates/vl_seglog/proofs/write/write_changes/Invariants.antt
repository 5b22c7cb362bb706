use Rattle.std.proofs.Common.{◌≡◌, ◌++◌, drop}
use Rattle.vl_model.specs.Formats.{log_format}
use Rattle.vl_seglog.specs.Commit.{records_bytes}
use Rattle.vl_seglog.proofs.write.write_changes.Given as goal

-- the records that are still to be written stand behind what was written
abbrev pub invariant-loop-key : goal.invariant-loop-key
invariant-loop-key l =
    l.out.items ++ records_bytes log_format (drop l.key-index l.writes) ≡ l.fn.out.items ++ records_bytes log_format l.writes
