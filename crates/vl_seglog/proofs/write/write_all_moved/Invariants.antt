use Rattle.std.proofs.Common.{◌≡◌, ◌++◌, drop}
use Rattle.vl_model.specs.Formats.{log_format}
use Rattle.vl_seglog.specs.Relocation.{moves_bytes}
use Rattle.vl_seglog.proofs.write.write_all_moved.Given as goal

-- the records that are still to be written stand behind what was written
abbrev pub invariant-loop-moved : goal.invariant-loop-moved
invariant-loop-moved l =
    l.out.items ++ moves_bytes log_format (drop l.moved-index l.records) ≡ l.fn.out.items ++ moves_bytes log_format l.records
