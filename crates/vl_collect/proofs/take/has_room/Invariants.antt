use Rattle.std.proofs.Common.{◌≡◌, ◌+◌, take}
use Rattle.vl_collect.proofs.take.has_room.Given as goal
use Rattle.vl_collect.specs.Taking.{candidates}
use Rattle.vl_engine_model.specs.Relocation.{value_lengths}
use Rattle.vl_model.specs.Limits.{max_batch_bytes}

abbrev pub invariant-loop-found : goal.invariant-loop-found
invariant-loop-found l = l.left + l.more + value_lengths (candidates (take l.found-index l.batch)) ≡ max_batch_bytes
