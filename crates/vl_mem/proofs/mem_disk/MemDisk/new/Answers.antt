use Rattle.std.proofs.Common.{vec_capacity}
use Rattle.vl_mem.proofs.Steps.{kept_at_first}
use Rattle.vl_mem.proofs.mem_disk.MemDisk.new.Goals as goal

pub invariant_of-result : goal.invariant_of-result
invariant_of-result c = record
    { kept = kept_at_first c.new-4.result c.new-5.result.items (vec_capacity c.new-5.result) c.new-4.ensures.empty c.new-5.ensures.items }
