use Rattle.std.proofs.Common.{refl, false}
use Rattle.vl_mem.proofs.Calls.{counted, removes}
use Rattle.vl_mem.proofs.mem_disk.MemDiskDisk.remove.Goals as goal

pub returns-clause-disk : goal.returns-clause-disk
returns-clause-disk c = removes c.args.name c.args.self.now _ _ _
    (counted _ _ _ false c.if-fails.false refl refl c.fails.ensures.follows c.fails.ensures.cause)
    c.take_away.ensures.writers c.take_away.ensures.goes c.take_away.ensures.spare
