use Rattle.std.proofs.Common.{refl, false}
use Rattle.vl_mem.proofs.Calls.{counted, creates}
use Rattle.vl_mem.proofs.mem_disk.MemDiskDisk.create.Goals as goal

pub returns-clause-disk : goal.returns-clause-disk
returns-clause-disk c = creates c.args.name c.args.self.now _ _ _
    (counted _ _ _ false c.if-fails.false refl refl c.fails.ensures.follows c.fails.ensures.cause) c.make.ensures.writers c.make.ensures.goes c.make.ensures.spare
