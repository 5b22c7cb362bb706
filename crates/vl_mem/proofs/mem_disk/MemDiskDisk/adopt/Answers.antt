use Rattle.vl_mem.specs.MemDisk.{file_by}
use Rattle.vl_mem.specs.Written.{file_written}
use Rattle.vl_mem.proofs.Calls.{adopts}
use Rattle.vl_mem.proofs.mem_disk.MemDiskDisk.adopt.Goals as goal

pub returns-clause-disk : goal.returns-clause-disk
returns-clause-disk c = adopts c.into_returned.result.name c.args.writer.name (file_by c.args.writer)
    (file_written c.into_returned.result.written) c.args.self.now _
    c.into_returned.ensures.name c.into_returned.ensures.file c.take_back.ensures.writers c.take_back.ensures.goes c.take_back.ensures.spare
