use Rattle.std.proofs.Common.{refl, false}
use Rattle.vl_mem.proofs.Calls.{counted, syncs, syncs_again}
use Rattle.vl_mem.proofs.mem_disk.MemDiskDisk.sync.Goals as goal

pub returns-then-entry-clause-disk : goal.returns-then-entry-clause-disk
returns-then-entry-clause-disk c = syncs_again c.args.name c.args.self.now _ c.entry.result.now _ (c.requires _ refl)
    (counted _ _ _ false c.if-fails.false refl refl c.fails.ensures.follows c.fails.ensures.cause) (refl, λ q. refl) c.entry.ensures c.if-entry.true (λ q. refl)

pub returns-clause-disk : goal.returns-clause-disk
returns-clause-disk c = syncs c.args.name c.args.self.now _ _ (c.requires _ refl) _
    (counted _ _ _ false c.if-fails.false refl refl c.fails.ensures.follows c.fails.ensures.cause) c.settle.ensures.writers c.settle.ensures.goes
    c.settle.ensures.spare
