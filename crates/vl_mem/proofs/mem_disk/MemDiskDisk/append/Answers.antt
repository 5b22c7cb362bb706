use Rattle.std.proofs.Common.{refl, true, false}
use Rattle.vl_mem.proofs.Calls.{counted, appends, fails_to_append}
use Rattle.vl_mem.proofs.mem_disk.MemDiskDisk.append.Goals as goal

pub returns-then-fails-clause-disk : goal.returns-then-fails-clause-disk
returns-then-fails-clause-disk c = fails_to_append c.args.name c.args.self.now _ _ (c.requires.stands _ refl) _
    c.args.piece.now (counted _ _ _ true c.if-fails.true refl refl c.fails.ensures.follows c.fails.ensures.cause)
    c.hand.ensures.writers c.hand.ensures.goes c.hand.ensures.spare

pub returns-clause-disk : goal.returns-clause-disk
returns-clause-disk c = appends c.args.name c.args.self.now _ _ (c.requires.stands _ refl) _ c.args.piece.now _ refl
    (counted _ _ _ false c.if-fails.false refl refl c.fails.ensures.follows c.fails.ensures.cause) c.hand-2.ensures.writers c.hand-2.ensures.goes
    c.hand-2.ensures.spare
