use Rattle.std.proofs.Common.{refl}
use Rattle.vl_mem.proofs.Calls.{just_made_numbered, lends}
use Rattle.vl_mem.proofs.mem_disk.MemDiskDisk.lend.Goals as goal

pub new-requires : goal.new-requires
new-requires c = just_made_numbered c.args.name c.args.self.now (c.requires.just_made _ refl)

pub returns-clause-lends : goal.returns-clause-lends
returns-clause-lends c = lends c.args.name c.args.self.now _ _ _ c.if-fails.false refl refl c.fails.ensures.follows
    c.fails.ensures.cause c.give-failing.ensures.writers c.give-failing.ensures.none_left c.give-failing.ensures.goes c.give-failing.ensures.spare
