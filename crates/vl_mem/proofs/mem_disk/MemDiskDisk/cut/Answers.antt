use Rattle.std.proofs.Common.{◌∙◌, ap, refl, length, true, false}
use Rattle.vl_disk.specs.DiskState.{File}
use Rattle.vl_mem.specs.MemDisk.{state_of}
use Rattle.vl_mem.proofs.Calls.{counted, cuts, fails_to_cut, shown}
use Rattle.vl_mem.proofs.mem_disk.MemDiskDisk.cut.Goals as goal

pub returns-then-fails-clause-disk : goal.returns-then-fails-clause-disk
returns-then-fails-clause-disk c = fails_to_cut c.args.name c.args.self.now _ _ (c.requires.stands _ refl) _ c.args.len
    c.len-whole.result (counted _ _ _ true c.if-fails.true refl refl c.fails.ensures.follows c.fails.ensures.cause)
    c.shorten.ensures.writers c.shorten.ensures.goes (c.requires.inside _ refl)
    (c.len-whole.ensures ∙ c.entry.result.now.bytes.ok.0
    ∙ ap (λ (f : File). length f.bytes)
    (shown c.args.name c.args.self.now.entries (state_of c.args.self.now) c.entry.result.now
    c.args.self.now.kept.files (c.requires.stands _ refl) c.entry.ensures))
    c.shorten.ensures.spare

pub returns-clause-disk : goal.returns-clause-disk
returns-clause-disk c = cuts c.args.name c.args.self.now _ _ (c.requires.stands _ refl) _ c.args.len
    (counted _ _ _ false c.if-fails.false refl refl c.fails.ensures.follows c.fails.ensures.cause)
    c.shorten-2.ensures.writers c.shorten-2.ensures.goes (c.requires.inside _ refl) c.shorten-2.ensures.spare
