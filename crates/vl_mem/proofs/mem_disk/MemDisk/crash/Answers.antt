use Rattle.std.proofs.Common.{refl}
use Rattle.vl_mem.specs.laws.CrashLaws.{crash_left}
use Rattle.vl_mem.specs.Event.{told_lawful}
use Rattle.vl_mem.specs.MemDisk.{state_of}
use Rattle.vl_mem.proofs.Leaving.{files_numbered}
use Rattle.vl_mem.proofs.mem_disk.MemDisk.crash.Goals as goal

pub returns-in_err-files-clause-left : goal.returns-in_err-files-clause-left
returns-in_err-files-clause-left c = crash_left c.args.outcome (state_of c.args.self)
    (told_lawful c.args.self.events.items c.args.self.kept.sound (state_of c.args.self) refl)

pub started-requires : goal.started-requires
started-requires c = files_numbered c.args.outcome (state_of c.args.self) c.in_ok-files.files.items
    (told_lawful c.args.self.events.items c.args.self.kept.sound (state_of c.args.self) refl)
    (c.in_ok-files.ensures (state_of c.args.self) c.args.self.kept.files)

pub returns-clause-left : goal.returns-clause-left
returns-clause-left c = crash_left c.args.outcome (state_of c.args.self)
    (told_lawful c.args.self.events.items c.args.self.kept.sound (state_of c.args.self) refl)
