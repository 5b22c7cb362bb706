use Rattle.std.proofs.Common.{List, All, refl, sym, subst}
use Rattle.vl_disk.specs.declared.name.Name.{Name}
use Rattle.vl_disk.specs.Disk.{Lists}
use Rattle.vl_disk.specs.Name.{IsNumbered}
use Rattle.vl_mem.specs.Event.{told_lawful}
use Rattle.vl_mem.specs.MemDisk.{state_of}
use Rattle.vl_mem.proofs.Calls.{some_state}
use Rattle.vl_mem.proofs.Listed.{lists, all_numbered}
use Rattle.vl_mem.proofs.mem_disk.MemDiskDisk.list.Goals as goal

pub returns-clause-names : goal.returns-clause-names
returns-clause-names c disk is =
    let m = c.args.self.now in
    subst (λ (names : List Name). Lists names disk) (sym c.in_ok-names_of.ensures.names)
    (subst (Lists _) (some_state (state_of m) disk is) (lists m.entries (state_of m) m.kept.files c.names_of.ensures.ordered))

pub returns-clause-numbered : goal.returns-clause-numbered
returns-clause-numbered c =
    let m = c.args.self.now in
    subst (All IsNumbered) (sym c.in_ok-names_of.ensures.names)
    (all_numbered m.entries (state_of m) m.kept.files c.names_of.ensures.ordered
    (told_lawful m.events.items m.kept.sound (state_of m) refl))
