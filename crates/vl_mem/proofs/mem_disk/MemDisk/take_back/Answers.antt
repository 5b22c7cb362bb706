use Rattle.std.proofs.Common.{refl, sym, ap, ◌∙◌, vec_capacity}
use Rattle.std.specs.Option.{option_copied_mut}
use Rattle.vl_mem.proofs.Steps.{kept_adopted, same_failing}
use Rattle.vl_mem.proofs.mem_disk.MemDisk.take_back.Goals as goal

pub invariant_of-self : goal.invariant_of-self
invariant_of-self c = record {
  kept = kept_adopted c.args.file.name c.args.self.now.entries (c.get_mut.follows.lender c.adopt.new.self)
      c.unwrap-entry.result.now c.adopt.new.self
      (sym c.get_mut.ensures.value ∙ ap option_copied_mut c.unwrap-entry.ensures) (c.get_mut.follows.holds c.adopt.new.self)
      c.args.self.now.events.items c.note.new.events.items (vec_capacity c.args.self.now.events)
      (vec_capacity c.note.new.events) c.args.self.now.kept c.note.ensures.capacity c.adopt.ensures.becomes.fits
      c.args.file.written c.note.ensures.items c.requires.ready.numbered c.requires.ready.lawful c.adopt.ensures.becomes;
}

pub returns-clause-writers : goal.returns-clause-writers
returns-clause-writers c = (
  refl,
  same_failing c.args.file.name c.args.self.now.entries (c.get_mut.follows.lender c.adopt.new.self)
      c.unwrap-entry.result.now c.adopt.new.self
      (sym c.get_mut.ensures.value ∙ ap option_copied_mut c.unwrap-entry.ensures)
      (c.get_mut.follows.holds c.adopt.new.self) c.adopt.ensures.failing,
)
