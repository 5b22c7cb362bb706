use Rattle.std.proofs.Common.{sym, ap, ◌∙◌, vec_capacity}
use Rattle.std.specs.Option.{option_copied_mut}
use Rattle.vl_mem.proofs.Steps.{kept_created}
use Rattle.vl_mem.proofs.mem_disk.MemDisk.make.Goals as goal

pub invariant_of-self : goal.invariant_of-self
invariant_of-self c = record {
  kept = kept_created c.args.name c.args.self.now.entries (c.get_mut.follows.lender c.create.new.self)
      c.unwrap-entry.result.now c.create.new.self
      (sym c.get_mut.ensures.value ∙ ap option_copied_mut c.unwrap-entry.ensures) (c.get_mut.follows.holds c.create.new.self)
      c.args.self.now.events.items c.note.new.events.items (vec_capacity c.args.self.now.events)
      (vec_capacity c.note.new.events) c.args.self.now.kept c.note.ensures.capacity c.create.ensures.becomes.fits
      c.note.ensures.items c.requires.numbered c.create.ensures.becomes;
}
