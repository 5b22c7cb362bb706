use Rattle.std.proofs.Common.{refl, sym, ap, ◌∙◌, vec_capacity}
use Rattle.std.specs.Option.{option_copied_mut}
use Rattle.vl_disk.specs.DiskState.{shortened}
use Rattle.vl_mem.specs.declared.event.Event.TheVariants.{Cut}
use Rattle.vl_mem.proofs.Steps.{kept_changed}
use Rattle.vl_mem.proofs.mem_disk.MemDisk.shorten.Goals as goal

pub invariant_of-self : goal.invariant_of-self
invariant_of-self c = record {
  kept = kept_changed c.args.name c.args.self.now.entries (c.get_mut.follows.lender c.cut.new.self) c.unwrap-entry.result.now c.cut.new.self
      (sym c.get_mut.ensures.value ∙ ap option_copied_mut c.unwrap-entry.ensures) (c.get_mut.follows.holds c.cut.new.self)
      c.args.self.now.events.items c.note.new.events.items (vec_capacity c.args.self.now.events)
      (vec_capacity c.note.new.events) c.args.self.now.kept c.note.ensures.capacity c.cut.ensures.becomes.fits
      (Cut c.args.name c.args.len c.args.left) (shortened c.args.len c.args.left) refl (λ file. refl)
      c.note.ensures.items c.requires.short c.cut.ensures.becomes (c.requires.stands _ refl);
}
