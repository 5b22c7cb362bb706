use Rattle.std.proofs.Common.{refl, sym, ap, ◌∙◌, vec_capacity}
use Rattle.std.specs.Option.{option_copied_mut}
use Rattle.vl_mem.specs.declared.entry.Presence.TheVariants.{Lent}
use Rattle.vl_mem.proofs.Steps.{kept_gone}
use Rattle.vl_mem.proofs.mem_disk.MemDisk.give.Goals as goal

pub invariant_of-self : goal.invariant_of-self
invariant_of-self c = record {
  kept = kept_gone c.args.name c.args.self.now.entries (c.get_mut.follows.lender c.lend-failing.new.self)
      c.unwrap-entry.result.now c.lend-failing.new.self
      (sym c.get_mut.ensures.value ∙ ap option_copied_mut c.unwrap-entry.ensures) (c.get_mut.follows.holds c.lend-failing.new.self)
      c.args.self.now.events.items c.note.new.events.items (vec_capacity c.args.self.now.events)
      (vec_capacity c.note.new.events) c.args.self.now.kept c.note.ensures.capacity c.lend-failing.ensures.becomes.fits
      Lent (λ file. (refl, refl)) c.note.ensures.items c.lend-failing.ensures.becomes (c.requires.stands _ refl);
}
