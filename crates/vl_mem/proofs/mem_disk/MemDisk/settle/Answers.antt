use Rattle.std.proofs.Common.{refl, sym, ap, ◌∙◌, vec_capacity}
use Rattle.std.specs.Option.{option_copied_mut}
use Rattle.vl_disk.specs.DiskState.{synced_file}
use Rattle.vl_mem.specs.declared.event.Event.TheVariants.{Sync}
use Rattle.vl_mem.proofs.Steps.{kept_changed, same_spare}
use Rattle.vl_mem.proofs.mem_disk.MemDisk.settle.Goals as goal

pub invariant_of-self : goal.invariant_of-self
invariant_of-self c = record {
  kept = kept_changed c.args.name c.args.self.now.entries (c.get_mut.follows.lender c.sync.new.self)
      c.unwrap-entry.result.now c.sync.new.self
      (sym c.get_mut.ensures.value ∙ ap option_copied_mut c.unwrap-entry.ensures) (c.get_mut.follows.holds c.sync.new.self)
      c.args.self.now.events.items c.note.new.events.items (vec_capacity c.args.self.now.events)
      (vec_capacity c.note.new.events) c.args.self.now.kept c.note.ensures.capacity c.sync.ensures.becomes.fits
      (Sync c.args.name) synced_file refl (λ file. refl) c.note.ensures.items tt c.sync.ensures.becomes (c.requires.stands _ refl);
}

pub returns-clause-spare : goal.returns-clause-spare
returns-clause-spare c = same_spare c.args.name c.args.self.now.entries (c.get_mut.follows.lender c.sync.new.self)
    c.unwrap-entry.result.now c.sync.new.self
    (sym c.get_mut.ensures.value ∙ ap option_copied_mut c.unwrap-entry.ensures)
    (c.get_mut.follows.holds c.sync.new.self) c.sync.ensures.spare
