use Rattle.std.proofs.Common.{refl, sym, ap, ◌∙◌, vec_capacity}
use Rattle.std.specs.Option.{option_copied_mut}
use Rattle.vl_disk.specs.DiskState.{lengthened}
use Rattle.vl_mem.specs.declared.event.Event.TheVariants.{Append}
use Rattle.vl_mem.proofs.Steps.{kept_changed, uses_append, same_failing}
use Rattle.vl_mem.proofs.mem_disk.MemDisk.hand.Goals as goal

pub append-kept-requires-clause-fits : goal.append-kept-requires-clause-fits
append-kept-requires-clause-fits c = c.args.self.now.kept.fits c.args.name c.unwrap-entry.result.now
    (sym c.get_mut.ensures.value ∙ ap option_copied_mut c.unwrap-entry.ensures)

pub invariant_of-self : goal.invariant_of-self
invariant_of-self c = record {
  kept = kept_changed c.args.name c.args.self.now.entries (c.get_mut.follows.lender c.append-kept.new.self)
      c.unwrap-entry.result.now c.append-kept.new.self
      (sym c.get_mut.ensures.value ∙ ap option_copied_mut c.unwrap-entry.ensures) (c.get_mut.follows.holds c.append-kept.new.self)
      c.args.self.now.events.items c.note.new.events.items (vec_capacity c.args.self.now.events)
      (vec_capacity c.note.new.events) c.args.self.now.kept c.note.ensures.capacity c.append-kept.ensures.becomes.fits
      (Append c.args.name c.append-kept.result c.args.taken) (lengthened c.append-kept.result.items c.args.taken) refl (λ file. refl)
      c.note.ensures.items tt c.append-kept.ensures.becomes (c.requires.stands _ refl);
}

pub returns-clause-spare : goal.returns-clause-spare
returns-clause-spare c = uses_append c.args.name c.args.self.now.entries
    (c.get_mut.follows.lender c.append-kept.new.self) c.unwrap-entry.result.now c.append-kept.new.self
    (sym c.get_mut.ensures.value ∙ ap option_copied_mut c.unwrap-entry.ensures)
    (c.get_mut.follows.holds c.append-kept.new.self) c.append-kept.ensures.change c.append-kept.ensures.hold c.append-kept.ensures.lend

pub returns-clause-writers : goal.returns-clause-writers
returns-clause-writers c = (
  refl,
  same_failing c.args.name c.args.self.now.entries (c.get_mut.follows.lender c.append-kept.new.self)
      c.unwrap-entry.result.now c.append-kept.new.self
      (sym c.get_mut.ensures.value ∙ ap option_copied_mut c.unwrap-entry.ensures)
      (c.get_mut.follows.holds c.append-kept.new.self) c.append-kept.ensures.failing,
)
