use Rattle.std.proofs.Common.{refl, sym, ap, ◌∙◌, vec_capacity}
use Rattle.std.specs.Option.{option_copied_mut}
use Rattle.vl_mem.specs.declared.entry.Presence.TheVariants.{Removed}
use Rattle.vl_mem.proofs.Steps.{kept_gone, same_spare, same_failing}
use Rattle.vl_mem.proofs.mem_disk.MemDisk.take_away.Goals as goal

pub invariant_of-self : goal.invariant_of-self
invariant_of-self c = record {
  kept = kept_gone c.args.name c.args.self.now.entries (c.get_mut.follows.lender c.remove.new.self)
      c.unwrap-entry.result.now c.remove.new.self
      (sym c.get_mut.ensures.value ∙ ap option_copied_mut c.unwrap-entry.ensures) (c.get_mut.follows.holds c.remove.new.self)
      c.args.self.now.events.items c.note.new.events.items (vec_capacity c.args.self.now.events)
      (vec_capacity c.note.new.events) c.args.self.now.kept c.note.ensures.capacity c.remove.ensures.becomes.fits
      Removed (λ file. (refl, refl)) c.note.ensures.items c.remove.ensures.becomes (c.requires _ refl);
}

pub returns-clause-spare : goal.returns-clause-spare
returns-clause-spare c = same_spare c.args.name c.args.self.now.entries (c.get_mut.follows.lender c.remove.new.self)
    c.unwrap-entry.result.now c.remove.new.self
    (sym c.get_mut.ensures.value ∙ ap option_copied_mut c.unwrap-entry.ensures)
    (c.get_mut.follows.holds c.remove.new.self) c.remove.ensures.spare

pub returns-clause-writers : goal.returns-clause-writers
returns-clause-writers c = (
  refl,
  same_failing c.args.name c.args.self.now.entries (c.get_mut.follows.lender c.remove.new.self) c.unwrap-entry.result.now c.remove.new.self
      (sym c.get_mut.ensures.value ∙ ap option_copied_mut c.unwrap-entry.ensures)
      (c.get_mut.follows.holds c.remove.new.self) c.remove.ensures.failing,
)
