use Rattle.std.proofs.Common.{◌≤◌, sym, ap, ◌∙◌, refl, arith, vec_capacity}
use Rattle.std.specs.Option.{option_copied_mut}
use Rattle.vl_mem.specs.declared.entry.Entry.{Entry}
use Rattle.vl_mem.specs.Entry.{KeepsFile, slots}
use Rattle.vl_mem.proofs.Steps.{kept_still, no_more, uses_hold}
use Rattle.vl_mem.proofs.mem_disk.MemDisk.share.Goals as goal

keeps_then : (a b c : Entry) → KeepsFile a b → KeepsFile b c → KeepsFile a c
keeps_then a b c first second = record
    { presence = second.presence ∙ first.presence; file = second.file ∙ first.file; fits = λ fits. second.fits (first.fits fits) }

pub invariant_of-self : goal.invariant_of-self
invariant_of-self c = record {
  kept = kept_still c.args.name c.args.self.now.entries (c.get_mut.follows.lender c.make_hold_room.new.self)
      c.unwrap-entry.result.now c.make_hold_room.new.self
      (sym c.get_mut.ensures.value ∙ ap option_copied_mut c.unwrap-entry.ensures) (c.get_mut.follows.holds c.make_hold_room.new.self)
      c.args.self.now.events.items c.args.self.now.events.items (vec_capacity c.args.self.now.events)
      (vec_capacity c.args.self.now.events) c.args.self.now.kept (omega arith) c.make_hold_room.ensures.keeps.fits refl
      (no_more c.args.name c.args.self.now.entries (c.get_mut.follows.lender c.make_hold_room.new.self)
      c.unwrap-entry.result.now c.make_hold_room.new.self
      (sym c.get_mut.ensures.value ∙ ap option_copied_mut c.unwrap-entry.ensures)
      (c.get_mut.follows.holds c.make_hold_room.new.self) c.args.self.now.events.items
      (vec_capacity c.args.self.now.events) c.args.self.now.kept c.make_hold_room.ensures.slots)
      c.make_hold_room.ensures.keeps;
}

pub share-requires-clause-fits : goal.share-requires-clause-fits
share-requires-clause-fits c = c.make_hold_room.ensures.keeps.fits
    (c.args.self.now.kept.fits c.args.name c.unwrap-entry.result.now
    (sym c.get_mut.ensures.value ∙ ap option_copied_mut c.unwrap-entry.ensures))

pub invariant_of-self-2 : goal.invariant_of-self-2
invariant_of-self-2 c =
    let keeps = keeps_then _ _ _ c.make_hold_room.ensures.keeps c.share.ensures.keeps in
    let fewer : slots c.share.new.self ≤ slots c.unwrap-entry.result.now = omega
    (arith, c.make_hold_room.ensures.slots, c.share.ensures.slots) in
    record {
      kept = kept_still c.args.name c.args.self.now.entries (c.get_mut.follows.lender c.share.new.self)
          c.unwrap-entry.result.now c.share.new.self
          (sym c.get_mut.ensures.value ∙ ap option_copied_mut c.unwrap-entry.ensures) (c.get_mut.follows.holds c.share.new.self)
          c.args.self.now.events.items c.args.self.now.events.items (vec_capacity c.args.self.now.events)
          (vec_capacity c.args.self.now.events) c.args.self.now.kept (omega arith) keeps.fits refl
          (no_more c.args.name c.args.self.now.entries (c.get_mut.follows.lender c.share.new.self)
          c.unwrap-entry.result.now c.share.new.self
          (sym c.get_mut.ensures.value ∙ ap option_copied_mut c.unwrap-entry.ensures)
          (c.get_mut.follows.holds c.share.new.self) c.args.self.now.events.items
          (vec_capacity c.args.self.now.events) c.args.self.now.kept fewer)
          keeps;
    }

pub returns-clause-spare : goal.returns-clause-spare
returns-clause-spare c = uses_hold c.args.name c.args.self.now.entries (c.get_mut.follows.lender c.share.new.self)
    c.unwrap-entry.result.now c.share.new.self
    (sym c.get_mut.ensures.value ∙ ap option_copied_mut c.unwrap-entry.ensures) (c.get_mut.follows.holds c.share.new.self)
    (c.share.ensures.change ∙ c.make_hold_room.ensures.change)
    (c.share.ensures.buffer ∙ c.make_hold_room.ensures.buffer) (c.share.ensures.lend ∙ c.make_hold_room.ensures.lend)
