use Rattle.std.proofs.Common.{sym, ap, ◌∙◌, length, arith, vec_capacity}
use Rattle.std.proofs.lemmas.Result.{on_err_weaker, on_ok_weaker}
use Rattle.std.specs.Option.{option_copied_mut}
use Rattle.vl_mem.specs.Entry.{failing_of}
use Rattle.vl_mem.proofs.Steps.{kept_still, most, same_spare, updated_there}
use Rattle.vl_mem.proofs.mem_disk.MemDiskDisk.ready.Goals as goal

pub invariant_of-self-2 : goal.invariant_of-self-2
invariant_of-self-2 c = record {
  kept = kept_still c.args.name c.know.new.self.entries (c.get_mut.follows.lender c.make_room-2.new.self)
      c.unwrap-entry.result.now c.make_room-2.new.self
      (sym c.get_mut.ensures.value ∙ ap option_copied_mut c.unwrap-entry.ensures) (c.get_mut.follows.holds c.make_room-2.new.self)
      c.know.new.self.events.items c.make_room.new.events.items (vec_capacity c.know.new.self.events)
      (vec_capacity c.make_room.new.events) c.know.new.self.kept c.make_room.ensures.capacity
      c.make_room-2.ensures.keeps.fits c.make_room.ensures.items
      (omega (
        arith,
        most (c.get_mut.follows.lender c.make_room-2.new.self),
        c.len.ensures.len,
        (c.get_mut.follows.holds c.make_room-2.new.self).2,
        c.in_ok-make_room.ensures.room,
        ap length c.make_room.ensures.items,
      ))
      c.make_room-2.ensures.keeps;
}

pub returns-clause-refused : goal.returns-clause-refused
returns-clause-refused c = on_err_weaker c.make_room-2.result
    (λ same q. same_spare c.args.name c.know.new.self.entries (c.get_mut.follows.lender c.make_room-2.new.self)
    c.unwrap-entry.result.now c.make_room-2.new.self
    (sym c.get_mut.ensures.value ∙ ap option_copied_mut c.unwrap-entry.ensures)
    (c.get_mut.follows.holds c.make_room-2.new.self) same q ∙ c.know.ensures.spare q) c.make_room-2.ensures.refused

pub returns-clause-writers : goal.returns-clause-writers
returns-clause-writers c = on_ok_weaker c.make_room-2.result
    (λ same. ap failing_of (updated_there c.args.name c.know.new.self.entries
    (c.get_mut.follows.lender c.make_room-2.new.self) c.unwrap-entry.result.now c.make_room-2.new.self
    (sym c.get_mut.ensures.value ∙ ap option_copied_mut c.unwrap-entry.ensures)
    (c.get_mut.follows.holds c.make_room-2.new.self)) ∙ same ∙ c.deref.ensures.value ∙ c.know.ensures.writers.0)
    c.make_room-2.ensures.failing
