use Rattle.std.proofs.Common.{◌≡◌, sym, ◌∙◌, false, is_some, Option, None, Some, vec_capacity}
use Rattle.vl_mem.specs.declared.entry.Entry.{Entry}
use Rattle.vl_mem.proofs.Steps.{known}
use Rattle.vl_mem.proofs.mem_disk.MemDisk.know.Goals as goal

none_there : (entry : Option Entry) → is_some entry ≡ false → entry ≡ None
none_there None is = search
none_there (Some e) is = cc

pub invariant_of-self : goal.invariant_of-self
invariant_of-self c = record {
  kept = known c.insert.result c.args.name c.blank.result c.args.self.now.entries c.insert.new.self
      c.args.self.now.events.items (vec_capacity c.args.self.now.events) c.blank.ensures
      (none_there _ (sym c.contains_key.ensures ∙ c.if-contains_key.false)) c.insert.ensures.updates
      c.insert.ensures.entries c.insert.ensures.err c.insert.ensures.was_ordered c.args.self.now.kept;
}
