use Rattle.std.proofs.Common.{[], ◌∷◌, ◌++◌, length, arith, sym, ap, ◌∙◌, vec_capacity}
use Rattle.vl_disk.specs.DiskState.{empty_disk, settled}
use Rattle.vl_disk.specs.MadeFile.{made}
use Rattle.vl_mem.specs.declared.event.Event.TheVariants.{Found}
use Rattle.vl_mem.specs.Event.{replayed-push, state_after}
use Rattle.vl_mem.proofs.Steps.{found_kept}
use Rattle.vl_mem.proofs.found.found.Goals as goal

pub returns-clause-state : goal.returns-clause-state
returns-clause-state c =
    let events = c.args.events.now.items in
    ap state_after (c.note.ensures.items ∙ ap (λ es. es ++ Found c.args.name c.in_ok-kept.kept ∷ [])
    c.make_room.ensures.items) ∙ replayed-push events (Found c.args.name c.in_ok-kept.kept) empty_disk
    ∙ ap (λ b. made c.args.name b (state_after events)) (c.in_ok-kept.ensures.items ∙ c.deref.ensures.value)

pub returns-clause-kept : goal.returns-clause-kept
returns-clause-kept c kept =
    found_kept c.args.name c.found.result c.args.entries.now c.insert.new.self c.in_ok-insert.ensures.updates
    c.in_ok-insert.ensures.entries c.in_ok-insert.ensures.was_ordered
    c.args.events.now.items c.note.new.events.items c.in_ok-kept.kept (vec_capacity c.args.events.now)
    (vec_capacity c.note.new.events) c.len.result
    c.found.ensures.presence
    (c.found.ensures.file ∙ ap settled (sym (c.in_ok-kept.ensures.items ∙ c.deref.ensures.value)))
    c.found.ensures.fits c.found.ensures.slots c.requires
    (c.note.ensures.items ∙ ap (λ es. es ++ Found c.args.name c.in_ok-kept.kept ∷ []) c.make_room.ensures.items) c.len.ensures.len
    (omega (arith, c.in_ok-make_room.ensures.room, ap length c.make_room.ensures.items, c.note.ensures.capacity)) kept
