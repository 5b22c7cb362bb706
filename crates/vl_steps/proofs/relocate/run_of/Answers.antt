use Rattle.std.proofs.Common.{◌≡◌, ◌++◌, ◌∷◌, [], List, add-one, ap, arith, length, refl, sym, take, ◌∙◌}
use Rattle.vl_steps.proofs.RelocatingEntries.{all_moves, one_move_more}
use Rattle.vl_steps.specs.Relocating.{move_entries_of}
use Rattle.vl_model.specs.Entries.{in_order}
use Rattle.vl_model.specs.declared.entry.Entry.{Entry}
use Rattle.vl_model.specs.declared.log_frame.Moved.{Moved}
use Rattle.vl_model.specs.laws.OrderLaws.{in_order-front}
use Rattle.vl_steps.proofs.relocate.run_of.Goals as goal

pub loop-i-preserved : goal.loop-i-preserved
loop-i-preserved c =
    let ms = c.args.moved.now in
    let ps = c.args.pointers.now in
    let so_far = move_entries_of (take c.loop-i.i ms) ps in
    let e = c.in_ok-entry_of.field-0 in
    rw add-one
    (c.in_ok-run-2.ensures
    ∙ ap (λ (es : List Entry). in_order (es ++ c.in_ok-next.next)) c.loop-i.invariant
    ∙ ap (λ (es : List Entry). in_order (in_order so_far ++ es)) c.in_ok-next.ensures
    ∙ in_order-front so_far (e ∷ [])
    ∙ ap (λ (x : Entry). in_order (so_far ++ x ∷ [])) c.in_ok-entry_of.ensures
    ∙ ap in_order (sym (one_move_more ms ps c.loop-i.i c.index-moved-i.result _ (record { segment = 0; place = 0; length = 0 })
    (omega (arith, c.loop-i-test.true)) c.requires c.index-moved-i.is refl)))

pub returns : goal.returns
returns c =
    let ms = c.args.moved.now in
    let all : take c.loop-i.i ms ≡ ms = all_moves c.loop-i.i ms (omega (arith, c.loop-i-test.false)) in
    c.loop-i.invariant ∙ ap (λ (vs : List Moved). in_order (move_entries_of vs c.args.pointers.now)) all

pub bounds-pointers-i : goal.bounds-pointers-i
bounds-pointers-i c = omega (arith, c.requires, c.loop-i-test.true)
