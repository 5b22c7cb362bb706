use Rattle.vl_model.specs.Formats.{log_format}
use Rattle.std.proofs.Common.{◌≡◌, ◌+◌, length, ap, ◌∙◌, arith}
use Rattle.vl_model.specs.declared.change.Change.TheVariants.{Set}
use Rattle.vl_model.specs.declared.pointer.Pointer.{Pointer}
use Rattle.vl_seglog.specs.Stored.{moved_pointers, pointer_at}
use Rattle.vl_seglog.proofs.Placing.{moves_lying, next, next_fits, next_short}
use Rattle.vl_seglog.proofs.staged.moved_pointers.Goals as goal

pub pointer_to-pointer-requires : goal.pointer_to-pointer-requires
pointer_to-pointer-requires c =
    let short = next_short (moves_lying log_format c.args.log) c.loop-moved.place c.loop-moved.pointers.items
    (moved_pointers log_format c.args.log c.args.from c.args.records.now) c.args.records.now c.loop-moved.moved-index c.moved-item.result
    c.loop-moved-test.true c.moved-item.is c.loop-moved.invariant in
    omega (arith, short, c.len.ensures)

pub overflow_add-place-in-loop-moved-2 : goal.overflow_add-place-in-loop-moved-2
overflow_add-place-in-loop-moved-2 c =
    let found : c.pointer_to-pointer.result ≡ pointer_at log_format c.args.log (c.loop-moved.place + 8)
    c.moved-item.result.key (Set c.moved-item.result.value) = c.pointer_to-pointer.ensures
    ∙ ap (λ n. record {
      segment = c.args.log;
      place = c.loop-moved.place + 8;
      length = 8 + length
          c.moved-item.result.key + n;
    }) c.len.ensures in
    let fits = next_fits (moves_lying log_format c.args.log) c.loop-moved.place c.loop-moved.pointers.items
    (moved_pointers log_format c.args.log c.args.from c.args.records.now) c.args.records.now c.loop-moved.moved-index c.moved-item.result
    c.loop-moved-test.true c.moved-item.is c.loop-moved.invariant in
    omega (arith, fits, ap (λ (p : Pointer). p.length) found)

pub loop-moved-preserved : goal.loop-moved-preserved
loop-moved-preserved c =
    let found : c.pointer_to-pointer.result ≡ pointer_at log_format c.args.log (c.loop-moved.place + 8)
    c.moved-item.result.key (Set c.moved-item.result.value) = c.pointer_to-pointer.ensures
    ∙ ap (λ n. record {
      segment = c.args.log;
      place = c.loop-moved.place + 8;
      length = 8 + length
          c.moved-item.result.key + n;
    }) c.len.ensures in
    rw (c.in_ok-push.ensures.items, found)
    (next (moves_lying log_format c.args.log) c.loop-moved.place c.loop-moved.pointers.items
    (moved_pointers log_format c.args.log c.args.from c.args.records.now) c.args.records.now c.loop-moved.moved-index c.moved-item.result
    c.loop-moved-test.true c.moved-item.is c.loop-moved.invariant)
