use Rattle.vl_model.specs.Formats.{log_format}
use Rattle.std.proofs.Common.{◌≡◌, ◌+◌, length, ap, ◌∙◌, arith}
use Rattle.vl_model.specs.declared.pointer.Pointer.{Pointer}
use Rattle.vl_seglog.specs.Stored.{pointer_at, pointers_from}
use Rattle.vl_seglog.proofs.Placing.{next, next_fits, next_short, records_lying}
use Rattle.vl_seglog.proofs.staged.record_pointers.Goals as goal

pub pointer_to-pointer-requires : goal.pointer_to-pointer-requires
pointer_to-pointer-requires c =
    let short = next_short (records_lying log_format c.args.log) c.loop-key.place c.loop-key.pointers.items
    (pointers_from log_format c.args.log c.args.from c.args.writes.now) c.args.writes.now c.loop-key.key-index c.loop-key-item.result
    c.loop-key-test.true c.loop-key-item.is c.loop-key.invariant in
    omega (arith, short, c.value_len.ensures)

pub overflow_add-place : goal.overflow_add-place
overflow_add-place c =
    let found : c.pointer_to-pointer.result ≡ pointer_at log_format c.args.log c.loop-key.place c.loop-key-item.result.0
    c.loop-key-item.result.1 = c.pointer_to-pointer.ensures
    ∙ ap (λ n. record {
      segment = c.args.log;
      place = c.loop-key.place;
      length = 8 + length c.loop-key-item.result.0
          + n;
    }) c.value_len.ensures in
    let fits = next_fits (records_lying log_format c.args.log) c.loop-key.place c.loop-key.pointers.items
    (pointers_from log_format c.args.log c.args.from c.args.writes.now) c.args.writes.now c.loop-key.key-index c.loop-key-item.result
    c.loop-key-test.true c.loop-key-item.is c.loop-key.invariant in
    omega (arith, fits, ap (λ (p : Pointer). p.length) found)

pub loop-key-preserved : goal.loop-key-preserved
loop-key-preserved c =
    let found : c.pointer_to-pointer.result ≡ pointer_at log_format c.args.log c.loop-key.place c.loop-key-item.result.0
    c.loop-key-item.result.1 = c.pointer_to-pointer.ensures
    ∙ ap (λ n. record {
      segment = c.args.log;
      place = c.loop-key.place;
      length = 8 + length c.loop-key-item.result.0
          + n;
    }) c.value_len.ensures in
    rw (c.in_ok-push.ensures.items, found)
    (next (records_lying log_format c.args.log) c.loop-key.place c.loop-key.pointers.items
    (pointers_from log_format c.args.log c.args.from c.args.writes.now) c.args.writes.now c.loop-key.key-index c.loop-key-item.result
    c.loop-key-test.true c.loop-key-item.is c.loop-key.invariant)
