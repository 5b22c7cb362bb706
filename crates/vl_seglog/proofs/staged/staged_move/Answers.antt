use Rattle.std.proofs.Common.{arith}
use Rattle.vl_model.specs.declared.log_frame.LogFrame.TheVariants.{Relocated}
use Rattle.vl_seglog.proofs.Staging.{IsWritten, relocation_long, written}
use Rattle.vl_seglog.proofs.staged.staged_move.Goals as goal

frame_written : (c : goal.Else-len-place) → IsWritten c.args.log c.args.place (Relocated c.args.records.now) c.in_ok-frame.frame.items
frame_written c =
    written c.args.log c.args.place (Relocated c.args.records.now) c.in_ok-frame.frame.items
    c.in_ok-frame.ensures.written c.requires c.in_ok-frame.ensures.short

pub overflow_add-place : goal.overflow_add-place
overflow_add-place c =
    omega (arith, relocation_long c.args.log c.args.place c.args.records.now c.in_ok-frame.frame.items (frame_written c))

pub moved_pointers-requires-clause-short : goal.moved_pointers-requires-clause-short
moved_pointers-requires-clause-short c =
    let w = frame_written c in
    omega (arith, w.short, relocation_long c.args.log c.args.place c.args.records.now c.in_ok-frame.frame.items w)

pub moved_pointers-requires-clause-fits : goal.moved_pointers-requires-clause-fits
moved_pointers-requires-clause-fits c =
    omega (arith, relocation_long c.args.log c.args.place c.args.records.now c.in_ok-frame.frame.items (frame_written c))

pub returns-clause-staged : goal.returns-clause-staged
returns-clause-staged c =
    let w =
    written c.args.log c.args.place (Relocated c.args.records.now) c.in_ok-frame.frame.items
    c.in_ok-frame.ensures.written c.requires c.in_ok-frame.ensures.short in
    record { frame = w.frame; pointers = c.in_ok-pointers.ensures; has = w.has; short = w.short; fits = omega arith }
