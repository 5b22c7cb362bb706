use Rattle.std.proofs.Common.{arith}
use Rattle.vl_model.specs.declared.log_frame.LogFrame.TheVariants.{Committed}
use Rattle.vl_seglog.proofs.Staging.{IsWritten, commit_long, written}
use Rattle.vl_seglog.proofs.staged.staged_commit.Goals as goal

frame_written : (c : goal.Else-len-place)
    → IsWritten c.args.log c.args.place (Committed c.args.number c.args.writes.now) c.in_ok-frame.frame.items
frame_written c =
    written c.args.log c.args.place (Committed c.args.number c.args.writes.now) c.in_ok-frame.frame.items
    c.in_ok-frame.ensures.written c.requires c.in_ok-frame.ensures.short

pub overflow_add-place : goal.overflow_add-place
overflow_add-place c =
    omega (arith, commit_long c.args.log c.args.place c.args.number c.args.writes.now c.in_ok-frame.frame.items (frame_written c))

pub record_pointers-requires-clause-short : goal.record_pointers-requires-clause-short
record_pointers-requires-clause-short c =
    let w = frame_written c in
    omega (arith, w.short, commit_long c.args.log c.args.place c.args.number c.args.writes.now c.in_ok-frame.frame.items w)

pub record_pointers-requires-clause-fits : goal.record_pointers-requires-clause-fits
record_pointers-requires-clause-fits c =
    omega (arith, commit_long c.args.log c.args.place c.args.number c.args.writes.now c.in_ok-frame.frame.items (frame_written c))

pub returns-clause-staged : goal.returns-clause-staged
returns-clause-staged c =
    let w =
    written c.args.log c.args.place (Committed c.args.number c.args.writes.now) c.in_ok-frame.frame.items
    c.in_ok-frame.ensures.written c.requires c.in_ok-frame.ensures.short in
    record { frame = w.frame; pointers = c.in_ok-pointers.ensures; has = w.has; short = w.short; fits = omega arith }
