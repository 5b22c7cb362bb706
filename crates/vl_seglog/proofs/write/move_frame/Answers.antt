use Rattle.std.proofs.Common.{◌≡◌, ◌+◌, length, refl, ap, ◌∙◌, arith}
use Rattle.vl_frame.specs.declared.kinds.FrameKind.TheVariants as kinds
use Rattle.vl_frame.specs.laws.Laws.{length-frame_bytes}
use Rattle.vl_model.specs.Formats.{log_format}
use Rattle.vl_seglog.specs.Relocation.{relocation_body}
use Rattle.vl_seglog.specs.Staging.{head_room}
use Rattle.vl_seglog.proofs.write.move_frame.Goals as goal

pub returns-clause-written : goal.returns-clause-written
returns-clause-written c =
    c.in_ok-finish_frame.ensures.written head_room (relocation_body log_format c.args.records.now) refl c.in_ok-frame.ensures

pub returns-clause-short : goal.returns-clause-short
returns-clause-short c =
    let body = relocation_body log_format c.args.records.now in
    let is = c.in_ok-finish_frame.ensures.written head_room body refl c.in_ok-frame.ensures in
    let long : length c.finish_frame.new.frame.items ≡ length body + 13 =
    ap length is ∙ length-frame_bytes c.args.file c.args.at kinds.Move body in
    omega (arith, c.in_ok-finish_frame.ensures.short, long)
