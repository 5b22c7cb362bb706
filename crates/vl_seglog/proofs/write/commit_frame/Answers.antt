use Rattle.std.proofs.Common.{◌≡◌, ◌+◌, length, refl, ap, ◌∙◌, arith}
use Rattle.vl_frame.specs.declared.kinds.FrameKind.TheVariants as kinds
use Rattle.vl_frame.specs.laws.Laws.{length-frame_bytes}
use Rattle.vl_model.specs.Formats.{log_format}
use Rattle.vl_seglog.specs.Commit.{commit_body}
use Rattle.vl_seglog.specs.Staging.{head_room}
use Rattle.vl_seglog.proofs.write.commit_frame.Goals as goal

pub returns-clause-written : goal.returns-clause-written
returns-clause-written c =
    c.in_ok-finish_frame.ensures.written head_room
    (commit_body log_format (record { number = c.args.number; writes = c.args.writes.now })) refl c.in_ok-frame.ensures

pub returns-clause-short : goal.returns-clause-short
returns-clause-short c =
    let body = commit_body log_format (record { number = c.args.number; writes = c.args.writes.now }) in
    let is = c.in_ok-finish_frame.ensures.written head_room body refl c.in_ok-frame.ensures in
    let long : length c.finish_frame.new.frame.items ≡ length body + 13 =
    ap length is ∙ length-frame_bytes c.args.file c.args.at kinds.Commit body in
    omega (arith, c.in_ok-finish_frame.ensures.short, long)
