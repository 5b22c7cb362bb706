use Rattle.vl_frame.specs.declared.kinds.FrameKind.TheVariants.{Edits}
use Rattle.vl_manifest.proofs.newer.newer_format.Goals as goal

pub returns-in_err-format-clause-none : goal.returns-in_err-format-clause-none
returns-in_err-format-clause-none c =
    rw c.from_residual.ensures (λ format newer. c.in_err-format.ensures.none format newer.says)

pub returns-in_err-read_frame-clause-none : goal.returns-in_err-read_frame-clause-none
returns-in_err-read_frame-clause-none c =
    rw c.from_residual-in_err-read_frame.ensures (λ format newer.
    let frame = rw (← c.behind_header-frames.ensures) at newer.frame in c.in_err-read_frame.ensures.none Edits newer.body frame)
