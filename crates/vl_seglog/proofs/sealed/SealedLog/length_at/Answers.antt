use Rattle.std.proofs.Common.{ℕ, ◌+◌, refl, ap, ◌∙◌, arith}
use Rattle.vl_frame.specs.Frame.{frame_code}
use Rattle.vl_frame.specs.laws.RunLaws.{frame_of}
use Rattle.vl_seglog.specs.Bodies.{frame_kind}
use Rattle.vl_seglog.specs.Frames.{frames_grammar}
use Rattle.vl_seglog.proofs.AnswerSteps.{refuses, then_gives, then_refuses}
use Rattle.vl_seglog.proofs.Scanning.{frame_head, frame_inside}
use Rattle.vl_seglog.proofs.sealed.SealedLog.length_at.Goals as goal

-- there are fewer bytes than any frame has
pub returns-then-not-is_inside-clause-answers : goal.returns-then-not-is_inside-clause-answers
returns-then-not-is_inside-clause-answers g c =
    refuses _ c.args.self.now.number c.args.place _ _ _ c.damaged.result c.damaged.ensures
    (λ bytes told.
    let sized = g.met.H.HeldFile.sized c.args.self.now.held bytes told in (
      record {
        within = omega (arith, sized);
        none = λ f rest s.
            let spelled = frame_of (frames_grammar c.args.self.now.format) c.args.self.now.number c.args.place _ f rest s in
            let inside = frame_inside c.args.self.now.number c.args.place bytes _ _ spelled in
            let yes = c.is_inside.ensures.is.1 (omega (arith, sized, inside)) in
            let no = c.if-not-is_inside.true in cc;
      },
      refl,
    ))

-- and than the head says
pub returns-then-not-is_inside-2-clause-answers : goal.returns-then-not-is_inside-2-clause-answers
returns-then-not-is_inside-2-clause-answers g c =
    then_refuses _ _ c.args.self.now.number c.args.place _ _ _ _ _ c.in_ok-fill.field-0 _ c.damaged-then-not-is_inside-2.ensures
    (λ bytes told read.
    let sized = g.met.H.HeldFile.sized c.args.self.now.held bytes told in (
      record {
        within = omega (arith, sized);
        none = λ f rest s.
            let spelled = frame_of (frames_grammar c.args.self.now.format) c.args.self.now.number c.args.place _ f rest s in
            let says = c.body_length.ensures.is (frame_code (frame_kind f)) _ s.short
            (read ∙ frame_head c.args.self.now.number c.args.place bytes _ _ spelled) in
            let inside = frame_inside c.args.self.now.number c.args.place bytes _ _ spelled in
            let yes = c.is_inside-2.ensures.is.1 (omega (arith, sized, inside, says)) in
            let no = c.if-not-is_inside-2.true in cc;
      },
      refl,
    ))
    c.in_ok-fill.ensures.answers

pub returns-clause-answers : goal.returns-clause-answers
returns-clause-answers g c =
    then_gives _ _ c.args.self.now.number _ _ _ _ _ c.in_ok-fill.field-0 _
    (λ bytes told read kind body s.
    ap (λ (n : ℕ). n + 13) (c.body_length.ensures.is (frame_code kind) _ s.short
    (read ∙ frame_head c.args.self.now.number c.args.place bytes kind body s)))
    c.in_ok-fill.ensures.answers
