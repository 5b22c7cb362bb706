use Rattle.std.proofs.Common.{ℕ, ◌+◌, List, length, ap, ◌∙◌, refl}
use Rattle.vl_frame.specs.laws.RunLaws.{frame_of as found_frame}
use Rattle.vl_seglog.specs.Frames.{frames_grammar}
use Rattle.vl_seglog.specs.Bodies.{frame_body, frame_kind}
use Rattle.vl_seglog.specs.Reading.{said_of}
use Rattle.vl_seglog.specs.laws.FrameLaws.{length-frame_body}
use Rattle.vl_seglog.proofs.Framing.{says}
use Rattle.vl_seglog.proofs.read.next.read_next.Goals as goal

pub returns-in_default-clause-none : goal.returns-in_default-clause-none
returns-in_default-clause-none c = λ f rest s.
    c.in_default.ensures.none (frame_kind f) (frame_body c.args.format f)
    (found_frame (frames_grammar c.args.format) c.args.number c.args.at c.args.bytes.now f rest s)

pub returns-in-None-clause-none : goal.returns-in-None-clause-none
returns-in-None-clause-none c = λ f rest s.
    let none = rw c.in-None.is at c.in_ok-read_body.ensures.none in
    none f (says c.args.format c.args.number c.args.at c.args.bytes.now c.in-Some.frame.kind c.in-Some.frame.body.now f
    rest c.in-Some.ensures.found.0 s)

pub returns-in-Some-2-clause-place : goal.returns-in-Some-2-clause-place
returns-in-Some-2-clause-place c =
    let said = rw c.in-Some-2.is at c.in_ok-read_body.ensures.found in
    record {
      place_is = refl;
      length_is = c.in-Some.ensures.found.1 ∙ ap (λ (b : List ℕ). length b + 13) said.body_is
          ∙ length-frame_body c.args.format (said_of c.in-Some-2.said);
      records = rw c.in-Some-2.is at c.in_ok-read_body.ensures.places;
    }
