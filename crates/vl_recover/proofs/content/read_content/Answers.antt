use Rattle.vl_frame.specs.laws.RunLaws.{shorter}
use Rattle.vl_recover.proofs.opening.Contents.{all_read, next_within, one_read}
use Rattle.vl_seglog.specs.Frames.{frames_grammar}
use Rattle.vl_seglog.specs.Reading.{frame_of}
use Rattle.vl_recover.proofs.content.read_content.Goals as goal

pub returns-in-None : goal.returns-in-None
returns-in-None c =
    let none = rw c.in-None.is at c.in_ok-read_next.ensures.none in
    all_read c.args.format c.args.number c.args.before c.args.bytes.now c.loop-content.rest.now c.loop-content.content
    c.loop-content.invariant none

pub with_frame-requires : goal.with_frame-requires
with_frame-requires c =
    let stands = rw c.in-Some.is at c.in_ok-read_next.ensures.found in
    let at = rw c.in-Some.is at c.in_ok-read_next.ensures.place in
    next_within c.args.format c.args.number c.args.before c.args.bytes.now c.loop-content.rest.now
    c.loop-content.content c.in-Some.frame c.in-Some.after.now
    c.loop-content.invariant c.requires stands at

pub loop-content-smaller : goal.loop-content-smaller
loop-content-smaller c =
    let stands = rw c.in-Some.is at c.in_ok-read_next.ensures.found in
    (shorter (frames_grammar c.args.format) c.args.number _ c.loop-content.rest.now (frame_of c.in-Some.frame) c.in-Some.after.now stands).1

pub loop-content-preserved : goal.loop-content-preserved
loop-content-preserved c =
    let stands = rw c.in-Some.is at c.in_ok-read_next.ensures.found in
    let at = rw c.in-Some.is at c.in_ok-read_next.ensures.place in
    one_read c.args.format c.args.number c.args.before c.args.bytes.now c.loop-content.rest.now c.loop-content.content
    c.in_ok-content-in-Some.content c.in-Some.frame c.in-Some.after.now
    c.loop-content.invariant stands at c.in_ok-content-in-Some.ensures
