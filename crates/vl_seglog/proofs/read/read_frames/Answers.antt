use Rattle.std.proofs.Common.{map, refl}
use Rattle.vl_frame.specs.laws.RunLaws.{ends, shorter}
use Rattle.vl_seglog.specs.Frames.{frames_grammar}
use Rattle.vl_seglog.specs.Reading.{frame_of}
use Rattle.vl_seglog.proofs.Framing.{frames_placed, none_read, one_read}
use Rattle.vl_seglog.proofs.read.read_frames.Goals as goal

pub loop-frames-init : goal.loop-frames-init
loop-frames-init c = none_read c.args.format c.args.number c.args.bytes.now _ c.new-frames.ensures.items

pub returns-in-None-clause-frames : goal.returns-in-None-clause-frames
returns-in-None-clause-frames c =
    let none = rw c.in-None.is at c.in_ok-read_next.ensures.none in
    ends (frames_grammar c.args.format) c.args.number 16 c.args.bytes.now (map frame_of c.loop-frames.frames.items)
    c.loop-frames.rest.now _ c.loop-frames.invariant.so_far.under_way refl none

pub returns-in-None-clause-places : goal.returns-in-None-clause-places
returns-in-None-clause-places c = frames_placed c.args.format c.args.number c.args.bytes.now c.loop-frames.frames.items
    c.loop-frames.rest.now c.loop-frames.invariant

pub loop-frames-smaller : goal.loop-frames-smaller
loop-frames-smaller c =
    let stands = rw c.in-Some.is at c.in_ok-read_next.ensures.found in
    (shorter (frames_grammar c.args.format) c.args.number _ c.loop-frames.rest.now (frame_of c.in-Some.frame) c.in-Some.after.now stands).1

pub loop-frames-preserved : goal.loop-frames-preserved
loop-frames-preserved c =
    let stands = rw c.in-Some.is at c.in_ok-read_next.ensures.found in
    let at = rw c.in-Some.is at c.in_ok-read_next.ensures.place in
    one_read c.args.format c.args.number c.args.bytes.now c.loop-frames.frames.items c.push.new.self.items
    c.loop-frames.rest.now _ c.in-Some.frame c.in-Some.after.now c.loop-frames.invariant refl c.in_ok-push-in-Some.ensures.items stands at
