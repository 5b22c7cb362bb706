use Rattle.std.proofs.Common.{length}
use Rattle.vl_seglog.proofs.Framing.{FramesSoFar}
use Rattle.vl_seglog.proofs.read.read_frames.Given as goal

abbrev pub invariant-loop-frames : goal.invariant-loop-frames
invariant-loop-frames l = FramesSoFar l.format l.number l.bytes l.frames.items l.rest

abbrev pub decreases-loop-frames : goal.decreases-loop-frames
decreases-loop-frames l = length l.rest
