use Rattle.std.proofs.Common.{◌≤◌, length}
use Rattle.vl_manifest.proofs.Said.{UnderWay, place_of}
use Rattle.vl_manifest.proofs.read.read_on.Given as goal

abbrev pub invariant-frames : goal.invariant-frames
invariant-frames l =
    (length l.left ≤ length l.frames)
    × UnderWay l.format l.number (place_of l.frames l.rest) l.rest l.fn.state (place_of l.frames l.left) l.left l.latest

abbrev pub decreases-frames : goal.decreases-frames
decreases-frames l = length l.left
