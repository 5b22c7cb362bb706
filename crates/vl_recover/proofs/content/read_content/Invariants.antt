use Rattle.std.proofs.Common.{length}
use Rattle.vl_recover.proofs.opening.Contents.{IsReadUpTo}
use Rattle.vl_recover.proofs.content.read_content.Given as goal

abbrev pub invariant-loop-content : goal.invariant-loop-content
invariant-loop-content l = IsReadUpTo l.format l.number l.before l.bytes l.rest l.content

abbrev pub decreases-loop-content : goal.decreases-loop-content
decreases-loop-content l = length l.rest
