use Rattle.std.proofs.Common.{arith}
use Rattle.vl_frame.proofs.Headers.{header_is_right}
use Rattle.vl_frame.proofs.header.read_header.Goals as goal
use Rattle.vl_frame.proofs.header.read_header.Goals.{then-not-is_right-via-then-not-is_right}
use Rattle.vl_frame.proofs.header.read_header.Goals.{then-not-is_right-via-else-not-is_right+then-header-eq0}
use Rattle.vl_frame.proofs.header.read_header.Goals.{then-not-is_right-via-else-not-is_right+else-header-eq0+then-header-greatest}

-- another header, or a format that isn't read
pub returns-then-not-is_right-clause-none : goal.returns-then-not-is_right-clause-none
returns-then-not-is_right-clause-none c = λ format first last h.
    let header = c.in_ok-header.header in
    let agrees = header_is_right c.args.kind header.front.now header.format c.args.number header.number header.last
    format c.args.bytes.now c.in_ok-header.ensures.found h in
    elim c.then-not-is_right.branch [
      | then-not-is_right-via-then-not-is_right w ↦ let is_right = c.is_right.ensures.1 agrees.0 in cc (is_right, w.if-not-is_right.true)
      | then-not-is_right-via-else-not-is_right+then-header-eq0 w ↦ omega (arith, agrees.1, first, w.if-header-eq0.true)
      | then-not-is_right-via-else-not-is_right+else-header-eq0+then-header-greatest w ↦ omega
          (arith, agrees.1, last, w.if-header-greatest.true)
    ]
