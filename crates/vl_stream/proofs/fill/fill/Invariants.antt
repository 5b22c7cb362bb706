use Rattle.std.proofs.Common.{◌≡◌, ◌+◌, ◌-◌, ◌≤◌, length, take}
use Rattle.vl_io.specs.Source.{HandsOver}
use Rattle.vl_stream.proofs.fill.fill.Given as goal

-- so many bytes stand at the front, which the source gave
abbrev pub invariant-loop-filled : goal.invariant-loop-filled
invariant-loop-filled g l = record {
  within : l.filled ≤ length l.out;
  same : length l.out ≡ length l.fn.out;
  given : HandsOver (g.S.Source.left l.fn.source) (g.S.Source.left l.source) (take l.filled l.out);
  spent : g.S.Source.budget l.source + l.filled ≤ g.S.Source.budget l.fn.source;
  steady : g.S.Source.faults l.source ≡ g.S.Source.faults l.fn.source;
}

abbrev pub decreases-loop-filled : goal.decreases-loop-filled
decreases-loop-filled g l = length l.fn.out - l.filled
