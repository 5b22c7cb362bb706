use Rattle.std.specs.Prelude.{◌≡◌, ◌≤◌, ◌-◌, ◌^◌, drop, map, sum}
use Rattle.vl_script.specs.Summary.{bytes_in, plus}
use Rattle.vl_script.specs.declared.answer.SegmentLine.{SegmentLine}
use Rattle.vl_script.proofs.summary.bytes_in.Given as goal

-- with the logs that are left the sum is whole
abbrev pub invariant-loop-segment : goal.invariant-loop-segment
invariant-loop-segment l = record {
  fits : l.total ≤ 2 ^ 64 - 1;
  sums : plus l.total (sum (map (λ (s : SegmentLine). s.bytes) (drop l.segment-index l.segments))) ≡ bytes_in l.segments;
}
