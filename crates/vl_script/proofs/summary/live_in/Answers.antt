use Rattle.std.proofs.Common.{◌≡◌, ◌≤◌, ◌-◌, ◌^◌, ℕ, [], List, drop, map, ap, arith, drop_of_length-le}
use Rattle.std.specs.Prelude.{sum}
use Rattle.vl_script.specs.declared.answer.SegmentLine.{SegmentLine}
use Rattle.vl_script.specs.Summary.{plus}
use Rattle.vl_script.proofs.summary.live_in.Goals as goal

whole : (total left all : ℕ) → total ≤ 2 ^ 64 - 1 → left ≡ 0 → plus total left ≡ all → total ≡ all
whole total left all fits none is = omega arith

pub returns : goal.returns
returns c =
    let end : drop c.loop-segment.segment-index c.args.segments.now ≡ [] = drop_of_length-le _ c.loop-segment-test.false in
    whole c.loop-segment.total _ _ c.loop-segment.invariant.fits
    (ap (λ (xs : List SegmentLine). sum (map (λ (s : SegmentLine). s.live) xs)) end) c.loop-segment.invariant.sums
