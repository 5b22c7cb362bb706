use Rattle.std.proofs.Common.{◌≡◌, ◌++◌, drop}
use Rattle.std.specs.List.{flat_map}
use Rattle.vl_script.specs.Script.{segment_text, segments_text}
use Rattle.vl_script.proofs.print.print_segments.Given as goal

-- with the lines of the logs that are left the text is whole
abbrev pub invariant-loop-segment : goal.invariant-loop-segment
invariant-loop-segment l =
    l.text.items ++ flat_map segment_text (drop l.segment-index l.segments) ≡ l.fn.text.items ++ segments_text l.segments
