use Rattle.std.proofs.Common.{◌≡◌, map, take}
use Rattle.vl_script_model.specs.Sequential.{segment_line}
use Rattle.vl_replay.proofs.replayer.collect.segment_lines.Given as goal

abbrev pub invariant-loop-stat : goal.invariant-loop-stat
invariant-loop-stat l = l.lines.items ≡ map segment_line (take l.stat-index l.stats)
