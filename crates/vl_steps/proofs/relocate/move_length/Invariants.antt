use Rattle.std.specs.Prelude.{◌≡◌, ◌+◌, take}
use Rattle.std.specs.List.{sum_by}
use Rattle.vl_model.specs.Formats.{log_format}
use Rattle.vl_model.specs.Frames.{moved_length}
use Rattle.vl_steps.proofs.relocate.move_length.Given as goal

-- the bytes in front of the records, and those of the records so far
abbrev pub invariant-loop-one : goal.invariant-loop-one
invariant-loop-one l = l.bytes ≡ 17 + sum_by (moved_length log_format) (take l.one-index l.moved)
