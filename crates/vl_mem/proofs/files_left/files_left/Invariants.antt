use Rattle.std.proofs.Common.{◌≡◌}
use Rattle.std.specs.FinMap.{empty}
use Rattle.vl_mem.specs.Kept.{image_of}
use Rattle.vl_mem.proofs.Leaving.{with_left}
use Rattle.vl_mem.proofs.files_left.files_left.Given as goal

abbrev pub invariant-loop-name : goal.invariant-loop-name
invariant-loop-name l = with_left l.fn.outcome l.name-iterator (image_of l.files.items) ≡ with_left l.fn.outcome l.fn.entries.entries empty
