use Rattle.std.proofs.Common.{◌++◌, map}
use Rattle.vl_space.specs.Retiring.{LeavesFiles, left_of}
use Rattle.vl_space.proofs.remove.abandon_files.Given as goal

abbrev pub invariant-loop-table : goal.invariant-loop-table
invariant-loop-table g l = LeavesFiles (map left_of l.yielded) l.initial.stock l.stock

abbrev pub invariant-loop-file : goal.invariant-loop-file
invariant-loop-file g l = LeavesFiles (map left_of l.fn.made.items ++ l.yielded) l.fn.stock l.stock
