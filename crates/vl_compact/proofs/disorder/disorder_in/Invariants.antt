use Rattle.std.proofs.Common.{◌≡◌}
use Rattle.vl_compact.proofs.disorder.disorder_in.Given as goal

abbrev pub invariant-loop-table : goal.invariant-loop-table
invariant-loop-table g l = record {
  steady : g.R.Reader.faults l.reader ≡ g.R.Reader.faults l.initial.reader;
}
