use Rattle.std.proofs.Common.{◌≡◌, length}
use Rattle.std.specs.List.{AllByRecursion}
use Rattle.vl_script.specs.Summary.{none_counted}
use Rattle.vl_script_model.specs.Asking.{AsksForRow}
use Rattle.vl_script_model.specs.Sequential.{State}
use Rattle.vl_replay.specs.Benchmark.{exchanges_of, summed}
use Rattle.vl_replay.specs.Served.{StandsFor, TakesLines, disk_of}
use Rattle.vl_replay.proofs.benchmark.sum_up.Given as goal

-- the answers to the lines that are left make the summary whole
abbrev pub invariant-loop-line : goal.invariant-loop-line
invariant-loop-line g l = record {
  under_way : (s : State) → StandsFor g.D.Watched g.D.Writer.Writer g.D.Held.HeldFile.bytes l.fn.replayer s
      → (t : State) × StandsFor g.D.Watched g.D.Writer.Writer g.D.Held.HeldFile.bytes l.replayer t
      × (summed none_counted (exchanges_of s l.fn.lines) ≡ summed l.summary (exchanges_of t l.lines));
  goes_on : TakesLines l.replayer;
  rows : AllByRecursion AsksForRow l.lines;
  steady : g.D.Watched.faults (disk_of l.replayer) ≡ g.D.Watched.faults (disk_of l.fn.replayer);
}

abbrev pub decreases-loop-line : goal.decreases-loop-line
decreases-loop-line g l = length l.lines
