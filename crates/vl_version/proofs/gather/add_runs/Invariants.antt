use Rattle.std.proofs.Common.{◌≡◌, ◌++◌, map}
use Rattle.vl_version.specs.declared.source.Source.TheVariants.{Held}
use Rattle.vl_version.proofs.gather.add_runs.Given as goal

abbrev pub invariant-loop-run : goal.invariant-loop-run
invariant-loop-run g l = l.sources.items ≡ l.initial.sources.items ++ map (λ run. Held run) l.yielded
