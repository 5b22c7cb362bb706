use Rattle.std.proofs.Common.{◌≡◌, List, subst, sym}
use Rattle.std.specs.Prelude.{IfOk}
use Rattle.std.specs.List.{AllByRecursion}
use Rattle.vl_script.specs.Summary.{none_counted}
use Rattle.vl_script.specs.declared.line.Line.{Line}
use Rattle.vl_script.specs.declared.summary.Summary.{Summary}
use Rattle.vl_script_model.specs.Asking.{AsksForRow}
use Rattle.vl_script_model.specs.Trial.{begun}
use Rattle.vl_replay.specs.Benchmark.{exchanges_of, summed}
use Rattle.vl_replay.specs.Served.{disk_of}
use Rattle.vl_replay.proofs.Benchmarks.{bench_asks, out_of_memory}
use Rattle.vl_replay.proofs.benchmark.answer_rounds.Goals as goal

pub sum_up-requires : goal.sum_up-requires
sum_up-requires c = record {
  goes_on = c.requires.goes_on;
  rows = subst (AllByRecursion AsksForRow) (sym c.new.ensures) (bench_asks c.args.seed c.args.count);
}

pub returns-clause-summary : goal.returns-clause-summary
returns-clause-summary c =
    subst (λ (lines : List Line). IfOk c.sum_up.result (λ (s : Summary). s ≡ summed none_counted (exchanges_of begun lines)))
    c.new.ensures (c.sum_up.ensures.summary begun c.requires.stands)

pub returns-clause-refused : goal.returns-clause-refused
returns-clause-refused c =
    out_of_memory (disk_of c.args.replayer) (disk_of c.sum_up.new.replayer) c.sum_up.result
    (c.sum_up.ensures.undamaged begun c.requires.stands)
    (c.sum_up.ensures.fault begun c.requires.stands) c.sum_up.ensures.cause
