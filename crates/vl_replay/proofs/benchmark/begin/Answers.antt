use Rattle.std.proofs.Common.{refl}
use Rattle.std.specs.FinMap.{empty}
use Rattle.vl_disk.specs.DiskState.{empty_disk}
use Rattle.vl_script_model.specs.Trial.{begun}
use Rattle.vl_replay.proofs.Benchmarks.{only_memory, starts, told}
use Rattle.vl_replay.proofs.Trials.Reopening.{bare_read, steady_readers}
use Rattle.vl_replay.proofs.benchmark.begin.Goals as goal

pub returns-clause-opened : goal.returns-clause-opened
returns-clause-opened c = c.new-2.ensures.store begun (starts c.new.result c.new.ensures.empty c.new.ensures.calls)

pub returns-clause-refused : goal.returns-clause-refused
returns-clause-refused c =
    let disk = c.new.result in
    let opens = c.new-2.ensures in
    only_memory disk c.new.ensures.empty c.new.ensures.calls _ c.new-2.result (steady_readers _ (λ reader. refl) c.new-2.result)
    opens.cause (opens.answer empty_disk empty (told disk c.new.ensures.empty c.new.ensures.calls) bare_read)
