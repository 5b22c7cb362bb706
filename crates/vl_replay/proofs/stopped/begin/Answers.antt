use Rattle.std.proofs.Common.{refl}
use Rattle.std.specs.FinMap.{empty}
use Rattle.vl_disk.specs.DiskState.{empty_disk}
use Rattle.vl_mem.specs.contracts.steady_writer.SteadyWriterWriter.TheImpl as writing
use Rattle.vl_script_model.specs.Trial.{begun}
use Rattle.vl_script_model.specs.Trying.{all_told}
use Rattle.vl_replay.proofs.Trials.Reopening.{bare_read, counts_small, opened, starts, steady_readers, stopped, told}
use Rattle.vl_replay.proofs.stopped.begin.Goals as goal

pub returns-clause-opened : goal.returns-clause-opened
returns-clause-opened c =
    let disk = c.new.result in
    let empty_is = c.new.ensures.empty in
    let stops = c.new.ensures.stops in
    let none = c.new.ensures.calls in
    let begins = starts c.args.stop disk empty_is stops none in
    let opens = c.new-2.ensures in
    opened c.args.stop disk empty_is stops none _ c.new-2.result (steady_readers _ (λ reader. refl) c.new-2.result)
    opens.cause (opens.meanwhile empty_disk empty (told c.args.stop disk empty_is stops none) bare_read) writing.ghosts all_told
    (opens.store begun begins)
    (opens.holds begun begins refl)

pub returns-clause-stopped : goal.returns-clause-stopped
returns-clause-stopped c =
    let disk = c.new.result in
    let empty_is = c.new.ensures.empty in
    let stops = c.new.ensures.stops in
    let none = c.new.ensures.calls in
    let begins = starts c.args.stop disk empty_is stops none in
    let here = told c.args.stop disk empty_is stops none in
    let opens = c.new-2.ensures in
    stopped c.args.stop disk empty_is stops none _ c.new-2.result (steady_readers _ (λ reader. refl) c.new-2.result)
    opens.cause (opens.meanwhile empty_disk empty here bare_read)
    (opens.answer empty_disk empty here bare_read)
    (opens.at_most begun begins (counts_small c.args.stop disk empty_is stops none))
