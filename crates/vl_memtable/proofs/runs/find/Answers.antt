use Rattle.std.proofs.Common.{take, sym, ap, ◌∙◌}
use Rattle.std.specs.Option.{option_copied}
use Rattle.vl_model.specs.Winners.{winner, newest_of}
use Rattle.vl_memtable.specs.Contents.{all_of}
use Rattle.vl_memtable.proofs.RunLists.{take_next, winner-push}
use Rattle.vl_memtable.proofs.runs.find.Goals as goal

pub loop-run-preserved : goal.loop-run-preserved
loop-run-preserved c =
    let key = c.args.key.now in
    let number = c.args.number in
    let runs = c.args.runs.now in
    let i = c.loop-run.run-index in
    let run = c.run-item.result in
    c.newest_ref-best.ensures
    ∙ ap (λ x. newest_of x (option_copied c.find.result)) c.loop-run.invariant
    ∙ ap (newest_of (winner (all_of (take i runs)) key number)) c.find.ensures
    ∙ sym (ap (λ l. winner (all_of l) key number) (take_next runs i run c.loop-run-test.true c.run-item.is)
    ∙ winner-push key number (take i runs) run)
