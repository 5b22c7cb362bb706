use Rattle.std.proofs.Common.{take, sym, ap, ◌∙◌}
use Rattle.vl_model.specs.Winners.{exact}
use Rattle.vl_model.specs.Lookups.{or_else}
use Rattle.vl_memtable.specs.Contents.{all_of}
use Rattle.vl_memtable.proofs.RunLists.{take_next, exact-push, exact-found}
use Rattle.vl_memtable.proofs.runs.exact.Goals as goal

pub returns-in-Some : goal.returns-in-Some
returns-in-Some c =
    exact-found c.args.key.now c.args.version c.args.runs.now c.loop-run.run-index c.run-item.result c.in-Some.entry.now
    c.loop-run-test.true c.run-item.is c.loop-run.invariant c.in-Some.ensures

pub loop-run-preserved : goal.loop-run-preserved
loop-run-preserved c =
    let key = c.args.key.now in
    let version = c.args.version in
    let runs = c.args.runs.now in
    let i = c.loop-run.run-index in
    let run = c.run-item.result in
    ap (λ l. exact (all_of l) key version) (take_next runs i run c.loop-run-test.true c.run-item.is)
    ∙ exact-push key version (take i runs) run
    ∙ ap (λ x. or_else x (exact run key version)) c.loop-run.invariant
    ∙ sym c.in_default.ensures
