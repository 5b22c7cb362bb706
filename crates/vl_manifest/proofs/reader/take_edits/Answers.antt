use Rattle.std.proofs.Common.{arith}
use Rattle.std.proofs.lemmas.Bool.Decides.{nat_tests}
use Rattle.vl_manifest.proofs.Taking.{no_run_cut, no_run_over, take_one}
use Rattle.vl_manifest.proofs.reader.take_edits.Goals as goal

pub returns-in-None-clause-none : goal.returns-in-None-clause-none
returns-in-None-clause-none c =
    no_run_cut c.args.format c.args.bytes.now c.loop.counter c.args.count c.loop.edits.items c.loop.rest.now
    c.loop.invariant c.loop-test.true
    (rw c.in-None.is at c.take_edit.ensures.none)

pub loop-preserved : goal.loop-preserved
loop-preserved c =
    rw c.in_ok-push-in-Some.ensures.items
    (take_one c.args.format c.args.bytes.now c.loop.counter c.loop.edits.items c.loop.rest.now c.in-Some.edit
    c.in-Some.after.now c.loop.invariant
    c.in-Some.ensures.fits c.in-Some.ensures.found)

pub returns-else-is_empty-clause-none : goal.returns-else-is_empty-clause-none
returns-else-is_empty-clause-none c =
    no_run_over c.args.format c.args.bytes.now c.loop.counter c.args.count c.loop.edits.items c.loop.rest.now c.loop.invariant (omega arith)
    (grind (arith, nat_tests))
