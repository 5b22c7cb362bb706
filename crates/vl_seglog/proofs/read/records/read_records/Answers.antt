use Rattle.std.proofs.Common.{map, arith}
use Rattle.std.proofs.lemmas.Bool.Decides.{nat_tests}
use Rattle.vl_seglog.specs.Commit.{records_spelling}
use Rattle.vl_seglog.specs.Placed.{LiesAt, record_size}
use Rattle.vl_seglog.specs.Reading.{write_of}
use Rattle.vl_seglog.proofs.Following.{all_placed, none_so_far, one_more, step_fits, write_length_is, write_sized}
use Rattle.vl_seglog.proofs.Records.{no_write}
use Rattle.vl_seglog.proofs.Runs.{no_series_cut, no_series_over}
use Rattle.vl_seglog.proofs.read.records.read_records.Goals as goal

pub loop-init : goal.loop-init
loop-init c = none_so_far (records_spelling c.args.format) write_of (LiesAt c.args.format c.args.log c.args.number)
    (record_size c.args.format) (write_sized c.args.format) c.args.first c.args.bytes.now _ c.new-records.ensures.items c.requires

pub returns-in-None-clause-none : goal.returns-in-None-clause-none
returns-in-None-clause-none c =
    no_series_cut (records_spelling c.args.format) c.args.bytes.now c.loop.counter c.args.count
    (map write_of c.loop.records.items) c.loop.rest.now c.loop.invariant.so_far c.loop-test.true
    (no_write c.args.format c.loop.rest.now (rw c.in-None.is at c.in_ok-take_record.ensures.none))

pub overflow_add-place : goal.overflow_add-place
overflow_add-place c =
    let took = rw c.in-Some.is at c.in_ok-take_record.ensures.found in
    let at = rw c.in-Some.is at c.in_ok-take_record.ensures.place in
    let fits = step_fits (records_spelling c.args.format) write_of (LiesAt c.args.format c.args.log c.args.number)
    (record_size c.args.format) (write_sized c.args.format) c.loop.place c.in-Some.record.pointer.length
    c.loop.rest.now c.in-Some.record c.in-Some.after.now
    took.1 (write_length_is _ _ _ _ c.in-Some.record at) c.loop.invariant.fits in
    omega (arith, fits)

pub loop-preserved : goal.loop-preserved
loop-preserved c =
    let took = rw c.in-Some.is at c.in_ok-take_record.ensures.found in
    let at = rw c.in-Some.is at c.in_ok-take_record.ensures.place in
    one_more (records_spelling c.args.format) write_of (LiesAt c.args.format c.args.log c.args.number)
    (record_size c.args.format) (write_sized c.args.format) c.args.first c.args.bytes.now c.loop.counter
    c.loop.records.items c.push.new.self.items c.loop.rest.now
    c.loop.place c.in-Some.record.pointer.length c.in-Some.record c.in-Some.after.now c.loop.invariant
    c.in_ok-push-in-Some.ensures.items took.0 took.1 at (write_length_is _ _ _ _ c.in-Some.record at)

pub returns-else-is_empty-clause-none : goal.returns-else-is_empty-clause-none
returns-else-is_empty-clause-none c =
    no_series_over (records_spelling c.args.format) c.args.bytes.now c.loop.counter c.args.count
    (map write_of c.loop.records.items) c.loop.rest.now c.loop.invariant.so_far (omega arith) (grind (arith, nat_tests))

pub returns-then-is_empty-clause-places : goal.returns-then-is_empty-clause-places
returns-then-is_empty-clause-places c =
    all_placed (LiesAt c.args.format c.args.log c.args.number) (record_size c.args.format) c.args.first
    c.loop.records.items c.loop.place c.loop.invariant.placed
