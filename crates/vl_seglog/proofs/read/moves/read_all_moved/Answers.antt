use Rattle.std.proofs.Common.{◌+◌, map, arith}
use Rattle.std.proofs.lemmas.Bool.Decides.{nat_tests}
use Rattle.vl_seglog.specs.Placed.{LiesMovedAt, moved_size}
use Rattle.vl_seglog.specs.Reading.{moved_of}
use Rattle.vl_seglog.specs.Relocation.{moves_spelling}
use Rattle.vl_seglog.proofs.Following.{all_placed, moved_length_is, moved_sized, none_so_far, one_more, step_fits}
use Rattle.vl_seglog.proofs.Runs.{no_series_cut, no_series_over}
use Rattle.vl_seglog.proofs.read.moves.read_all_moved.Goals as goal

pub loop-init : goal.loop-init
loop-init c = none_so_far (moves_spelling c.args.format) moved_of (LiesMovedAt c.args.format c.args.log)
    (moved_size c.args.format) (moved_sized c.args.format) c.args.first c.args.bytes.now _ c.new-records.ensures.items c.requires

pub take_moved-requires : goal.take_moved-requires
take_moved-requires c = c.loop.invariant.fits

pub returns-in-None-clause-none : goal.returns-in-None-clause-none
returns-in-None-clause-none c =
    no_series_cut (moves_spelling c.args.format) c.args.bytes.now c.loop.counter c.args.count
    (map moved_of c.loop.records.items) c.loop.rest.now c.loop.invariant.so_far c.loop-test.true
    (rw c.in-None.is at c.in_ok-take_moved.ensures.none)

pub overflow_add-place-in-Some : goal.overflow_add-place-in-Some
overflow_add-place-in-Some c =
    let took = rw c.in-Some.is at c.in_ok-take_moved.ensures.found in
    let at = rw c.in-Some.is at c.in_ok-take_moved.ensures.place in
    let fits = step_fits (moves_spelling c.args.format) moved_of (LiesMovedAt c.args.format c.args.log)
    (moved_size c.args.format) (moved_sized c.args.format) c.loop.place (8 + c.in-Some.record.pointer.length)
    c.loop.rest.now c.in-Some.record c.in-Some.after.now
    took.1 (moved_length_is _ _ _ c.in-Some.record at) c.loop.invariant.fits in
    omega (arith, fits)

pub loop-preserved : goal.loop-preserved
loop-preserved c =
    let took = rw c.in-Some.is at c.in_ok-take_moved.ensures.found in
    let at = rw c.in-Some.is at c.in_ok-take_moved.ensures.place in
    one_more (moves_spelling c.args.format) moved_of (LiesMovedAt c.args.format c.args.log) (moved_size c.args.format)
    (moved_sized c.args.format) c.args.first c.args.bytes.now c.loop.counter c.loop.records.items c.push.new.self.items c.loop.rest.now
    c.loop.place (8 + c.in-Some.record.pointer.length) c.in-Some.record c.in-Some.after.now c.loop.invariant
    c.in_ok-push-in-Some.ensures.items took.0 took.1 at (moved_length_is _ _ _ c.in-Some.record at)

pub returns-else-is_empty-clause-none : goal.returns-else-is_empty-clause-none
returns-else-is_empty-clause-none c =
    no_series_over (moves_spelling c.args.format) c.args.bytes.now c.loop.counter c.args.count
    (map moved_of c.loop.records.items) c.loop.rest.now c.loop.invariant.so_far (omega arith) (grind (arith, nat_tests))

pub returns-then-is_empty-clause-places : goal.returns-then-is_empty-clause-places
returns-then-is_empty-clause-places c =
    all_placed (LiesMovedAt c.args.format c.args.log) (moved_size c.args.format) c.args.first c.loop.records.items
    c.loop.place c.loop.invariant.placed
