use Rattle.std.proofs.Common.{arith}
use Rattle.std.specs.Option.{option_copied}
use Rattle.std.proofs.lemmas.Bool.Decides.{nat_tests}
use Rattle.vl_seglog.specs.Record.{change_of}
use Rattle.vl_stream.proofs.SeriesAbove.{is_below, none_above, none_cut, none_over, not_below, read_copy, took_one}
use Rattle.vl_stream.proofs.read.read_rising.Goals as goal

pub returns-in_default-clause-none : goal.returns-in_default-clause-none
returns-in_default-clause-none c =
    none_cut c.args.last.now c.args.bytes.now c.loop.counter c.args.count c.loop.batch.records.items c.loop.rest.now
    c.loop.before.now c.loop.invariant c.loop-test.true c.in_default.ensures.none

pub returns-then-not-is_lt-clause-none : goal.returns-then-not-is_lt-clause-none
returns-then-not-is_lt-clause-none c =
    none_above c.args.last.now c.args.bytes.now c.loop.counter c.args.count c.loop.batch.records.items c.loop.rest.now
    c.loop.before.now c.in-Some.record.key.now (change_of (option_copied c.in-Some.record.value) c.in-Some.record.tag)
    c.loop.invariant c.loop-test.true c.in-Some.ensures.found
    (not_below _ _ _ c.key_order.ensures c.is_lt.ensures c.if-not-is_lt.true)

pub slice_bounds-rest-count : goal.slice_bounds-rest-count
slice_bounds-rest-count c =
    (took_one c.loop.rest.now c.in-Some.record.length c.in-Some.record.key.now
    (change_of (option_copied c.in-Some.record.value) c.in-Some.record.tag) c.in-Some.ensures.found
    c.in-Some.ensures.length).within

pub slice_bounds-rest-start : goal.slice_bounds-rest-start
slice_bounds-rest-start c =
    (took_one c.loop.rest.now c.in-Some.record.length c.in-Some.record.key.now
    (change_of (option_copied c.in-Some.record.value) c.in-Some.record.tag) c.in-Some.ensures.found
    c.in-Some.ensures.length).within

pub loop-preserved : goal.loop-preserved
loop-preserved c =
    read_copy c.args.last.now c.args.bytes.now c.loop.counter c.loop.batch.records.items c.push.new.self.records.items
    c.loop.rest.now c.loop.before.now c.in-Some.record.length c.in-Some.record.key.now c.in_ok-copy_of.field-0
    (change_of (option_copied c.in-Some.record.value) c.in-Some.record.tag) c.in_ok-change.change c.loop.invariant
    c.in-Some.ensures.found c.in-Some.ensures.length
    (is_below _ _ _ c.key_order.ensures c.is_lt.ensures c.if-not-is_lt.false) c.in_ok-copy_of.ensures c.in_ok-change.ensures
    c.in_ok-push.ensures.pushed

pub returns-then-not-is_empty-clause-none : goal.returns-then-not-is_empty-clause-none
returns-then-not-is_empty-clause-none c =
    none_over c.args.last.now c.args.bytes.now c.loop.counter c.args.count c.loop.batch.records.items c.loop.rest.now
    c.loop.before.now c.loop.invariant (omega arith) (grind (arith, nat_tests))
