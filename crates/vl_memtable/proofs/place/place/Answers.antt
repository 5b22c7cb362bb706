use Rattle.std.proofs.Common.{◌+◌, ◌-◌, ◌/◌, ◌<◌, length, ap, sym, ◌∙◌, arith}
use Rattle.vl_model.specs.declared.entry.Entry.{Entry}
use Rattle.vl_model.specs.Lookups.{is_ahead}
use Rattle.vl_memtable.specs.laws.HeadLaws.{heads-here, heads-length}
use Rattle.vl_model.specs.laws.Lookup.{rising-parted}
use Rattle.vl_model.specs.laws.OrderLaws.{rising}
use Rattle.vl_model.specs.laws.Places.{before_point, from_point}
use Rattle.vl_memtable.proofs.Spans.{prefix_len-le}
use Rattle.vl_memtable.proofs.place.place.Goals as goal

pub halving-init : goal.halving-init
halving-init c =
    let test = λ (e : Entry). is_ahead c.args.sought.now.key.now c.args.sought.now.version e in
    record { low = omega arith; high = prefix_len-le test c.args.entries.now; within = omega arith }

pub bounds-heads-middle : goal.bounds-heads-middle
bounds-heads-middle c =
    omega (
      arith,
      c.halving-test.true,
      c.halving.invariant.within,
      heads-length c.args.heads.now c.args.entries.now c.requires.heads,
    )

pub is_ahead-requires-clause-head : goal.is_ahead-requires-clause-head
is_ahead-requires-clause-head c =
    heads-here c.args.heads.now c.args.entries.now (c.halving.low + (c.halving.high - c.halving.low) / 2)
    c.index-entries-middle.result c.requires.heads
    (omega (arith, c.halving-test.true, c.halving.invariant.within)) c.index-entries-middle.is

pub halving-preserved-then-is_ahead : goal.halving-preserved-then-is_ahead
halving-preserved-then-is_ahead c =
    let sought = c.args.sought.now in
    let entries = c.args.entries.now in
    let e = c.index-entries-middle.result in
    let test = λ (e : Entry). is_ahead sought.key.now sought.version e in
    let passes = ap test (sym c.index-entries-middle.is) ∙ sym c.is_ahead.ensures ∙ c.if-is_ahead.true in
    let parted = rising-parted sought.key.now sought.version entries (rising entries c.requires.in_order) in
    let middle = c.halving.low + (c.halving.high - c.halving.low) / 2 in
    let within : middle < length entries = omega (arith, c.halving-test.true, c.halving.invariant.within) in
    let before = before_point test entries middle e parted within passes in
    record { low = omega (arith, before); high = c.halving.invariant.high; within = c.halving.invariant.within }

pub halving-preserved : goal.halving-preserved
halving-preserved c =
    let sought = c.args.sought.now in
    let entries = c.args.entries.now in
    let e = c.index-entries-middle.result in
    let test = λ (e : Entry). is_ahead sought.key.now sought.version e in
    let fails = ap test (sym c.index-entries-middle.is) ∙ sym c.is_ahead.ensures ∙ c.if-is_ahead.false in
    let middle = c.halving.low + (c.halving.high - c.halving.low) / 2 in
    let within : middle < length entries = omega (arith, c.halving-test.true, c.halving.invariant.within) in
    record {
      low = c.halving.invariant.low;
      high = from_point test entries middle e within fails;
      within = omega (arith, c.halving-test.true, c.halving.invariant.within);
    }
