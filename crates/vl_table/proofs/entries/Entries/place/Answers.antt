use Rattle.std.proofs.Common.{◌+◌, ◌-◌, ◌/◌, ◌<◌, sym, ◌∙◌, arith, length}
use Rattle.vl_model.specs.Lookups.{is_ahead}
use Rattle.vl_table.proofs.EntrySteps.{entry_is, goes_down, goes_up, prefix-within, starts-counted}
use Rattle.vl_table.proofs.entries.Entries.place.Goals as goal

pub halves-init : goal.halves-init
halves-init c = (
  omega arith,
  λ es lists. record {
    from = omega arith;
    upto = omega (
      arith,
      prefix-within (is_ahead c.args.key.now c.args.version) es,
      starts-counted c.args.self.now.format c.args.self.now.bytes.now c.args.self.now.starts.now es lists.starts,
    );
  },
)

pub halves-preserved-then-is_ahead : goal.halves-preserved-then-is_ahead
halves-preserved-then-is_ahead c = (
  c.halves.invariant.0,
  λ es lists.
      let s = c.args.self.now in
      let middle = c.halves.low + (c.halves.high - c.halves.low) / 2 in
      let within : c.halves.low + (c.halves.high - c.halves.low) / 2 < length s.starts.now = omega
      (arith, c.halves.invariant.0, c.halves-test.true) in
      let e = entry_is c.args.key.now c.args.version s.format s.bytes.now s.starts.now es lists.lawful lists.starts middle within in
      goes_up c.args.key.now c.args.version s.format s.bytes.now s.starts.now es lists.lawful lists.starts c.halves.low
      c.halves.high middle e
      (c.halves.invariant.1 es lists) (sym (c.is_ahead.ensures e.entry e.lawful e.starts) ∙ c.if-is_ahead.true),
)

pub halves-preserved : goal.halves-preserved
halves-preserved c = (
  omega (arith, c.halves.invariant.0, c.halves-test.true),
  λ es lists.
      let s = c.args.self.now in
      let middle = c.halves.low + (c.halves.high - c.halves.low) / 2 in
      let within : c.halves.low + (c.halves.high - c.halves.low) / 2 < length s.starts.now = omega
      (arith, c.halves.invariant.0, c.halves-test.true) in
      let e = entry_is c.args.key.now c.args.version s.format s.bytes.now s.starts.now es lists.lawful lists.starts middle within in
      goes_down c.args.key.now c.args.version s.format s.bytes.now s.starts.now es lists.lawful lists.starts
      c.halves.low c.halves.high middle e
      (c.halves.invariant.1 es lists) (sym (c.is_ahead.ensures e.entry e.lawful e.starts) ∙ c.if-is_ahead.false),
)
