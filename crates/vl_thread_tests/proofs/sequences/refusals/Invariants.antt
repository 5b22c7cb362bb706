use Rattle.std.proofs.Common.{◌≤◌}
use Rattle.vl_sequence.specs.Sequences.{IsReady}
use Rattle.vl_thread_tests.proofs.sequences.refusals.Given as goal

-- it goes on being ready, and each refusal is counted
abbrev pub invariant-loop : goal.invariant-loop
invariant-loop g l = record {
  ready : IsReady (g.S.Shop.knows l.ids.shop) l.ids.key l.ids.lease l.ids.next l.ids.end;
  counted : l.count ≤ l.counter;
}
