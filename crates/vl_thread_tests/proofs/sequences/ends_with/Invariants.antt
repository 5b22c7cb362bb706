use Rattle.vl_sequence.specs.Sequences.{IsReady}
use Rattle.vl_thread_tests.proofs.sequences.ends_with.Given as goal

-- it goes on being ready
abbrev pub invariant-loop-number : goal.invariant-loop-number
invariant-loop-number g l = IsReady (g.S.Shop.knows l.ids.shop) l.ids.key l.ids.lease l.ids.next l.ids.end
