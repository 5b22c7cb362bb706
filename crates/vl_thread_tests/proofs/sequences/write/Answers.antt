use Rattle.std.proofs.Common.{[]}
use Rattle.vl_drive.specs.Steps.{history_by}
use Rattle.vl_sequence.proofs.Writing.{small_none}
use Rattle.vl_thread_tests.proofs.sequences.write.Goals as goal

pub set-requires-clause-small : goal.set-requires-clause-small
set-requires-clause-small g c = small_none (g.S.Shop.writes c.in-Ok.txn) c.in-Ok.ensures.new

pub commit-requires-clause-sees : goal.commit-requires-clause-sees
commit-requires-clause-sees g c =
    let v = g.S.Shop.knows c.begin.new.self in
    let h = history_by v.origin v.seen in
    (h, [], c.set.ensures.sees h [] c.in-Ok.ensures.sees)
