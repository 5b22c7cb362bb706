use Rattle.std.proofs.Common.{refl}
use Rattle.vl_txn.proofs.Allowing.{allowed}
use Rattle.vl_txn.proofs.WriteEntries.{AreWrites-put, writes_of-put}
use Rattle.vl_txn.proofs.writes.Writes.insert.Goals as goal

pub invariant_of-self-2 : goal.invariant_of-self-2
invariant_of-self-2 c =
    let is = c.requires c.args.change refl in
    let parts = allowed c.args.self.now c.args.key.now c.args.change is.0 in
    AreWrites-put _ _ _ _ _ c.args.key.now c.args.change c.self.invariant c.self.view_is c.in_ok-put.ensures.ok
    (record { key = parts.0; value = parts.1 }) is.1 parts.2

pub returns-clause-ok : goal.returns-clause-ok
returns-clause-ok c = writes_of-put _ _ _ _ c.args.key.now c.args.change c.self.invariant c.self.view_is c.in_ok-put.ensures.ok
