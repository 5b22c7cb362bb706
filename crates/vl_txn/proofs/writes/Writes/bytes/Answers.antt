use Rattle.vl_txn.proofs.WriteEntries.{bytes-is}
use Rattle.vl_txn.proofs.writes.Writes.bytes.Goals as goal

pub returns-clause-value : goal.returns-clause-value
returns-clause-value c = bytes-is _ _ _ c.self.invariant c.self.view_is

pub returns-clause-bounded : goal.returns-clause-bounded
returns-clause-bounded c = c.self.invariant.bounded
