use Rattle.std.proofs.Common.{sym, ap, ◌∙◌}
use Rattle.std.specs.FinMap.{entries}
use Rattle.vl_txn.proofs.WriteEntries.{entries-writes_of}
use Rattle.vl_txn.proofs.writes.Writes.as_slice.Goals as goal

pub returns-clause-entries : goal.returns-clause-entries
returns-clause-entries c = c.deref.ensures.value ∙ sym (entries-writes_of _ c.self.invariant.sorted) ∙ ap entries c.self.view_is
