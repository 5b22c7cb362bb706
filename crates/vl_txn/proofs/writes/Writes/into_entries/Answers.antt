use Rattle.std.proofs.Common.{sym, ap, ◌∙◌}
use Rattle.std.specs.FinMap.{entries}
use Rattle.vl_txn.proofs.WriteEntries.{entries-writes_of}
use Rattle.vl_txn.proofs.writes.Writes.into_entries.Goals as goal

pub returns : goal.returns
returns c = sym (entries-writes_of _ c.self.invariant.sorted) ∙ ap entries c.self.view_is
