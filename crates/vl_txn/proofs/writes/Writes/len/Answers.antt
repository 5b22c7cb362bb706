use Rattle.std.proofs.Common.{sym, ap, ◌∙◌, arith}
use Rattle.std.specs.FinMap.{len}
use Rattle.vl_txn.proofs.WriteEntries.{len-writes_of}
use Rattle.vl_txn.proofs.writes.Writes.len.Goals as goal

pub returns-clause-value : goal.returns-clause-value
returns-clause-value c = c.len.ensures ∙ c.self.inside.entries.ok.0 ∙ sym (len-writes_of _ c.self.invariant.sorted) ∙ ap len c.self.view_is

pub returns-clause-few : goal.returns-clause-few
returns-clause-few c = omega (arith, c.len.ensures, c.self.inside.entries.ok.0, c.self.invariant.few)
