use Rattle.std.proofs.Common.{sym, ap, ◌∙◌, ◌==◌}
use Rattle.std.specs.FinMap.{len}
use Rattle.vl_txn.proofs.WriteEntries.{len-writes_of}
use Rattle.vl_txn.proofs.writes.Writes.is_empty.Goals as goal

pub returns : goal.returns
returns c = c.is_empty.ensures
    ∙ ap (λ n. n == 0) (c.self.inside.entries.ok.0 ∙ sym (len-writes_of _ c.self.invariant.sorted) ∙ ap len c.self.view_is)
