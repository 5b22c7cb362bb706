use Rattle.std.proofs.Common.{ap, ◌∙◌}
use Rattle.vl_txn.specs.Writes.{writes_of}
use Rattle.vl_txn.proofs.WriteEntries.{writes_of-none}
use Rattle.vl_txn.proofs.writes.Writes.new.Goals as goal

pub returns : goal.returns
returns c = ap writes_of c.new.ensures.items ∙ writes_of-none
