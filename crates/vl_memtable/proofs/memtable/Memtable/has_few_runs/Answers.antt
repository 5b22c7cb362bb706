use Rattle.std.proofs.Common.{sym}
use Rattle.vl_memtable.proofs.FactLaws.{few-runs}
use Rattle.vl_memtable.proofs.memtable.Memtable.has_few_runs.Goals as goal

pub returns : goal.returns
returns c = few-runs c.args.self.now c.self.inside.runs.items (sym c.self.view_is) c.self.invariant
