use Rattle.std.proofs.Common.{◌==◌, length, ap, ◌∙◌}
use Rattle.vl_memtable.specs.Contents.{Contents}
use Rattle.vl_memtable.proofs.RunLists.{is_empty-runs}
use Rattle.vl_memtable.proofs.memtable.Memtable.is_empty.Goals as goal

pub returns : goal.returns
returns c =
    is_empty-runs c.self.inside.runs.items c.self.invariant c.is_empty.result c.args.self.now.entries
    (c.is_empty.ensures ∙ ap (λ l. length l == 0) c.as_slice.ensures.value)
    (ap (λ (m : Contents). m.entries) c.self.view_is)
