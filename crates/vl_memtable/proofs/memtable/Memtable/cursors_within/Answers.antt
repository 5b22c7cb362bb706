use Rattle.std.proofs.Common.{List, map, ap, sym, ◌∙◌}
use Rattle.std.proofs.lemmas.Result.{IfOk-weaker}
use Rattle.vl_model.specs.declared.entry.Entry.{Entry}
use Rattle.vl_model.specs.EntryOrder.{along, within}
use Rattle.vl_memtable.proofs.FactLaws.{give_within}
use Rattle.vl_memtable.proofs.memtable.Memtable.cursors_within.Goals as goal

pub returns : goal.returns
returns c =
    IfOk-weaker c.cursors_within.result _ _
    (λ cursors h. give_within c.args.span.now c.args.way c.args.self.now c.self.inside.runs.items cursors.items
    (sym c.self.view_is) c.self.invariant
    (h ∙ ap (map (λ (run : List Entry). along c.args.way (within c.args.span.now run))) c.deref.ensures.value)) c.cursors_within.ensures
