use Rattle.std.proofs.Common.{map, ap, sym, ◌∙◌}
use Rattle.std.proofs.lemmas.Result.{IfOk-weaker}
use Rattle.vl_model.specs.EntryOrder.{along}
use Rattle.vl_memtable.proofs.FactLaws.{give_all}
use Rattle.vl_memtable.proofs.memtable.Memtable.cursors.Goals as goal

pub returns : goal.returns
returns c =
    IfOk-weaker c.cursors.result _ _
    (λ cursors h. give_all c.args.way c.args.self.now c.self.inside.runs.items cursors.items (sym c.self.view_is) c.self.invariant
    (h ∙ ap (map (along c.args.way)) c.deref.ensures.value)) c.cursors.ensures
