use Rattle.std.proofs.Common.{sym, ap, ◌∙◌}
use Rattle.vl_model.specs.Winners.{winner}
use Rattle.vl_model.specs.laws.WinnerLaws.{winner-in_order}
use Rattle.vl_memtable.specs.Contents.{Contents, all_of}
use Rattle.vl_memtable.proofs.memtable.Memtable.find.Goals as goal

pub returns : goal.returns
returns c =
    let key = c.args.key.now in
    let number = c.args.number in
    c.find.ensures
    ∙ ap (λ l. winner (all_of l) key number) c.deref.ensures.value
    ∙ sym (winner-in_order key number (all_of c.self.inside.runs.items))
    ∙ ap (λ (m : Contents). winner m.entries key number) c.self.view_is
