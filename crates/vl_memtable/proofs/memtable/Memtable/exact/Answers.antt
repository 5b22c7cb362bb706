use Rattle.std.proofs.Common.{sym, ap, ◌∙◌}
use Rattle.vl_model.specs.Winners.{exact}
use Rattle.vl_model.specs.laws.Exact.{exact-in_order}
use Rattle.vl_memtable.specs.Contents.{Contents, all_of}
use Rattle.vl_memtable.proofs.memtable.Memtable.exact.Goals as goal

pub returns : goal.returns
returns c =
    let key = c.args.key.now in
    let version = c.args.version in
    c.exact.ensures
    ∙ ap (λ l. exact (all_of l) key version) c.deref.ensures.value
    ∙ sym (exact-in_order key version (all_of c.self.inside.runs.items))
    ∙ ap (λ (m : Contents). exact m.entries key version) c.self.view_is
