use Rattle.std.proofs.Common.{◌++◌, ◌∷◌, [], ap, ◌∙◌}
use Rattle.vl_model.specs.declared.entry.Entry.{Entry}
use Rattle.vl_recover.proofs.opening.Contents.{one_put}
use Rattle.vl_recover.proofs.content.with_records.Goals as goal

pub loop-record-preserved : goal.loop-record-preserved
loop-record-preserved c =
    let all = c.loop-record.all.items in
    one_put c.pop.new.self.items c.loop-record.left.items all c.push.new.self.items c.in-Some.record
    c.args.records.items c.args.entries.items
    c.in-Some.ensures.items (c.in_ok-push.ensures.items ∙ ap (λ (e : Entry). all ++ e ∷ []) c.entry_for.ensures) c.loop-record.invariant
