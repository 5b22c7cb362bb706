use Rattle.std.proofs.Common.{◌++◌, ◌∷◌, [], ap, subst, ◌∙◌}
use Rattle.vl_model.specs.Entries.{in_order}
use Rattle.vl_model.specs.EntryOrder.{IsInOrder}
use Rattle.vl_memtable.specs.Contents.{all_of}
use Rattle.vl_memtable.proofs.AsOne.{as_one, over_all, over_next}
use Rattle.vl_memtable.proofs.over.over.Goals as goal

pub loop-older-preserved : goal.loop-older-preserved
loop-older-preserved c =
    over_next c.args.run c.loop-older.front c.in_ok-front.front c.args.runs.now c.loop-older.older-index
    c.older-item.result c.loop-older-test.true c.older-item.is c.loop-older.invariant c.in_ok-front.ensures

pub returns-clause-entries : goal.returns-clause-entries
returns-clause-entries c =
    ap (λ l. in_order (all_of l)) (c.in_ok-push.ensures.items ∙ ap (λ l. l ++ c.loop-older.front ∷ []) c.new-all.ensures.items)
    ∙ over_all c.args.run c.loop-older.front c.args.runs.now c.loop-older.older-index c.loop-older-test.false c.loop-older.invariant

pub returns-clause-lengths : goal.returns-clause-lengths
returns-clause-lengths c =
    as_one c.loop-older.front c.push.new.self.items c.loop-older.invariant.some
    (subst IsInOrder c.as_slice-2.ensures.entries c.as_slice-2.ensures.in_order)
    (c.in_ok-push.ensures.items ∙ ap (λ l. l ++ c.loop-older.front ∷ []) c.new-all.ensures.items)
