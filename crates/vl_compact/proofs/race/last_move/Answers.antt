use Rattle.std.proofs.Common.{ap, sym, ◌∙◌, ◌+◌, drop}
use Rattle.std.specs.FinMap.{find}
use Rattle.vl_compact.proofs.Lists.{drop_end, drop_next, find_here, find_later}
use Rattle.vl_model.specs.Keys.{key_cmp}
use Rattle.vl_compact.proofs.race.last_move.Goals as goal

pub returns-then-is_same : goal.returns-then-is_same
returns-then-is_same c =
    let i = c.loop-entry.entry-index in
    let moved = c.args.moved.now in
    let key = c.args.key.now in
    sym (c.loop-entry.invariant ∙ ap (find key_cmp key) (drop_next moved i c.entry-item.result c.loop-entry-test.true c.entry-item.is)
    ∙ find_here key c.entry-item.result (drop (i + 1) moved) (sym c.is_same.ensures ∙ c.if-is_same.true))

pub loop-entry-preserved : goal.loop-entry-preserved
loop-entry-preserved c =
    let i = c.loop-entry.entry-index in
    let moved = c.args.moved.now in
    let key = c.args.key.now in
    c.loop-entry.invariant ∙ ap (find key_cmp key) (drop_next moved i c.entry-item.result c.loop-entry-test.true c.entry-item.is)
    ∙ find_later key c.entry-item.result (drop (i + 1) moved) (sym c.is_same.ensures ∙ c.if-is_same.false)

pub returns : goal.returns
returns c =
    sym (c.loop-entry.invariant
    ∙ ap (find key_cmp c.args.key.now) (drop_end c.args.moved.now c.loop-entry.entry-index c.loop-entry-test.false))
