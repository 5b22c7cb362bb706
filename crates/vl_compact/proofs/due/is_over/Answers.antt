use Rattle.std.proofs.Common.{◌+◌, ◌∙◌, ap, sym, drop}
use Rattle.vl_compact.proofs.DueLaws.{nothing_over, over_here, over_next}
use Rattle.vl_compact.proofs.Of.{length_is}
use Rattle.vl_compact.proofs.Zips.{from_end, from_item, zip_at, zip_end}
use Rattle.vl_compact.specs.Laid.{IsTableOf}
use Rattle.vl_engine_model.specs.declared.table.Table as laid
use Rattle.vl_table.specs.declared.table.Table.{Table}
use Rattle.vl_compact.proofs.due.is_over.Goals as goal

pub returns-then-left-length-clause-laid : goal.returns-then-left-length-clause-laid
returns-then-left-length-clause-laid g c = λ ts are.
    let i = c.loop-table.table-index in
    let at = zip_at (IsTableOf g.H.HeldFile.bytes) c.args.tables.now ts i c.table-item.result are c.loop-table-test.true c.table-item.is in
    let long = length_is g.H.HeldFile.bytes g.H.HeldFile.size g.met.H.HeldFile.sized c.table-item.result at.item at.is in
    sym (c.loop-table.invariant.0 ts are ∙ over_here (λ (t : laid.Table). t.length) c.loop-table.left c.len-length.result at.item
    (drop i ts) (drop (i + 1) ts) at.rest
    (c.len-length.ensures ∙ ap g.H.HeldFile.size c.held.ensures ∙ long) c.if-left-length.true)

pub returns-then-left-length-clause-over : goal.returns-then-left-length-clause-over
returns-then-left-length-clause-over g c =
    let i = c.loop-table.table-index in
    let tables = c.args.tables.now in
    sym (c.loop-table.invariant.1 ∙ over_here (λ (t : Table g.row.H.Denot). g.H.HeldFile.size t.held) c.loop-table.left c.len-length.result
    c.table-item.result (drop i tables) (drop (i + 1) tables) (from_item tables i c.table-item.result c.loop-table-test.true c.table-item.is)
    (c.len-length.ensures ∙ ap g.H.HeldFile.size c.held.ensures) c.if-left-length.true)

pub loop-table-preserved : goal.loop-table-preserved
loop-table-preserved g c = (
  λ ts are.
      let i = c.loop-table.table-index in
      let at = zip_at (IsTableOf g.H.HeldFile.bytes) c.args.tables.now ts i c.table-item.result are c.loop-table-test.true c.table-item.is in
      let long = length_is g.H.HeldFile.bytes g.H.HeldFile.size g.met.H.HeldFile.sized c.table-item.result at.item at.is in
      c.loop-table.invariant.0 ts are ∙ over_next (λ (t : laid.Table). t.length) c.loop-table.left c.len-length.result at.item
      (drop i ts) (drop (i + 1) ts) at.rest
      (c.len-length.ensures ∙ ap g.H.HeldFile.size c.held.ensures ∙ long) c.if-left-length.false,
  let i = c.loop-table.table-index in
      let tables = c.args.tables.now in
      c.loop-table.invariant.1 ∙ over_next (λ (t : Table g.row.H.Denot). g.H.HeldFile.size t.held) c.loop-table.left c.len-length.result
      c.table-item.result (drop i tables) (drop (i + 1) tables) (from_item tables i c.table-item.result c.loop-table-test.true c.table-item.is)
      (c.len-length.ensures ∙ ap g.H.HeldFile.size c.held.ensures) c.if-left-length.false,
)

pub returns-clause-laid : goal.returns-clause-laid
returns-clause-laid g c = λ ts are.
    sym (c.loop-table.invariant.0 ts are ∙ nothing_over (λ (t : laid.Table). t.length) c.loop-table.left (drop c.loop-table.table-index ts)
    (zip_end (IsTableOf g.H.HeldFile.bytes) c.args.tables.now ts c.loop-table.table-index are c.loop-table-test.false))

pub returns-clause-over : goal.returns-clause-over
returns-clause-over g c =
    sym (c.loop-table.invariant.1 ∙ nothing_over (λ (t : Table g.row.H.Denot). g.H.HeldFile.size t.held) c.loop-table.left
    (drop c.loop-table.table-index c.args.tables.now) (from_end c.args.tables.now c.loop-table.table-index c.loop-table-test.false))
