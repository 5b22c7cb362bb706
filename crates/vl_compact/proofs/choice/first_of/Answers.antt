use Rattle.std.specs.Prelude.{Some, None}
use Rattle.std.proofs.Common.{◌+◌, ◌∙◌, ap, sym, subst, drop}
use Rattle.vl_compact.proofs.Into.{into_here, into_next, leading_here, leading_next}
use Rattle.vl_compact.proofs.Zips.{from_end, from_item, zip_at, zip_end}
use Rattle.vl_compact.specs.Due.{has_leading}
use Rattle.vl_compact.specs.Laid.{AreBoth, IsTableOf}
use Rattle.vl_engine_model.specs.Levels.{first_into}
use Rattle.vl_compact.proofs.choice.first_of.Goals as goal

pub returns-then-has_point-clause-laid : goal.returns-then-has_point-clause-laid
returns-then-has_point-clause-laid g c = λ ts are.
    let i = c.loop-table.table-index in
    let R = IsTableOf g.H.HeldFile.bytes in
    let at = zip_at R c.args.tables.now ts i c.table-item.result are c.loop-table-test.true c.table-item.is in
    subst (AreBoth R (Some c.table-item.result))
    (sym (c.loop-table.invariant.0 ts are ∙ into_here c.args.segment at.item (drop i ts) (drop (i + 1) ts) at.rest
    (sym (c.has_point.ensures.laid at.item at.is) ∙ c.if-has_point.true))) at.is

pub returns-then-has_point-clause-leads : goal.returns-then-has_point-clause-leads
returns-then-has_point-clause-leads g c =
    let i = c.loop-table.table-index in
    let tables = c.args.tables.now in
    sym (c.loop-table.invariant.1 ∙ leading_here c.args.segment c.table-item.result (drop i tables) (drop (i + 1) tables)
    (from_item tables i c.table-item.result c.loop-table-test.true c.table-item.is) (sym c.has_point.ensures.leads ∙ c.if-has_point.true))

pub loop-table-preserved : goal.loop-table-preserved
loop-table-preserved g c = (
  λ ts are.
      let i = c.loop-table.table-index in
      let at = zip_at (IsTableOf g.H.HeldFile.bytes) c.args.tables.now ts i c.table-item.result are c.loop-table-test.true c.table-item.is in
      c.loop-table.invariant.0 ts are ∙ into_next c.args.segment at.item (drop i ts) (drop (i + 1) ts) at.rest
      (sym (c.has_point.ensures.laid at.item at.is) ∙ c.if-has_point.false),
  let i = c.loop-table.table-index in
      let tables = c.args.tables.now in
      c.loop-table.invariant.1 ∙ leading_next c.args.segment c.table-item.result (drop i tables) (drop (i + 1) tables)
      (from_item tables i c.table-item.result c.loop-table-test.true c.table-item.is) (sym c.has_point.ensures.leads ∙ c.if-has_point.false),
)

pub returns-clause-laid : goal.returns-clause-laid
returns-clause-laid g c = λ ts are.
    let R = IsTableOf g.H.HeldFile.bytes in
    subst (AreBoth R None)
    (sym (c.loop-table.invariant.0 ts are ∙ ap (first_into c.args.segment)
    (zip_end R c.args.tables.now ts c.loop-table.table-index are c.loop-table-test.false))) tt

pub returns-clause-leads : goal.returns-clause-leads
returns-clause-leads g c =
    sym (c.loop-table.invariant.1 ∙ ap (has_leading c.args.segment)
    (from_end c.args.tables.now c.loop-table.table-index c.loop-table-test.false))
