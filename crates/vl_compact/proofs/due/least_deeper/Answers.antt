use Rattle.std.proofs.Common.{◌≡◌, ◌+◌, ◌∙◌, List, ap, sym, subst, drop, get_or}
use Rattle.vl_compact.proofs.DueLaws.{due_here, due_next, full_here, full_next}
use Rattle.vl_compact.proofs.Zips.{from_end, from_item, zip_at, zip_end}
use Rattle.vl_compact.specs.Due.{has_due}
use Rattle.vl_compact.specs.Laid.{AreTablesOf}
use Rattle.vl_engine_model.specs.Levels.{due_from}
use Rattle.vl_table.specs.declared.table.Table.{Table}
use Rattle.vl_compact.proofs.due.least_deeper.Goals as goal

pub returns-then-is_due-clause-due : goal.returns-then-is_due-clause-due
returns-then-is_due-clause-due g c = λ ls are.
    let i = c.loop-at.at in
    let level = c.as_slice.result.now in
    let is = subst (λ (l : List (Table g.row.H.Denot)). l ≡ get_or c.args.levels.now i l) (sym c.as_slice.ensures) c.index-levels-at.is in
    let at = zip_at (AreTablesOf g.H.HeldFile.bytes) c.args.levels.now ls i level are c.loop-at-test.true is in
    sym (c.loop-at.invariant.0 ls are
    ∙ due_here (i + 1) at.item (drop i ls) (drop (i + 1) ls) at.rest (sym (c.is_due.ensures.due at.item at.is) ∙ c.if-is_due.true))

pub returns-then-is_due-clause-shallow : goal.returns-then-is_due-clause-shallow
returns-then-is_due-clause-shallow g c = c.is_due.ensures.shallow c.if-is_due.true

pub returns-then-is_due-clause-some : goal.returns-then-is_due-clause-some
returns-then-is_due-clause-some g c =
    let i = c.loop-at.at in
    let levels = c.args.levels.now in
    let level = c.as_slice.result.now in
    let is = subst (λ (l : List (Table g.row.H.Denot)). l ≡ get_or levels i l) (sym c.as_slice.ensures) c.index-levels-at.is in
    sym (c.loop-at.invariant.1 ∙ full_here g.H.HeldFile.size (i + 1) level (drop i levels) (drop (i + 1) levels)
    (from_item levels i level c.loop-at-test.true is) (sym c.is_due.ensures.full ∙ c.if-is_due.true))

pub loop-at-preserved : goal.loop-at-preserved
loop-at-preserved g c = (
  λ ls are.
      let i = c.loop-at.at in
      let level = c.as_slice.result.now in
      let is = subst (λ (l : List (Table g.row.H.Denot)). l ≡ get_or c.args.levels.now i l) (sym c.as_slice.ensures) c.index-levels-at.is in
      let at = zip_at (AreTablesOf g.H.HeldFile.bytes) c.args.levels.now ls i level are c.loop-at-test.true is in
      c.loop-at.invariant.0 ls are
      ∙ due_next (i + 1) at.item (drop i ls) (drop (i + 1) ls) at.rest (sym (c.is_due.ensures.due at.item at.is) ∙ c.if-is_due.false),
  let i = c.loop-at.at in
      let levels = c.args.levels.now in
      let level = c.as_slice.result.now in
      let is = subst (λ (l : List (Table g.row.H.Denot)). l ≡ get_or levels i l) (sym c.as_slice.ensures) c.index-levels-at.is in
      c.loop-at.invariant.1 ∙ full_next g.H.HeldFile.size (i + 1) level (drop i levels) (drop (i + 1) levels)
      (from_item levels i level c.loop-at-test.true is) (sym c.is_due.ensures.full ∙ c.if-is_due.false),
)

pub returns-clause-due : goal.returns-clause-due
returns-clause-due g c = λ ls are.
    sym (c.loop-at.invariant.0 ls are ∙ ap (due_from (c.loop-at.at + 1))
    (zip_end (AreTablesOf g.H.HeldFile.bytes) c.args.levels.now ls c.loop-at.at are c.loop-at-test.false))

pub returns-clause-some : goal.returns-clause-some
returns-clause-some g c =
    sym (c.loop-at.invariant.1 ∙ ap (has_due g.H.HeldFile.size (c.loop-at.at + 1))
    (from_end c.args.levels.now c.loop-at.at c.loop-at-test.false))
