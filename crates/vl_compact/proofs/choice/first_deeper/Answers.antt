use Rattle.std.specs.Prelude.{Some, None}
use Rattle.std.specs.List.{flat_map}
use Rattle.std.proofs.Common.{◌≡◌, ◌+◌, ◌∙◌, List, ap, sym, subst, drop, get_or}
use Rattle.vl_compact.proofs.Into.{in_level, leading_behind, leading_first, past_level}
use Rattle.vl_compact.proofs.Zips.{from_end, from_item, zip_at, zip_end}
use Rattle.vl_compact.specs.Due.{has_leading}
use Rattle.vl_compact.specs.Laid.{AreBoth, AreTablesOf, IsTableOf}
use Rattle.vl_engine_model.specs.Levels.{first_into}
use Rattle.vl_engine_model.specs.declared.table.Table as laid
use Rattle.vl_table.specs.declared.table.Table.{Table}
use Rattle.vl_version.specs.levels.LevelTables.{all_tables}
use Rattle.vl_compact.proofs.choice.first_deeper.Goals as goal

pub returns-in-Some-clause-laid : goal.returns-in-Some-clause-laid
returns-in-Some-clause-laid g c = λ ls are.
    let i = c.loop-level.level-index in
    let R = IsTableOf g.H.HeldFile.bytes in
    let level = c.as_slice.result.now in
    let is = subst (λ (l : List (Table g.row.H.Denot)). l ≡ get_or c.args.levels.now i l) (sym c.as_slice.ensures) c.level-item.is in
    let at = zip_at (AreTablesOf g.H.HeldFile.bytes) c.args.levels.now ls i level are c.loop-level-test.true is in
    subst (AreBoth R (Some c.in-Some.table.now)) (sym (c.loop-level.invariant.0 ls are))
    (in_level R c.args.segment c.in-Some.table.now at.item (drop i ls) (drop (i + 1) ls) at.rest (c.in-Some.ensures.laid at.item at.is))

pub returns-in-Some-clause-leads : goal.returns-in-Some-clause-leads
returns-in-Some-clause-leads g c =
    let i = c.loop-level.level-index in
    let levels = c.args.levels.now in
    let level = c.as_slice.result.now in
    let is = subst (λ (l : List (Table g.row.H.Denot)). l ≡ get_or levels i l) (sym c.as_slice.ensures) c.level-item.is in
    sym (c.loop-level.invariant.1
    ∙ ap (λ (l : List (List (Table g.row.H.Denot))). has_leading c.args.segment (all_tables l))
    (from_item levels i level c.loop-level-test.true is)
    ∙ leading_first c.args.segment level (all_tables (drop (i + 1) levels)) (sym c.in-Some.ensures.leads))

pub loop-level-preserved : goal.loop-level-preserved
loop-level-preserved g c = (
  λ ls are.
      let i = c.loop-level.level-index in
      let R = IsTableOf g.H.HeldFile.bytes in
      let level = c.as_slice.result.now in
      let is = subst (λ (l : List (Table g.row.H.Denot)). l ≡ get_or c.args.levels.now i l) (sym c.as_slice.ensures) c.level-item.is in
      let at = zip_at (AreTablesOf g.H.HeldFile.bytes) c.args.levels.now ls i level are c.loop-level-test.true is in
      c.loop-level.invariant.0 ls are
      ∙ past_level R c.args.segment at.item (drop i ls) (drop (i + 1) ls) at.rest (c.in-None.ensures.laid at.item at.is),
  let i = c.loop-level.level-index in
      let levels = c.args.levels.now in
      let level = c.as_slice.result.now in
      let is = subst (λ (l : List (Table g.row.H.Denot)). l ≡ get_or levels i l) (sym c.as_slice.ensures) c.level-item.is in
      c.loop-level.invariant.1
      ∙ ap (λ (l : List (List (Table g.row.H.Denot))). has_leading c.args.segment (all_tables l))
      (from_item levels i level c.loop-level-test.true is)
      ∙ leading_behind c.args.segment level (all_tables (drop (i + 1) levels)) (sym c.in-None.ensures.leads),
)

pub returns-clause-laid : goal.returns-clause-laid
returns-clause-laid g c = λ ls are.
    let R = IsTableOf g.H.HeldFile.bytes in
    subst (AreBoth R None)
    (sym (c.loop-level.invariant.0 ls are ∙ ap (λ (l : List (List laid.Table)). first_into c.args.segment (flat_map (λ level. level) l))
    (zip_end (AreTablesOf g.H.HeldFile.bytes) c.args.levels.now ls c.loop-level.level-index are c.loop-level-test.false))) tt

pub returns-clause-leads : goal.returns-clause-leads
returns-clause-leads g c =
    sym (c.loop-level.invariant.1
    ∙ ap (λ (l : List (List (Table g.row.H.Denot))). has_leading c.args.segment (all_tables l))
    (from_end c.args.levels.now c.loop-level.level-index c.loop-level-test.false))
