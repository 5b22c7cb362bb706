use Rattle.std.proofs.Common.{◌≡◌, ◌+◌, ◌∙◌, List, ap, sym, subst, drop, get_or}
use Rattle.vl_compact.proofs.Finding.{level_here, level_next}
use Rattle.vl_compact.proofs.Zips.{zip_at, zip_end}
use Rattle.vl_compact.specs.Laid.{AreTablesOf}
use Rattle.vl_compact.specs.Places.{input_from}
use Rattle.vl_table.specs.declared.table.Table.{Table}
use Rattle.vl_compact.proofs.replace.deeper_place.Goals as goal

pub returns-in-Some : goal.returns-in-Some
returns-in-Some g c = λ ls are.
    let i = c.loop-at.at in
    let level = c.as_slice.result.now in
    let is = subst (λ (l : List (Table g.row.H.Denot)). l ≡ get_or c.args.levels.now i l) (sym c.as_slice.ensures) c.index-levels-at.is in
    let at = zip_at (AreTablesOf g.H.HeldFile.bytes) c.args.levels.now ls i level are c.loop-at-test.true is in
    level_here c.args.inputs.now (i + 1) c.in-Some.position at.item (drop i ls) (drop (i + 1) ls) at.rest
    (sym c.in-Some.is ∙ c.input_among.ensures at.item at.is) ∙ sym (c.loop-at.invariant ls are)

pub loop-at-preserved : goal.loop-at-preserved
loop-at-preserved g c = λ ls are.
    let i = c.loop-at.at in
    let level = c.as_slice.result.now in
    let is = subst (λ (l : List (Table g.row.H.Denot)). l ≡ get_or c.args.levels.now i l) (sym c.as_slice.ensures) c.index-levels-at.is in
    let at = zip_at (AreTablesOf g.H.HeldFile.bytes) c.args.levels.now ls i level are c.loop-at-test.true is in
    c.loop-at.invariant ls are ∙ level_next c.args.inputs.now (i + 1) at.item (drop i ls) (drop (i + 1) ls) at.rest
    (sym c.in_default.is ∙ c.input_among.ensures at.item at.is)

pub returns : goal.returns
returns g c = λ ls are.
    sym (c.loop-at.invariant ls are ∙ ap (input_from (c.loop-at.at + 1) c.args.inputs.now)
    (zip_end (AreTablesOf g.H.HeldFile.bytes) c.args.levels.now ls c.loop-at.at are c.loop-at-test.false))
