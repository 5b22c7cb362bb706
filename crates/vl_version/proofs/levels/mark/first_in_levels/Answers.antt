use Rattle.std.specs.Prelude.{Err, None, Ok}
use Rattle.std.proofs.Common.{◌≡◌, ◌∙◌, ap, subst, sym, ◌+◌, suc, List, take, drop, get_or}
use Rattle.std.proofs.lemmas.List.{take_all}
use Rattle.std.proofs.lemmas.Result.{err_from_is_err_and}
use Rattle.vl_table.specs.declared.table.Table.{Table}
use Rattle.vl_version.specs.levels.LevelTables.{AreAllApart, AreApart, all_tables}
use Rattle.vl_version.specs.levels.Marks.{TellsFirst}
use Rattle.vl_version.proofs.looking.Parts.{all_get, tables-next, tables-split}
use Rattle.vl_version.proofs.marking.TellLaws.{failed_there, found_there, none_asked, none_there}
use Rattle.vl_version.proofs.levels.mark.first_in_levels.Goals as goal

pub loop-level-init : goal.loop-level-init
loop-level-init g c = none_asked g.H.HeldFile.bytes g.R.Reader.faults c.args.asked (AreAllApart c.args.levels.now) c.args.reader.now

pub loop-level-preserved : goal.loop-level-preserved
loop-level-preserved g c =
    let i = c.loop-level.level-index in
    let ls = c.args.levels.now in
    let level = c.as_slice.result.now in
    let is = subst (λ (l : List (Table g.row.H.Denot)). l ≡ get_or ls i l) (sym c.as_slice.ensures) c.level-item.is in
    none_there g.H.HeldFile.bytes g.R.Reader.faults c.args.asked (all_tables (take i ls)) level (all_tables (take (i + 1) ls))
    (AreAllApart ls) (AreApart level) (AreAllApart ls) c.args.reader.now c.loop-level.reader c.mark_in_level.new.reader (λ apart. apart)
    (λ apart. subst AreApart (sym is) (all_get AreApart ls i level apart c.loop-level-test.true)) c.loop-level.invariant
    c.in_ok-input.field-0
    (tables-next ls i level c.loop-level-test.true is) c.in_default.is c.in_ok-input.ensures

pub returns-in_err-input : goal.returns-in_err-input
returns-in_err-input g c =
    let i = c.loop-level.level-index in
    let ls = c.args.levels.now in
    let level = c.as_slice.result.now in
    let is = subst (λ (l : List (Table g.row.H.Denot)). l ≡ get_or ls i l) (sym c.as_slice.ensures) c.level-item.is in
    let p = err_from_is_err_and c.from_residual.result c.from_residual.ensures.1 in
    failed_there g.H.HeldFile.bytes g.R.Reader.faults c.args.asked (all_tables (take i ls)) level (all_tables ls)
    (AreAllApart ls) (AreApart level) (AreAllApart ls) c.args.reader.now c.loop-level.reader c.mark_in_level.new.reader (λ apart. apart)
    (λ apart. subst AreApart (sym is) (all_get AreApart ls i level apart c.loop-level-test.true)) c.loop-level.invariant
    (all_tables (drop (suc i) ls))
    c.in_err-input.field-0.0 c.from_residual.result (tables-split ls i level c.loop-level-test.true is) (p.1 ∙ ap Err p.2)
    c.in_err-input.ensures

pub returns-in-Some : goal.returns-in-Some
returns-in-Some g c =
    let i = c.loop-level.level-index in
    let ls = c.args.levels.now in
    let level = c.as_slice.result.now in
    let is = subst (λ (l : List (Table g.row.H.Denot)). l ≡ get_or ls i l) (sym c.as_slice.ensures) c.level-item.is in
    found_there g.H.HeldFile.bytes g.R.Reader.faults c.args.asked (all_tables (take i ls)) level (all_tables ls)
    (AreAllApart ls) (AreApart level) (AreAllApart ls) c.args.reader.now c.loop-level.reader c.mark_in_level.new.reader (λ apart. apart)
    (λ apart. subst AreApart (sym is) (all_get AreApart ls i level apart c.loop-level-test.true)) c.loop-level.invariant
    (all_tables (drop (suc i) ls))
    c.in_ok-input.field-0 c.in-Some.input (tables-split ls i level c.loop-level-test.true is) c.in-Some.is c.in_ok-input.ensures

pub returns : goal.returns
returns g c =
    subst (λ (l : List (List (Table g.row.H.Denot))). TellsFirst g.H.HeldFile.bytes g.R.Reader.faults c.args.asked
    (all_tables l) (AreAllApart c.args.levels.now)
    c.args.reader.now c.loop-level.reader (Ok None))
    (take_all c.loop-level.level-index c.args.levels.now c.loop-level-test.false) c.loop-level.invariant
