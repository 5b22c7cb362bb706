use Rattle.std.specs.Prelude.{Err, None, Ok}
use Rattle.std.proofs.Common.{◌∙◌, ◌∷◌, [], ap, subst, ◌+◌, suc, List, take, drop}
use Rattle.std.proofs.lemmas.List.{take_all}
use Rattle.std.proofs.lemmas.Result.{err_from_is_err_and}
use Rattle.vl_table.specs.declared.table.Table.{Table}
use Rattle.vl_version.specs.levels.Marks.{TellsFirst}
use Rattle.vl_version.proofs.looking.Parts.{split_at, take_next}
use Rattle.vl_version.proofs.marking.TellLaws.{failed_there, found_there, none_asked, none_there}
use Rattle.vl_version.proofs.levels.mark.first_in_each.Goals as goal

pub loop-table-init : goal.loop-table-init
loop-table-init g c = none_asked g.H.HeldFile.bytes g.R.Reader.faults c.args.asked (Unit {0}) c.args.reader.now

pub loop-table-preserved : goal.loop-table-preserved
loop-table-preserved g c =
    let i = c.loop-table.table-index in
    let ts = c.args.tables.now in
    let t = c.table-item.result in
    none_there g.H.HeldFile.bytes g.R.Reader.faults c.args.asked (take i ts) (t ∷ []) (take (i + 1) ts) (Unit {0}) (Unit {0}) (Unit {0})
    c.args.reader.now c.loop-table.reader c.mark_of.new.reader (λ u. u) (λ u. u) c.loop-table.invariant c.in_ok-input.field-0
    (take_next ts i t c.loop-table-test.true c.table-item.is) c.in_default.is c.in_ok-input.ensures

pub returns-in_err-input : goal.returns-in_err-input
returns-in_err-input g c =
    let i = c.loop-table.table-index in
    let ts = c.args.tables.now in
    let t = c.table-item.result in
    let p = err_from_is_err_and c.from_residual.result c.from_residual.ensures.1 in
    failed_there g.H.HeldFile.bytes g.R.Reader.faults c.args.asked (take i ts) (t ∷ []) ts (Unit {0}) (Unit {0}) (Unit {0})
    c.args.reader.now c.loop-table.reader c.mark_of.new.reader (λ u. u) (λ u. u) c.loop-table.invariant (drop (suc i) ts)
    c.in_err-input.field-0.0 c.from_residual.result (split_at ts i t c.loop-table-test.true c.table-item.is) (p.1 ∙ ap Err p.2)
    c.in_err-input.ensures

pub returns-in-Some : goal.returns-in-Some
returns-in-Some g c =
    let i = c.loop-table.table-index in
    let ts = c.args.tables.now in
    let t = c.table-item.result in
    found_there g.H.HeldFile.bytes g.R.Reader.faults c.args.asked (take i ts) (t ∷ []) ts (Unit {0}) (Unit {0}) (Unit {0})
    c.args.reader.now c.loop-table.reader c.mark_of.new.reader (λ u. u) (λ u. u) c.loop-table.invariant (drop (suc i) ts)
    c.in_ok-input.field-0 c.in-Some.input (split_at ts i t c.loop-table-test.true c.table-item.is) c.in-Some.is c.in_ok-input.ensures

pub returns : goal.returns
returns g c =
    subst (λ (l : List (Table g.row.H.Denot)). TellsFirst g.H.HeldFile.bytes g.R.Reader.faults c.args.asked l (Unit {0})
    c.args.reader.now c.loop-table.reader (Ok None))
    (take_all c.loop-table.table-index c.args.tables.now c.loop-table-test.false) c.loop-table.invariant
