use Rattle.std.proofs.Common.{List, subst, sym}
use Rattle.std.specs.Prelude.{Option, map}
use Rattle.vl_back.proofs.Adding.{add_fault, all_placed, begun_with, first_may_come, no_memory, none_tabled, now_told, rest_of, same_fault}
use Rattle.vl_back.proofs.table.StagedTable.of.Goals as goal
use Rattle.vl_back.specs.Tables.{AreSpellable}
use Rattle.vl_model.specs.Cursors.{Gives}
use Rattle.vl_model.specs.Placement.{placed}
use Rattle.vl_model.specs.declared.entry.Entry.{Entry}
use Rattle.vl_table.specs.writer.Writing.{IsWriting}

pub returns-in_err-first-clause-lawful : goal.returns-in_err-first-clause-lawful
returns-in_err-first-clause-lawful g c = λ es told tabled. no_memory c.from_residual.result c.from_residual.ensures.1

pub returns-in_default-clause-lawful : goal.returns-in_default-clause-lawful
returns-in_default-clause-lawful g c = λ es told tabled refused.
    let before = g.C.Cursor.left c.args.entries.now in
    let now = g.C.Cursor.left c.next.new.self in
    none_tabled es before now told (subst (λ (o : Option Entry). Gives before now o) c.in_default.is c.in_ok-first.ensures.given) tabled

pub returns-in_err-writer-clause-lawful : goal.returns-in_err-writer-clause-lawful
returns-in_err-writer-clause-lawful g c = λ es told tabled.
    let before = g.C.Cursor.left c.args.entries.now in
    let now = g.C.Cursor.left c.next.new.self in
    let gives = subst (λ (o : Option Entry). Gives before now o) c.in-Some.is c.in_ok-first.ensures.given in
    add_fault _ c.from_residual-in_err-writer.result c.from_residual-in_err-writer.ensures.1 _
    (first_may_come es c.in-Some.first before now told gives c.placed-spelled.result c.placed-spelled.ensures c.numbers_fit.ensures tabled)
    c.in_err-writer.ensures.refused

pub returns-in_err-add_left-clause-lawful : goal.returns-in_err-add_left-clause-lawful
returns-in_err-add_left-clause-lawful g c = λ es told tabled.
    let before = g.C.Cursor.left c.args.entries.now in
    let now = g.C.Cursor.left c.next.new.self in
    let first = c.in-Some.first in
    let gives = subst (λ (o : Option Entry). Gives before now o) c.in-Some.is c.in_ok-first.ensures.given in
    let writing = begun_with es first before now told gives c.args.number c.placed-spelled.result c.placed-spelled.ensures _ _ _
    c.begin.new.out.items c.new-bytes.ensures.items c.in_ok-writer.ensures.header c.in_ok-writer.ensures.begun in
    same_fault _ c.from_residual-in_err-add_left.result c.from_residual-in_err-add_left.ensures.1
    (c.in_err-add_left.ensures.lawful c.args.number _ (rest_of es first before now told gives)
    writing (now_told es first before now told gives)
    (subst AreSpellable (sym (all_placed es first before now told gives)) tabled))

pub returns-clause-spelled : goal.returns-clause-spelled
returns-clause-spelled g c = λ es told.
    let before = g.C.Cursor.left c.args.entries.now in
    let now = g.C.Cursor.left c.next.new.self in
    let first = c.in-Some.first in
    let gives = subst (λ (o : Option Entry). Gives before now o) c.in-Some.is c.in_ok-first.ensures.given in
    let writing = begun_with es first before now told gives c.args.number c.placed-spelled.result c.placed-spelled.ensures _ _ _
    c.begin.new.out.items c.new-bytes.ensures.items c.in_ok-writer.ensures.header c.in_ok-writer.ensures.begun in
    c.finished.ensures.spelled c.args.number (map placed es)
    (subst (λ (l : List Entry). IsWriting c.add_left.new.writer c.args.number l c.add_left.new.bytes.items)
    (all_placed es first before now told gives)
    (c.in_ok-add_left.ensures.added c.args.number _ (rest_of es first before now told gives)
    writing (now_told es first before now told gives)))
