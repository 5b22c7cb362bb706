use Rattle.std.proofs.Common.{subst}
use Rattle.std.specs.Prelude.{Option}
use Rattle.vl_back.proofs.Adding.{add_fault, adds_all, adds_next, adds_none, next_may_come, no_memory}
use Rattle.vl_back.proofs.table.add_left.Goals as goal
use Rattle.vl_model.specs.Cursors.{Gives}
use Rattle.vl_model.specs.declared.entry.Entry.{Entry}

pub adding-init : goal.adding-init
adding-init g c = record { added = λ number es left writing told. adds_none number es left _ _ _ told writing }

pub adding-preserved : goal.adding-preserved
adding-preserved g c = record {
  added = λ number es left writing told.
      let before = g.C.Cursor.left c.adding.entries in
      let now = g.C.Cursor.left c.next.new.self in
      let so = c.adding.invariant.added number es left writing told in
      let gives = subst (λ (o : Option Entry). Gives before now o) c.in-Some.is c.in_ok-entry.ensures.given in
      adds_next number es left before now c.adding.writer c.adding.bytes.items so c.in-Some.entry
      c.placed-spelled.result c.placed-spelled.ensures
      c.add.new.self c.add.new.out.items gives (c.in_ok-add.ensures.added number _ c.adding.bytes.items so.writing);
}

pub adding-preserved-in_ok-add : goal.adding-preserved-in_ok-add
adding-preserved-in_ok-add g c = record {
  added = λ number es left writing told.
      let before = g.C.Cursor.left c.adding.entries in
      let now = g.C.Cursor.left c.next.new.self in
      let so = c.adding.invariant.added number es left writing told in
      let gives = subst (λ (o : Option Entry). Gives before now o) c.in-Some.is c.in_ok-entry.ensures.given in
      adds_next number es left before now c.adding.writer c.adding.bytes.items so c.in-Some.entry
      c.placed-spelled.result c.placed-spelled.ensures
      c.add.new.self c.add.new.out.items gives (c.in_ok-add.ensures.added number _ c.adding.bytes.items so.writing);
}

pub returns-clause-added : goal.returns-clause-added
returns-clause-added g c = λ number es left writing told.
    let before = g.C.Cursor.left c.adding.entries in
    let now = g.C.Cursor.left c.next.new.self in
    adds_all number es left before now c.adding.writer c.adding.bytes.items (c.adding.invariant.added number es left writing told)
    (subst (λ (o : Option Entry). Gives before now o) c.in_default.is c.in_ok-entry.ensures.given)

pub returns-in_err-entry-clause-lawful : goal.returns-in_err-entry-clause-lawful
returns-in_err-entry-clause-lawful g c = λ number es left writing told tabled.
    no_memory c.from_residual.result c.from_residual.ensures.1

pub returns-in_err-add-clause-lawful : goal.returns-in_err-add-clause-lawful
returns-in_err-add-clause-lawful g c = λ number es left writing told tabled.
    let before = g.C.Cursor.left c.adding.entries in
    let now = g.C.Cursor.left c.next.new.self in
    let so = c.adding.invariant.added number es left writing told in
    let gives = subst (λ (o : Option Entry). Gives before now o) c.in-Some.is c.in_ok-entry.ensures.given in
    add_fault _ c.from_residual-in_err-add.result c.from_residual-in_err-add.ensures.1 _
    (next_may_come number es left before now c.adding.writer c.adding.bytes.items so
    c.in-Some.entry c.placed-spelled.result c.placed-spelled.ensures c.numbers_fit.ensures gives tabled)
    (c.in_err-add.ensures.refused number _ c.adding.bytes.items so.writing)
