use Rattle.std.proofs.Common.{Some, refl, subst, sym}
use Rattle.vl_compact.proofs.Adding.{filled_with}
use Rattle.vl_compact.proofs.Failing.{stops_later, passed_on}
use Rattle.vl_compact.specs.Filling.{EndsWith}
use Rattle.vl_compact.specs.Walking.{is_behind}
use Rattle.vl_model.specs.Cutting.{last_key}
use Rattle.vl_compact.proofs.fill.fill.Goals as goal

pub returns-clause-fills : goal.returns-clause-fills
returns-clause-fills g c = λ j left has fits first along fresh.
    let next = c.args.next in
    let n = first.gives in
    let a = c.in_ok-add_kept.ensures.adds j n.rest first.rules has fits n.left_is (n.goes.along along)
    (c.in_ok-table.ensures.begun fresh) in
    let ends : EndsWith c.add_kept.new.table (last_key a.all) = record {
      number = c.add_kept.new.lent.number;
      entries = a.all;
      given = a.written.given;
      writing = a.written.writing;
      last = refl;
    } in
    filled_with g.W.Writer j left next.keeping.last (g.C.Cursor.left next.keeping.cursor)
    next.found.items c.add_kept.new.found.items next.first n c.add_kept.new.lent c.add_kept.new.table a c.finish.new.lent
    c.in_ok-finish.field-0 (c.in_ok-finish.ensures.whole a.all a.written) (c.in_ok-finish.ensures.last (last_key a.all) ends)
    c.in_ok-finish.ensures.found

pub returns-clause-reads : goal.returns-clause-reads
returns-clause-reads g c =
    let read = c.in_ok-add_kept.ensures.reads c.in_ok-table.ensures.ends in
    subst (λ k. g.C.Cursor.stands_to c.args.next.keeping.cursor (is_behind (Some k)))
    (sym (c.in_ok-finish.ensures.last read.key read.ends)) read.read

pub returns-in_err-add_kept-clause-cause : goal.returns-in_err-add_kept-clause-cause
returns-in_err-add_kept-clause-cause g c =
    let base = c.args.base.now in
    let fits = g.V.Sources.fits base c.args.reader.now.looks in
    let may = g.C.Cursor.may_fail c.args.next.keeping.cursor in
    passed_on _ c.from_residual-in_err-add_kept.result _ c.from_residual-in_err-add_kept.ensures.1
    (stops_later (λ l. g.V.Sources.faults l) (λ r. g.C.Cursor.faults r) (λ f. g.V.Sources.is_read_fault f)
    (λ f. g.C.Cursor.is_read_fault f) c.args.reader.now c.args.reader.now c.add_kept.new.reader (record { sources = refl; files = refl })
    g.W.Writer c.args.lent.now c.begin.new.lent c.add_kept.new.lent c.begin.ensures.number c.in_ok-table.ensures.steady
    fits fits (g.V.Sources.may_fail base) may may (λ f. f) (λ fault m. m) _ c.in_err-add_kept.ensures.cause)
