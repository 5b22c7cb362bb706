use Rattle.std.proofs.Common.{ap, sym, subst, ◌∙◌, arith, inl, inr, refl, take, Vec, Global}
use Rattle.std.specs.Prelude.{◌⊎◌, Err, IfSome, List, Option, Result, Some}
use Rattle.std.proofs.lemmas.Result.{err_from_is_err_and}
use Rattle.std.specs.List.{AllByRecursion}
use Rattle.vl_model.specs.Cursors.{Gives, IsReached}
use Rattle.vl_model.specs.Keys.{Row}
use Rattle.vl_model.specs.declared.entry.Entry.{Entry}
use Rattle.vl_version.specs.Answers.{IsAnswer, IsAstray}
use Rattle.vl_version.specs.Rows.{AreRowsOf, OneAstray, PushesRow}
use Rattle.vl_version.specs.Sources.{stored_in}
use Rattle.vl_disk.specs.declared.read_fault.ReadFault.{ReadFault}
use Rattle.vl_disk.specs.declared.read_fault.ReadFault.TheVariants.{Damaged}
use Rattle.vl_version.proofs.TakeLaws.{TakesFront, astray_next, err_answer, fault_answer, leaves_near, next_kept, no_read_fault, takes_all}
use Rattle.vl_version.proofs.TakeLaws.{takes_end, takes_next, takes_none}
use Rattle.vl_version.specs.Naming.{IsLogFault}
use Rattle.vl_version.proofs.NamingLaws.{err_is}
use Rattle.vl_version.proofs.WholeLaws.{rows_next}
use Rattle.vl_merge.specs.Standing.{is_beyond}
use Rattle.vl_version.proofs.SeenCursor.{SeenMayFail, SeenStands, seen_left}
use Rattle.vl_version.proofs.rows.take_rows.Goals as goal

pub returns-in_default-clause-answers : goal.returns-in_default-clause-answers
returns-in_default-clause-answers g c told left is kept =
    let before = seen_left g.C.Cursor.left c.taking.entries in
    let now = seen_left g.C.Cursor.left c.next.new.self in
    let gives = subst (λ (o : Option Entry). Gives before now o) c.in_default.is c.in_ok-entry.ensures.given in
    (takes_end (stored_in g.H.HeldFile.bytes c.args.logs.now) left before now c.taking.rows.items c.args.limit
    (c.taking.invariant.taken told left is kept) gives).0

pub returns-in_default-clause-no_further : goal.returns-in_default-clause-no_further
returns-in_default-clause-no_further g c told left is kept =
    let before = seen_left g.C.Cursor.left c.taking.entries in
    let now = seen_left g.C.Cursor.left c.next.new.self in
    let gives = subst (λ (o : Option Entry). Gives before now o) c.in_default.is c.in_ok-entry.ensures.given in
    (takes_end (stored_in g.H.HeldFile.bytes c.args.logs.now) left before now c.taking.rows.items c.args.limit
    (c.taking.invariant.taken told left is kept) gives).1

pub taking-preserved : goal.taking-preserved
taking-preserved g c = record {
  steady =
      c.in_ok-push_row.ensures.cause.steady (λ none. none) ∙ sym (c.requires.counts c.next.new.reader) ∙ c.in_ok-entry.ensures.cause
      ∙ c.requires.counts c.taking.reader ∙ c.taking.invariant.steady;
  fails = λ fault now. c.taking.invariant.fails fault (c.next.ensures.keeps fault now);
  taken = λ told left is kept.
      let logs = stored_in g.H.HeldFile.bytes c.args.logs.now in
      let before = seen_left g.C.Cursor.left c.taking.entries in
      let now = seen_left g.C.Cursor.left c.next.new.self in
      let rows = c.taking.rows.items in
      let so = c.taking.invariant.taken told left is kept in
      let gives = subst (λ (o : Option Entry). Gives before now o) c.in-Some.is c.in_ok-entry.ensures.given in
      let pushes : PushesRow logs c.in-Some.entry rows c.push_row.new.rows.items =
      c.in_ok-push_row.ensures.answers told (next_kept logs left before now rows c.args.limit so c.in-Some.entry gives) in
      takes_next logs left before now rows c.args.limit so c.in-Some.entry c.push_row.new.rows.items gives (omega arith) pushes;
  near = λ left is near. leaves_near (seen_left g.C.Cursor.left c.taking.entries) (seen_left g.C.Cursor.left c.next.new.self)
      (c.taking.invariant.near left is near) c.in-Some.entry
      (subst (λ (o : Option Entry). Gives (seen_left g.C.Cursor.left c.taking.entries) (seen_left g.C.Cursor.left c.next.new.self) o) c.in-Some.is
      c.in_ok-entry.ensures.given);
  back = λ is_met stands. c.taking.invariant.back is_met (c.next.ensures.back is_met stands);
  reaches = λ is_met_by itself.
      let e = c.in-Some.entry in
      rows_next (λ key. SeenStands g.C.Cursor.stands_to c.args.entries.now (is_met_by key)) e c.taking.rows.items c.push_row.new.rows.items
      (c.taking.invariant.reaches is_met_by itself)
      (c.taking.invariant.back (is_met_by e.key) (c.in_ok-entry.ensures.reaches (is_met_by e.key)
      (subst (IsReached (is_met_by e.key)) (sym c.in-Some.is) (itself e))))
      c.in_ok-push_row.ensures.pushes;
  in_way = λ way so. (c.in_ok-entry.ensures.passes way (c.taking.invariant.in_way way so)).0;
  passes = λ way so.
      let e = c.in-Some.entry in
      let passed = subst (λ (o : Option Entry). IfSome o (λ w. SeenStands g.C.Cursor.stands_to c.taking.entries (is_beyond way w.key)))
      c.in-Some.is (c.in_ok-entry.ensures.passes way (c.taking.invariant.in_way way so)).1 in
      rows_next (λ key. SeenStands g.C.Cursor.stands_to c.args.entries.now (is_beyond way key)) e c.taking.rows.items
      c.push_row.new.rows.items (c.taking.invariant.passes way so) (c.taking.invariant.back (is_beyond way e.key) passed)
      c.in_ok-push_row.ensures.pushes;
}

pub taking-init : goal.taking-init
taking-init g c = record {
  steady = refl;
  fails = λ fault now. now;
  taken = λ told left is kept.
      subst (λ (rows : List Row). TakesFront (stored_in g.H.HeldFile.bytes c.args.logs.now) left
      (seen_left g.C.Cursor.left c.args.entries.now) rows c.args.limit) (sym c.new-rows.ensures.items)
      (takes_none (stored_in g.H.HeldFile.bytes c.args.logs.now) left (seen_left g.C.Cursor.left c.args.entries.now) c.args.limit is kept);
  near = λ left is near. record { rest = left; behind = is; near = near };
  back = λ is_met stands. stands;
  reaches = λ is_met_by itself.
      subst (AllByRecursion (λ (row : Row). SeenStands g.C.Cursor.stands_to c.args.entries.now (is_met_by row.0))) (sym c.new-rows.ensures.items) tt;
  in_way = λ way so. so;
  passes = λ way so. subst (AllByRecursion (λ (row : Row). SeenStands g.C.Cursor.stands_to c.args.entries.now (is_beyond way row.0)))
      (sym c.new-rows.ensures.items) tt;
}

pub returns-in_err-push_row-clause-answers : goal.returns-in_err-push_row-clause-answers
returns-in_err-push_row-clause-answers g c told left is kept =
    let logs = stored_in g.H.HeldFile.bytes c.args.logs.now in
    let before = seen_left g.C.Cursor.left c.taking.entries in
    let now = seen_left g.C.Cursor.left c.next.new.self in
    let rows = c.taking.rows.items in
    let so = c.taking.invariant.taken told left is kept in
    let gives = subst (λ (o : Option Entry). Gives before now o) c.in-Some.is c.in_ok-entry.ensures.given in
    let p = err_from_is_err_and c.from_residual-in_err-push_row.result c.from_residual-in_err-push_row.ensures.1 in
    subst (λ (r : Result (Vec Row Global) ReadFault). IsAnswer
    (λ rows. AreRowsOf logs (take c.args.limit left) rows.items)
    (λ name place. SeenMayFail g.C.Cursor.may_fail c.args.entries.now (Damaged name place) ⊎ OneAstray logs left name place)
    r)
    (sym (p.1 ∙ ap Err p.2))
    (err_answer {T = Unit {0}} {U = Vec Row Global}
    (λ _. PushesRow logs c.in-Some.entry rows c.push_row.new.rows.items)
    (λ rows. AreRowsOf logs (take c.args.limit left) rows.items) (IsAstray logs (Some c.in-Some.entry))
    (λ name place. SeenMayFail g.C.Cursor.may_fail c.args.entries.now (Damaged name place) ⊎ OneAstray logs left name place)
    c.in_err-push_row.field-0.0
    (λ name place astray. inr (astray_next logs left before now rows c.args.limit so c.in-Some.entry name place gives astray))
    (c.in_err-push_row.ensures.answers told (next_kept logs left before now rows c.args.limit so c.in-Some.entry gives)))

pub returns-clause-answers : goal.returns-clause-answers
returns-clause-answers g c told left is kept =
    let at = seen_left g.C.Cursor.left c.taking.entries in
    (takes_all (stored_in g.H.HeldFile.bytes c.args.logs.now) left at at c.taking.rows.items c.args.limit
    (c.taking.invariant.taken told left is kept) (omega arith)).0

pub returns-clause-no_further : goal.returns-clause-no_further
returns-clause-no_further g c told left is kept =
    let at = seen_left g.C.Cursor.left c.taking.entries in
    (takes_all (stored_in g.H.HeldFile.bytes c.args.logs.now) left at at c.taking.rows.items c.args.limit
    (c.taking.invariant.taken told left is kept) (omega arith)).1

pub returns-in_err-entry-clause-fault : goal.returns-in_err-entry-clause-fault
returns-in_err-entry-clause-fault g c =
    let p = err_from_is_err_and c.from_residual.result c.from_residual.ensures.1 in
    err_is {T = Vec Row Global} (λ (fault : ReadFault). SeenMayFail g.C.Cursor.may_fail c.args.entries.now fault
    ⊎ IsLogFault c.args.logs.now fault) c.in_err-entry.field-0.0 c.from_residual.result
    (p.1 ∙ ap Err p.2) (inl (c.taking.invariant.fails c.in_err-entry.field-0.0 c.in_err-entry.ensures.may_fail))

pub returns-in_err-push_row-clause-fault : goal.returns-in_err-push_row-clause-fault
returns-in_err-push_row-clause-fault g c =
    let p = err_from_is_err_and c.from_residual-in_err-push_row.result c.from_residual-in_err-push_row.ensures.1 in
    err_is {T = Vec Row Global} (λ (fault : ReadFault). SeenMayFail g.C.Cursor.may_fail c.args.entries.now fault
    ⊎ IsLogFault c.args.logs.now fault) c.in_err-push_row.field-0.0
    c.from_residual-in_err-push_row.result (p.1 ∙ ap Err p.2) (inr c.in_err-push_row.ensures.fault)

pub returns-in_default-clause-ends : goal.returns-in_default-clause-ends
returns-in_default-clause-ends g c = λ is_met few.
    c.taking.invariant.back is_met (c.in_ok-entry.ensures.reaches is_met (subst (IsReached is_met) (sym c.in_default.is) tt))

pub returns-clause-ends : goal.returns-clause-ends
returns-clause-ends g c = λ is_met few. absurd (omega (arith, few))

pub returns-in_default-clause-reaches : goal.returns-in_default-clause-reaches
returns-in_default-clause-reaches g c = c.taking.invariant.reaches

pub returns-clause-reaches : goal.returns-clause-reaches
returns-clause-reaches g c = c.taking.invariant.reaches

pub returns-in_default-clause-passes : goal.returns-in_default-clause-passes
returns-in_default-clause-passes g c = c.taking.invariant.passes

pub returns-clause-passes : goal.returns-clause-passes
returns-clause-passes g c = c.taking.invariant.passes

pub returns-in_err-entry-clause-near : goal.returns-in_err-entry-clause-near
returns-in_err-entry-clause-near g c left is near quiet failed =
    let p = err_from_is_err_and c.from_residual.result c.from_residual.ensures.1 in
    no_read_fault c.in_err-entry.field-0.0 c.from_residual.result (p.1 ∙ ap Err p.2)
    (quiet c.in_err-entry.field-0.0 (c.taking.invariant.fails c.in_err-entry.field-0.0 c.in_err-entry.ensures.may_fail)) failed

pub returns-in_err-entry-clause-answers : goal.returns-in_err-entry-clause-answers
returns-in_err-entry-clause-answers g c told left is kept =
    let logs = stored_in g.H.HeldFile.bytes c.args.logs.now in
    let p = err_from_is_err_and c.from_residual.result c.from_residual.ensures.1 in
    fault_answer (λ (rows : Vec Row Global). AreRowsOf logs (take c.args.limit left) rows.items)
    (λ name place. SeenMayFail g.C.Cursor.may_fail c.args.entries.now (Damaged name place) ⊎ OneAstray logs left name place)
    c.in_err-entry.field-0.0 c.from_residual.result (p.1 ∙ ap Err p.2)
    (λ name place same. inl (subst (SeenMayFail g.C.Cursor.may_fail c.args.entries.now) same
    (c.taking.invariant.fails c.in_err-entry.field-0.0 c.in_err-entry.ensures.may_fail)))
