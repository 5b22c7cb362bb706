use Rattle.std.proofs.Common.{◌<◌, ℕ, ap, arith, sym, subst, ◌∙◌, List, Option, Some, inl, inr}
use Rattle.std.specs.Prelude.{Err, Ok}
use Rattle.std.proofs.lemmas.Result.{err_from_is_err_and}
use Rattle.vl_model.specs.Cursors.{Gives, Spends}
use Rattle.vl_model.specs.declared.entry.Entry.{Entry}
use Rattle.vl_seglog.specs.declared.sealed.SealedLog.{SealedLog}
use Rattle.vl_version.specs.Answers as answers
use Rattle.vl_model.specs.Keys.{Stored}
use Rattle.vl_model.specs.Cursors.{IsReached}
use Rattle.vl_version.specs.Changes.{IsChangeFault, SpendsOne, StandsToEnd, changes_budget, entries_left, nothing}
use Rattle.vl_version.specs.Naming.{IsLogFault}
use Rattle.vl_version.specs.Sources.{AreTold, stored_in}
use Rattle.vl_version.specs.declared.behind.Behind.{Behind}
use Rattle.vl_version.proofs.NamingLaws.{err_is}
use Rattle.vl_version.proofs.NextChange.{ended, err_spends, failed, took, unread}
use Rattle.vl_version.proofs.version.Version.next_change.Goals as goal

pub returns-in_default-clause-gives : goal.returns-in_default-clause-gives
returns-in_default-clause-gives g c ws has =
    let bytes = g.H.HeldFile.bytes in
    let old = c.args.changes.now in
    let new = record old { entries = c.next.new.self } in
    ended bytes c.args.self.now old new (λ fault now. c.next.ensures.keeps fault now) ws has
    (subst (λ (o : Option Entry). Gives (entries_left bytes old) (entries_left bytes new) o) c.in_default.is
    c.in_ok-entry.ensures.given)

pub returns-in_err-entry-clause-gives : goal.returns-in_err-entry-clause-gives
returns-in_err-entry-clause-gives g c ws has =
    let bytes = g.H.HeldFile.bytes in
    let old = c.args.changes.now in
    let new = record old { entries = c.next.new.self } in
    let p = err_from_is_err_and c.from_residual.result c.from_residual.ensures.1 in
    failed bytes c.args.self.now old new (λ fault now. c.next.ensures.keeps fault now) ws has c.in_err-entry.field-0.0
    c.from_residual.result (p.1 ∙ ap Err p.2) c.in_err-entry.ensures.may_fail c.in_err-entry.ensures.kept

pub returns-in_err-value-clause-gives : goal.returns-in_err-value-clause-gives
returns-in_err-value-clause-gives g c ws has =
    let bytes = g.H.HeldFile.bytes in
    let self = c.args.self.now in
    let old = c.args.changes.now in
    let new = record old { entries = c.next.new.self } in
    let gives = subst (λ (o : Option Entry). Gives (entries_left bytes old) (entries_left bytes new) o) c.in-Some.is
    c.in_ok-entry.ensures.given in
    let kept = c.deref.ensures.value ∙ ap (λ (b : Behind g.row.H.Denot). b.logs.items) c.as_ref-behind.ensures in
    let p = err_from_is_err_and c.from_residual-in_err-value.result c.from_residual-in_err-value.ensures.1 in
    unread bytes self old new (λ fault now. c.next.ensures.keeps fault now) ws has c.in-Some.entry gives
    c.in_err-value.field-0.0 c.from_residual-in_err-value.result (p.1 ∙ ap Err p.2)
    (subst (λ (l : List (SealedLog g.row.H.Denot)). answers.Gives (stored_in bytes l) (Some c.in-Some.entry)
    (Err c.in_err-value.field-0.0))
    kept (c.in_err-value.ensures.answers (subst (AreTold bytes) (sym kept) has.logs)))

pub returns-clause-gives : goal.returns-clause-gives
returns-clause-gives g c ws has =
    let bytes = g.H.HeldFile.bytes in
    let self = c.args.self.now in
    let old = c.args.changes.now in
    let new = record old { entries = c.next.new.self } in
    let gives = subst (λ (o : Option Entry). Gives (entries_left bytes old) (entries_left bytes new) o) c.in-Some.is
    c.in_ok-entry.ensures.given in
    let kept = c.deref.ensures.value ∙ ap (λ (b : Behind g.row.H.Denot). b.logs.items) c.as_ref-behind.ensures in
    took bytes self old new (λ fault now. c.next.ensures.keeps fault now) ws has c.in-Some.entry gives c.in_ok-value.value
    (subst (λ (l : List (SealedLog g.row.H.Denot)). answers.Gives (stored_in bytes l) (Some c.in-Some.entry)
    (Ok c.in_ok-value.value))
    kept (c.in_ok-value.ensures.answers (subst (AreTold bytes) (sym kept) has.logs)))

pub returns-in_err-entry-clause-fault : goal.returns-in_err-entry-clause-fault
returns-in_err-entry-clause-fault g c since over =
    let p = err_from_is_err_and c.from_residual.result c.from_residual.ensures.1 in
    err_is {T = Option (List ℕ × Option Stored)} (IsChangeFault g.H.HeldFile.bytes c.args.self.now since)
    c.in_err-entry.field-0.0
    c.from_residual.result (p.1 ∙ ap Err p.2) (inl (over c.in_err-entry.field-0.0 c.in_err-entry.ensures.may_fail))

pub returns-in_err-value-clause-fault : goal.returns-in_err-value-clause-fault
returns-in_err-value-clause-fault g c since over =
    let kept = c.deref.ensures.value ∙ ap (λ (b : Behind g.row.H.Denot). b.logs.items) c.as_ref-behind.ensures in
    let p = err_from_is_err_and c.from_residual-in_err-value.result c.from_residual-in_err-value.ensures.1 in
    err_is {T = Option (List ℕ × Option Stored)} (IsChangeFault g.H.HeldFile.bytes c.args.self.now since)
    c.in_err-value.field-0.0
    c.from_residual-in_err-value.result (p.1 ∙ ap Err p.2)
    (inr (subst (λ (l : List (SealedLog g.row.H.Denot)). IsLogFault l c.in_err-value.field-0.0) kept
    c.in_err-value.ensures.fault))

pub returns-in_default-clause-over : goal.returns-in_default-clause-over
returns-in_default-clause-over g c since over fault may = over fault (c.next.ensures.keeps fault may)

pub returns-in_err-entry-clause-over : goal.returns-in_err-entry-clause-over
returns-in_err-entry-clause-over g c since over fault may = over fault (c.next.ensures.keeps fault may)

pub returns-in_err-value-clause-over : goal.returns-in_err-value-clause-over
returns-in_err-value-clause-over g c since over fault may = over fault (c.next.ensures.keeps fault may)

pub returns-clause-over : goal.returns-clause-over
returns-clause-over g c since over fault may = over fault (c.next.ensures.keeps fault may)

pub returns-in_default-clause-spends : goal.returns-in_default-clause-spends
returns-in_default-clause-spends g c =
    let old = c.args.changes.now in
    let new = record old { entries = c.next.new.self } in
    subst (λ (o : Option Entry). Spends (changes_budget old) (changes_budget new) o) c.in_default.is
    c.in_ok-entry.ensures.spends

pub returns-in_err-entry-clause-spends : goal.returns-in_err-entry-clause-spends
returns-in_err-entry-clause-spends g c =
    let old = c.args.changes.now in
    let new = record old { entries = c.next.new.self } in
    let p = err_from_is_err_and c.from_residual.result c.from_residual.ensures.1 in
    err_spends (changes_budget old) (changes_budget new) (SpendsOne (changes_budget old) (changes_budget new))
    c.in_err-entry.field-0.0
    c.from_residual.result (p.1 ∙ ap Err p.2) c.in_err-entry.ensures.spends

pub returns-in_err-value-clause-spends : goal.returns-in_err-value-clause-spends
returns-in_err-value-clause-spends g c =
    let old = c.args.changes.now in
    let new = record old { entries = c.next.new.self } in
    let spent : changes_budget new < changes_budget old =
    subst (λ (o : Option Entry). Spends (changes_budget old) (changes_budget new) o) c.in-Some.is
    c.in_ok-entry.ensures.spends in
    let p = err_from_is_err_and c.from_residual-in_err-value.result c.from_residual-in_err-value.ensures.1 in
    err_spends (changes_budget old) (changes_budget new) (SpendsOne (changes_budget old) (changes_budget new))
    c.in_err-value.field-0.0
    c.from_residual-in_err-value.result (p.1 ∙ ap Err p.2) (omega (arith, spent))

pub returns-clause-spends : goal.returns-clause-spends
returns-clause-spends g c =
    let old = c.args.changes.now in
    let new = record old { entries = c.next.new.self } in
    subst (λ (o : Option Entry). Spends (changes_budget old) (changes_budget new) o) c.in-Some.is c.in_ok-entry.ensures.spends

pub returns-in_default-clause-ended : goal.returns-in_default-clause-ended
returns-in_default-clause-ended g c =
    c.in_ok-entry.ensures.reaches nothing (subst (IsReached nothing) (sym c.in_default.is) tt)

pub returns-in_default-clause-back : goal.returns-in_default-clause-back
returns-in_default-clause-back g c to = c.next.ensures.back nothing to

pub returns-in_err-entry-clause-back : goal.returns-in_err-entry-clause-back
returns-in_err-entry-clause-back g c to = c.next.ensures.back nothing to

pub returns-in_err-value-clause-back : goal.returns-in_err-value-clause-back
returns-in_err-value-clause-back g c to = c.next.ensures.back nothing to

pub returns-clause-back : goal.returns-clause-back
returns-clause-back g c to = c.next.ensures.back nothing to
