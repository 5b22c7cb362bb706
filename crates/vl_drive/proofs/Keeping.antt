-- The first commit, and what is kept of it.
use Rattle.std.proofs.Common.{◌≡◌, ℕ, ◌+◌, Bool, true, false, cond, ◌&&◌, List, [], ◌∷◌, ◌++◌, refl, ap, sym, ◌∙◌, arith, append_assoc, append-nil}
use Rattle.std.specs.Prelude.{None, nat_lt}
use Rattle.std.specs.FinMap.{entries}
use Rattle.std.specs.List.{filter}
use Rattle.vl_drive.proofs.Playing.{aside_waits, not_counted}
use Rattle.vl_drive.specs.Accounts.{first_balances}
use Rattle.vl_drive.specs.Answers.{asked}
use Rattle.vl_drive.specs.Clients.{HasOpened}
use Rattle.vl_drive.specs.Knowing.{GoesAside, GoesOn, Knows, Looks}
use Rattle.vl_drive.specs.Playing.{HasBegun, HasEnded}
use Rattle.vl_drive.specs.Steps.{count_by, history_by, is_aside, is_put}
use Rattle.vl_drive.specs.laws.StepLaws.{aside_is_no_put, counted_parts, counted_none, counted_own}
use Rattle.vl_engine_model.specs.declared.lock_history.LockEntry.{LockEntry}
use Rattle.vl_engine_model.specs.laws.LockHistoryLaws.{none≢some}
use Rattle.vl_drive.proofs.Scoring.{one_counted}
use Rattle.vl_model.specs.Conflicts.{Named, first_conflict, first_of, is_overwritten, last_named}
use Rattle.vl_model.specs.History.{History, last_number}

-- who read nothing meets no conflict
no_overwritten : (number : ℕ) (named : List Named) → filter (is_overwritten number []) named ≡ []
no_overwritten number [] = refl
no_overwritten number (x ∷ xs) = by_test (nat_lt number x.1) (no_overwritten number xs)
  where
    by_test : (b : Bool) → filter (is_overwritten number []) xs ≡ []
        → cond (b && false) (x ∷ filter (is_overwritten number []) xs) (filter (is_overwritten number []) xs) ≡ []
    by_test true rest = rest
    by_test false rest = rest

no_conflict : (h : History) (number : ℕ) → first_conflict h number [] ≡ None
no_conflict h number = ap first_of (no_overwritten number (last_named h))

-- The note is what was seen behind it.
pub opens : (committed : Bool) (v u x w : Knows) (ticket number : ℕ) (before : List LockEntry) → v.own ≡ [] → GoesOn v u
    → HasBegun ticket number before v u → Looks u x → HasEnded (asked ticket number [] (entries (first_balances 64))) committed x w
    → HasOpened w.seen w
opens false v u x w ticket number before none on b l e =
    absurd (none≢some e.end.1 (sym (no_conflict (history_by x.origin (x.seen ++ e.more)) number) ∙ e.end.2))
opens true v u x w ticket number before none on b l e =
    let begun = b.turn.begun in
    let session : w.session ≡ v.session = e.on.session ∙ l.on.session ∙ on.session in
    let at_x : x.session ≡ v.session = l.on.session ∙ on.session in
    let seen = l.seen ∙ b.turn.parts in
    let all = ap (λ n. count_by is_put n w.seen) session ∙ ap (count_by is_put v.session) e.seen in
    let parts = counted_parts is_put v.session (x.seen ++ e.more) (e.ended ∷ []) in
    let front = counted_parts is_put v.session x.seen e.more in
    let first = ap (count_by is_put v.session) seen ∙ counted_parts is_put v.session before (begun ∷ []) in
    let own = sym (counted_own is_put v.session before) ∙ ap (count_by is_put v.session) (sym b.mine ∙ none) in
    let begin = not_counted is_put v.session begun [] (ap is_put b.turn.begins) in
    let aside = ap (λ n. count_by is_put n e.more) (sym at_x) ∙ counted_none is_aside is_put x.session aside_is_no_put e.more e.aside in
    let one = one_counted is_put v.session e.ended (e.mine ∙ at_x) ∙ ap (λ step. cond (is_put step) 1 0) e.end.0 in
    let zero : count_by is_put v.session [] ≡ 0 = refl in
    record {
      mine = e.all;
      opened = record {
        before = x.seen ++ e.more;
        first = e.ended;
        after = [];
        parts = e.seen;
        mine = e.mine ∙ sym e.on.session;
        ticket = ticket;
        number = last_number (history_by x.origin (x.seen ++ e.more)) + 1;
        puts = e.end.0;
        once = omega (arith, all, parts, front, first, own, begin, aside, one, zero);
      };
      noted = ([], append-nil ((x.seen ++ e.more) ++ e.ended ∷ []) ∙ sym e.seen);
    }

-- what is kept up stays opened
pub opened_later : (note : List LockEntry) (v w : Knows) → HasOpened note v → GoesAside v w → HasOpened note w
opened_later note v w x s =
    let p = aside_waits v w x.mine s in
    let y = x.opened in
    let all = ap (λ n. count_by is_put n w.seen) p.on.session ∙ ap (count_by is_put v.session) p.seen
    ∙ counted_parts is_put v.session v.seen p.more in
    let none = counted_none is_aside is_put v.session aside_is_no_put p.more p.aside in
    let once = y.once in
    record {
      mine = p.all;
      opened = record {
        before = y.before;
        first = y.first;
        after = y.after ++ p.more;
        parts = p.seen ∙ ap (λ (es : List LockEntry). es ++ p.more) y.parts ∙ append_assoc y.before (y.first ∷ y.after) p.more;
        mine = y.mine ∙ sym p.on.session;
        ticket = y.ticket;
        number = y.number;
        puts = y.puts;
        once = omega (arith, all, none, once);
      };
      noted = x.noted;
    }
