-- How a client's calls go together to turns.
use Rattle.std.proofs.Common.{◌≡◌, ℕ, ◌+◌, Bool, true, false, cond, ◌&&◌, List, [], ◌∷◌, ◌++◌, refl, ap, sym, ◌∙◌, subst, arith, append_assoc, append-nil}
use Rattle.std.proofs.lemmas.Bool.{false≢true}
use Rattle.std.proofs.lemmas.Bool.Decides.{nat_tests}
use Rattle.std.proofs.lemmas.List.Elements.{filter-append}
use Rattle.std.specs.Prelude.{None, Some, ◌==◌}
use Rattle.std.specs.FinMap.{entries}
use Rattle.std.specs.List.{AllByRecursion}
use Rattle.vl_drive.proofs.Prefixes.{begins_itself, begins_more, same_behind}
use Rattle.vl_drive.specs.Accounts.{balance_after, transfer_writes}
use Rattle.vl_drive.specs.Answers.{asked}
use Rattle.vl_drive.specs.Knowing.{GoesAside, GoesOn, IsOwnTicket, Knows, Looks, Steps}
use Rattle.vl_drive.specs.Playing.{HasAll, HasBegun, HasEnded, HasTaken, IsEndOf, IsTrouble, Waits, WasExhausted, WasFull}
use Rattle.vl_drive.specs.Steps.{AreBy, Origin, count_by, history_by, is_aside, is_end, is_put, layout_by}
use Rattle.vl_drive.specs.Turns.{EndsTurn, InTurn, end_of, is_crossed}
use Rattle.vl_drive.specs.declared.transfer.Transfer.{Transfer}
use Rattle.vl_drive.specs.declared.trouble.Cause.TheVariants as cause
use Rattle.vl_drive.specs.declared.trouble.Trouble.{Trouble}
use Rattle.vl_drive.specs.declared.trouble.Trouble.TheVariants as trouble
use Rattle.vl_drive.specs.laws.StepLaws.{by_parts, counted_aside, others_are}
use Rattle.vl_drive.specs.laws.TurnLaws.{AreOfAccounts, crossing_none, crossing_some, turn_more}
use Rattle.vl_engine_model.specs.LockHistory.{entries_by, number_of, open_tickets}
use Rattle.vl_engine_model.specs.Rulings.Begin.{TooMany, begin_ruling}
use Rattle.vl_engine_model.specs.Rulings.Commit.{Exhausted, Transaction, commit_ruling}
use Rattle.vl_engine_model.specs.declared.lock_history.LockEntry.{LockEntry}
use Rattle.vl_engine_model.specs.declared.lock_history.LockStep.{LockStep}
use Rattle.vl_engine_model.specs.declared.lock_history.LockStep.TheVariants.{Put}
use Rattle.vl_model.specs.Conflicts.{first_conflict}
use Rattle.vl_model.specs.History.{last_number}
use Rattle.vl_model.specs.Reads.{Read}
use Rattle.vl_model.specs.declared.change.Change.{Change}
use Rattle.vl_model.specs.declared.counter.Counter.TheVariants.{Commit as CommitNumber}
use mathlib.Core.List.{IsPrefix}

-- ---- going on

pub on_itself : (v : Knows) → GoesOn v v
on_itself v = record {
  store = refl;
  origin = refl;
  session = refl;
  seen = begins_itself v.seen;
  own = begins_itself v.own;
  faults = omega arith;
  sure_is = refl;
  sure = λ is. refl;
}

pub on_then : (u v w : Knows) → GoesOn u v → GoesOn v w → GoesOn u w
on_then u v w p q = record {
  store = q.store ∙ p.store;
  origin = q.origin ∙ p.origin;
  session = q.session ∙ p.session;
  seen = begins_more u.seen v.seen w.seen p.seen q.seen;
  own = begins_more u.own v.own w.own p.own q.own;
  faults = let a = p.faults in let b = q.faults in omega (arith, a, b);
  sure_is = q.sure_is ∙ p.sure_is;
  sure = λ is. q.sure (p.sure_is ∙ is) ∙ p.sure is;
}

pub looks_then : (u v w : Knows) → Looks u v → Looks v w → Looks u w
looks_then u v w p q = record { on = on_then u v w p.on q.on; seen = q.seen ∙ p.seen; own = q.own ∙ p.own }

-- ---- troubles

pub full_later : (v w : Knows) → GoesOn v w → WasFull v → WasFull w
full_later v w p x = record {
  before = x.before;
  seen = begins_more x.before v.seen w.seen x.seen p.seen;
  answer = subst (λ (o : Origin). (begin_ruling (layout_by o x.before) (history_by o x.before)).answer ≡ TooMany) (sym p.origin) x.answer;
}

pub exhausted_later : (v w : Knows) → GoesOn v w → WasExhausted v → WasExhausted w
exhausted_later v w p x = record {
  before = x.before;
  seen = begins_more x.before v.seen w.seen x.seen p.seen;
  txn = x.txn;
  answer = subst (λ (o : Origin). (commit_ruling (layout_by o x.before) (history_by o x.before) x.txn).answer ≡ Exhausted CommitNumber)
      (sym p.origin) x.answer;
}

-- what was a trouble on the way is one of the whole way
pub trouble_since : (u v w : Knows) (t : Trouble) → GoesOn u v → IsTrouble v w t → IsTrouble u w t
trouble_since u v w trouble.NoMemory p is = tt
trouble_since u v w (trouble.Stopped cause.Disk) p is = let a = p.faults in omega (arith, a, is)
trouble_since u v w (trouble.Stopped (cause.Damaged name place)) p is = let a = p.faults in omega (arith, a, is)
trouble_since u v w (trouble.Stopped cause.TooMany) p is = is
trouble_since u v w (trouble.Stopped cause.Exhausted) p is = is

-- and stays one
pub trouble_later : (u v w : Knows) (t : Trouble) → IsTrouble u v t → GoesOn v w → IsTrouble u w t
trouble_later u v w trouble.NoMemory is p = tt
trouble_later u v w (trouble.Stopped cause.Disk) is p = let a = p.faults in omega (arith, a, is)
trouble_later u v w (trouble.Stopped (cause.Damaged name place)) is p = let a = p.faults in omega (arith, a, is)
trouble_later u v w (trouble.Stopped cause.TooMany) is p = full_later v w p is
trouble_later u v w (trouble.Stopped cause.Exhausted) is p = exhausted_later v w p is

-- ---- waiting

pub waits_itself : (v : Knows) → HasAll v → Waits v v
waits_itself v all = record { on = on_itself v; more = []; seen = sym (append-nil v.seen); aside = tt; all = all }

pub waits_then : (u v w : Knows) → Waits u v → Waits v w → Waits u w
waits_then u v w p q = record {
  on = on_then u v w p.on q.on;
  more = p.more ++ q.more;
  seen = q.seen ∙ ap (λ (es : List LockEntry). es ++ q.more) p.seen ∙ append_assoc u.seen p.more q.more;
  aside = by_parts is_aside u.session p.more q.more p.aside (subst (λ s. AreBy is_aside s q.more) p.on.session q.aside);
  all = q.all;
}

-- other sessions' steps alone
pub others_since : (kind : LockStep → Bool) (v : Knows) (known before : List LockEntry) → v.own ≡ entries_by v.session known
    → (later : IsPrefix known before) → v.own ≡ entries_by v.session before → AreBy kind v.session later.0
others_since kind v known before all later mine =
    others_are kind v.session known later.0 (ap (entries_by v.session) later.1 ∙ sym mine ∙ all)

-- a call that made no step
pub steps_wait : (v w : Knows) (before : List LockEntry) → HasAll v → Steps v w before None → Waits v w
steps_wait v w before all s = record {
  on = s.on;
  more = s.later.0;
  seen = s.seen ∙ sym s.later.1;
  aside = others_since is_aside v v.seen before all s.later s.mine;
  all = s.own ∙ s.mine ∙ ap (λ n. entries_by n before) (sym s.on.session) ∙ ap (entries_by w.session) (sym s.seen);
}

-- a session's own steps are of one kind
own_are : (kind : LockStep → Bool) (session : ℕ) (es : List LockEntry)
    → AllByRecursion (λ (e : LockEntry). kind e.step ≡ true) (entries_by session es) → AreBy kind session es
own_are kind session [] all = tt
own_are kind session (e ∷ es) all = by_test (e.session == session) refl all (own_are kind session es)
  where
    other : (e.session == session) ≡ false → e.session ≡ session → ⊥
    other is mine = let same : (e.session == session) ≡ true = grind (arith, nat_tests) in false≢true (sym is ∙ same)

    by_test : (b : Bool) → (e.session == session) ≡ b
        → AllByRecursion (λ (x : LockEntry). kind x.step ≡ true) (cond b (e ∷ entries_by session es) (entries_by session es))
        → (AllByRecursion (λ (x : LockEntry). kind x.step ≡ true) (entries_by session es) → AreBy kind session es)
        → AreBy kind session (e ∷ es)
    by_test true is all rest = ((λ mine. all.0), rest all.1)
    by_test false is all rest = ((λ mine. absurd (other is mine)), rest all)

pub aside_waits : (v w : Knows) → HasAll v → GoesAside v w → Waits v w
aside_waits v w all s =
    let grown : v.own ++ s.more ≡ v.own ++ entries_by v.session s.on.seen.0 =
    sym s.own ∙ s.mine ∙ ap (entries_by v.session) (sym s.on.seen.1)
    ∙ filter-append (λ (e : LockEntry). e.session == v.session) v.seen s.on.seen.0
    ∙ ap (λ (es : List LockEntry). es ++ entries_by v.session s.on.seen.0) (sym all) in
    let same = same_behind v.own s.more (entries_by v.session s.on.seen.0) grown in
    record {
      on = s.on;
      more = s.on.seen.0;
      seen = sym s.on.seen.1;
      aside = own_are is_aside v.session s.on.seen.0
          (subst (AllByRecursion (λ (x : LockEntry). is_aside x.step ≡ true)) same s.aside);
      all = s.mine ∙ ap (λ n. entries_by n w.seen) (sym s.on.session);
    }

-- ---- an end

-- a list with one more step of the session
pub own_more : (session : ℕ) (es : List LockEntry) (e : LockEntry) → e.session ≡ session
    → entries_by session (es ++ e ∷ []) ≡ entries_by session es ++ e ∷ []
own_more session es e mine =
    let is : (e.session == session) ≡ true = grind (arith, nat_tests) in
    filter-append (λ (x : LockEntry). x.session == session) es (e ∷ [])
    ∙ ap (λ b. entries_by session es ++ cond b (e ∷ []) []) is

-- a step of the session's own, behind all of its own
pub all_more : (v w : Knows) (before : List LockEntry) (e : LockEntry) → Steps v w before (Some e) → e.session ≡ v.session → HasAll w
all_more v w before e s mine =
    s.own ∙ ap (λ (es : List LockEntry). es ++ e ∷ []) s.mine ∙ sym (own_more v.session before e mine)
    ∙ ap (λ n. entries_by n (before ++ e ∷ [])) (sym s.on.session) ∙ ap (entries_by w.session) (sym s.seen)

end_of_same : (o p : Origin) (txn : Transaction) (before after : List LockEntry) (committed : Bool) (step : LockStep)
    → o ≡ p → before ≡ after → IsEndOf o txn before committed step → IsEndOf p txn after committed step
end_of_same o p txn before after committed step origin same end =
    subst (λ (x : Origin). IsEndOf x txn after committed step) origin
    (subst (λ (es : List LockEntry). IsEndOf o txn es committed step) same end)

pub waits_end : (u v w : Knows) (txn : Transaction) (committed : Bool) (before : List LockEntry) (e : LockEntry) → Waits u v
    → Steps v w before (Some e) → e.session ≡ v.session → IsEndOf v.origin txn before committed e.step → HasEnded txn committed u w
waits_end u v w txn committed before e p s mine end =
    let more = p.more ++ s.later.0 in
    let seen : before ≡ u.seen ++ more =
    sym s.later.1 ∙ ap (λ (es : List LockEntry). es ++ s.later.0) p.seen ∙ append_assoc u.seen p.more s.later.0 in
    record {
      on = on_then u v w p.on s.on;
      more = more;
      ended = e;
      seen = s.seen ∙ ap (λ (es : List LockEntry). es ++ e ∷ []) seen;
      aside = by_parts is_aside u.session p.more s.later.0 p.aside
          (subst (λ n. AreBy is_aside n s.later.0) p.on.session (others_since is_aside v v.seen before p.all s.later s.mine));
      mine = mine ∙ p.on.session;
      end = end_of_same v.origin u.origin txn before (u.seen ++ more) committed e.step p.on.origin seen end;
      all = all_more v w before e s mine;
    }

-- waiting comes first
pub waits_ended : (u v w : Knows) (txn : Transaction) (committed : Bool) → Waits u v → HasEnded txn committed v w
    → HasEnded txn committed u w
waits_ended u v w txn committed p e =
    let more = p.more ++ e.more in
    let seen : v.seen ++ e.more ≡ u.seen ++ more =
    ap (λ (es : List LockEntry). es ++ e.more) p.seen ∙ append_assoc u.seen p.more e.more in
    record {
      on = on_then u v w p.on e.on;
      more = more;
      ended = e.ended;
      seen = e.seen ∙ ap (λ (es : List LockEntry). es ++ e.ended ∷ []) seen;
      aside = by_parts is_aside u.session p.more e.more p.aside (subst (λ n. AreBy is_aside n e.more) p.on.session e.aside);
      mine = e.mine ∙ p.on.session;
      end = end_of_same v.origin u.origin txn (v.seen ++ e.more) (u.seen ++ more) committed e.ended.step p.on.origin seen e.end;
      all = e.all;
    }

-- ---- a look

pub looks_itself : (v : Knows) → Looks v v
looks_itself v = record { on = on_itself v; seen = refl; own = refl }

pub all_looked : (v w : Knows) → HasAll v → Looks v w → HasAll w
all_looked v w all l =
    l.own ∙ all ∙ ap (λ n. entries_by n v.seen) (sym l.on.session) ∙ ap (entries_by w.session) (sym l.seen)

pub ticket_looked : (v w : Knows) (ticket number : ℕ) → IsOwnTicket v ticket number → Looks v w → IsOwnTicket w ticket number
ticket_looked v w ticket number own l = ap (λ (es : List LockEntry). number_of ticket (open_tickets [] es)) l.own ∙ own

-- ---- a turn

ends_as : (o : Origin) (t : Transfer) (session ticket number : ℕ) (earlier since list : List LockEntry) (reads : List Read)
    (writes : List (List ℕ × Change)) (committed : Bool) (step : LockStep) → number ≡ last_number (history_by o earlier)
    → InTurn o session ticket earlier since list → AreOfAccounts t reads
    → writes ≡ entries (transfer_writes t (balance_after (history_by o earlier)))
    → IsEndOf o (asked ticket number reads writes) list committed step
    → step ≡ end_of (is_crossed t since) ticket (last_number (history_by o list) + 1) (transfer_writes t (balance_after (history_by o earlier)))
ends_as o t session ticket number earlier since list reads writes true step at turn of written end =
    let none = subst (λ n. first_conflict (history_by o list) n reads ≡ None) at end.1 in
    let crossed = crossing_none o t session ticket earlier since list reads turn of none in
    end.0 ∙ ap (λ (ws : List (List ℕ × Change)). Put ticket (last_number (history_by o list) + 1) ws) written
    ∙ ap (λ b. end_of b ticket (last_number (history_by o list) + 1) (transfer_writes t (balance_after (history_by o earlier)))) (sym crossed)
ends_as o t session ticket number earlier since list reads writes false step at turn of written end =
    let some = subst (λ n. first_conflict (history_by o list) n reads ≡ Some end.1) at end.2 in
    let crossed = crossing_some o t session ticket earlier since list reads end.1 turn of some in
    end.0
    ∙ ap (λ b. end_of b ticket (last_number (history_by o list) + 1) (transfer_writes t (balance_after (history_by o earlier)))) (sym crossed)

put_as : (o : Origin) (txn : Transaction) (list : List LockEntry) (committed : Bool) (step : LockStep) → IsEndOf o txn list committed step
    → is_put step ≡ committed
put_as o txn list true step end = ap is_put end.0
put_as o txn list false step end = ap is_put end.0

-- a step of another kind isn't counted
pub not_counted : (kind : LockStep → Bool) (session : ℕ) (e : LockEntry) (es : List LockEntry) → kind e.step ≡ false
    → count_by kind session (e ∷ es) ≡ count_by kind session es
not_counted kind session e es other = by_test (e.session == session) other
  where
    by_test : (b : Bool) → kind e.step ≡ false
        → cond (b && kind e.step) 1 0 + count_by kind session es ≡ count_by kind session es
    by_test true other = ap (λ c. cond c 1 0 + count_by kind session es) other ∙ omega arith
    by_test false other = omega arith

pub turn_taken : (t : Transfer) (committed : Bool) (v u x w : Knows) (ticket number : ℕ) (before : List LockEntry) (reads : List Read)
    (writes : List (List ℕ × Change)) → GoesOn v u → HasBegun ticket number before v u → Looks u x → AreOfAccounts t reads
    → writes ≡ entries (transfer_writes t (balance_after (history_by u.origin before)))
    → HasEnded (asked ticket number reads writes) committed x w → HasTaken t committed v w
turn_taken t committed v u x w ticket number before reads writes on b l of written e =
    let session : x.session ≡ v.session = l.on.session ∙ on.session in
    let origin : x.origin ≡ v.origin = l.on.origin ∙ on.origin in
    let begun = b.turn.begun in
    let front : x.seen ++ e.more ≡ before ++ begun ∷ e.more =
    ap (λ (es : List LockEntry). es ++ e.more) (l.seen ∙ b.turn.parts) ∙ append_assoc before (begun ∷ []) e.more in
    let aside : AreBy is_aside v.session e.more = subst (λ n. AreBy is_aside n e.more) session e.aside in
    let here : InTurn x.origin x.session ticket before [] x.seen =
    subst (λ (es : List LockEntry). InTurn x.origin x.session ticket before [] es) (sym l.seen)
    (subst (λ n. InTurn x.origin n ticket before [] u.seen) (sym l.on.session)
    (subst (λ (o : Origin). InTurn o u.session ticket before [] u.seen) (sym l.on.origin) b.turn)) in
    let turn = turn_more x.origin x.session ticket before [] x.seen e.more here e.aside in
    let number_at : number ≡ last_number (history_by x.origin before) =
    b.number_is ∙ ap (λ (o : Origin). last_number (history_by o before)) (sym l.on.origin) in
    let written_at : writes ≡ entries (transfer_writes t (balance_after (history_by x.origin before))) =
    written ∙ ap (λ (o : Origin). entries (transfer_writes t (balance_after (history_by o before)))) (sym l.on.origin) in
    let end : EndsTurn x.origin t (x.seen ++ e.more) e.ended = record {
      ticket = ticket;
      earlier = before;
      since = e.more;
      turn = subst (λ n. InTurn x.origin n ticket before e.more (x.seen ++ e.more)) (sym e.mine) turn;
      ends = ends_as x.origin t x.session ticket number before e.more (x.seen ++ e.more) reads writes committed e.ended.step number_at turn
          of written_at e.end;
    } in
    record {
      on = on_then v x w (on_then v u x on l.on) e.on;
      start = before;
      later = b.later;
      mine = b.mine;
      turn = begun ∷ e.more;
      ended = e.ended;
      seen = e.seen ∙ ap (λ (es : List LockEntry). es ++ e.ended ∷ []) front;
      quiet = not_counted is_end v.session begun e.more (ap is_end b.turn.begins)
          ∙ counted_aside v.session e.more aside;
      owner = e.mine ∙ session;
      end = subst (λ (o : Origin). EndsTurn o t (before ++ begun ∷ e.more) e.ended) origin
          (subst (λ (es : List LockEntry). EndsTurn x.origin t es e.ended) front end);
      committed_is = put_as x.origin (asked ticket number reads writes) (x.seen ++ e.more) committed e.ended.step e.end;
      all = e.all;
    }
