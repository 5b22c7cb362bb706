-- What a session has committed, call by call.
use Rattle.std.proofs.Common.{◌≡◌, ℕ, ◌+◌, ◌≤◌, ◌==◌, Bool, true, false, cond, ◌&&◌, List, [], ◌∷◌, ◌++◌, length}
use Rattle.std.proofs.Common.{ap, sym, ◌∙◌, subst, add-zero, arith}
use Rattle.std.proofs.lemmas.Bool.Decides.{nat_tests}
use Rattle.std.proofs.lemmas.List.Elements.{filter-append}
use Rattle.std.specs.List.{AllByRecursion}
use Rattle.std.specs.Prelude.{None, Some, Result, Ok, Err, OnErr}
use Rattle.vl_drive.specs.Knowing.{GoesAside, GoesOn, Knows, Looks, Steps}
use Rattle.vl_drive.specs.Modest.{HasFew, IsModest}
use Rattle.vl_drive.specs.Playing.{HasAll}
use Rattle.vl_drive.specs.Steps.{AreBy, count_by, is_aside, is_put}
use Rattle.vl_drive.specs.laws.ModestLaws.{aside_all, begun_open, few_aside, few_more, few_none}
use Rattle.vl_drive.specs.laws.StepLaws.{aside_is_no_put, counted_none, counted_parts}
use Rattle.vl_engine_model.specs.LockHistory.{OpenTicket, closed, entries_by, open_tickets, tickets_after}
use Rattle.vl_engine_model.specs.declared.lock_history.LockEntry.{LockEntry}
use Rattle.vl_engine_model.specs.declared.lock_history.LockStep.{LockStep}
use Rattle.vl_sequence.proofs.Tickets.{closes_by, leaves}
use Rattle.vl_sequence.specs.Sequences.{Begins, Closes, HasCommitted, MakesNone}

-- ---- all of its own

own_more : (session : ℕ) (es : List LockEntry) (e : LockEntry) → e.session ≡ session
    → entries_by session (es ++ e ∷ []) ≡ entries_by session es ++ e ∷ []
own_more session es e mine =
    let is : (e.session == session) ≡ true = grind (arith, nat_tests) in
    filter-append (λ (x : LockEntry). x.session == session) es (e ∷ [])
    ∙ ap (λ b. entries_by session es ++ cond b (e ∷ []) []) is

all_more : (v w : Knows) (before : List LockEntry) (e : LockEntry) → Steps v w before (Some e) → e.session ≡ v.session → HasAll w
all_more v w before e s mine =
    s.own ∙ ap (λ (es : List LockEntry). es ++ e ∷ []) s.mine ∙ sym (own_more v.session before e mine)
    ∙ ap (λ n. entries_by n (before ++ e ∷ [])) (sym s.on.session) ∙ ap (entries_by w.session) (sym s.seen)

pub makes_none : (v w : Knows) (before : List LockEntry) → Steps v w before None → MakesNone v w
makes_none v w before s = record {
  own = s.own;
  all = s.own ∙ s.mine ∙ ap (λ n. entries_by n before) (sym s.on.session) ∙ ap (entries_by w.session) (sym s.seen);
}

-- what closes a ticket is its own
pub closes_with : (committed : Bool) (v w : Knows) (ticket : ℕ) (before : List LockEntry) (e : LockEntry) → Steps v w before (Some e)
    → e.session ≡ v.session → is_put e.step ≡ committed
    → ((ts : List OpenTicket) → tickets_after e.session e.step ts ≡ closed e.session ticket ts) → Closes committed v w ticket
closes_with committed v w ticket before e s mine ends is = record {
  on = s.on;
  closes = closes_by v w ticket e s.own mine is;
  ended = e;
  own = s.own;
  mine = mine;
  ends = ends;
  all = all_more v w before e s mine;
}

-- ---- how many commits

one_counted : (session : ℕ) (e : LockEntry) → e.session ≡ session → count_by is_put session (e ∷ []) ≡ cond (is_put e.step) 1 0
one_counted session e mine =
    let own : (e.session == session) ≡ true = grind (arith, nat_tests) in
    ap (λ b. cond (b && is_put e.step) 1 0 + 0) own ∙ add-zero (cond (is_put e.step) 1 0)

pub committed_new : (v : Knows) → v.own ≡ [] → v.seen ≡ [] → HasCommitted 0 v
committed_new v none nothing = record {
  live = subst HasFew (sym none) few_none;
  none = ap (open_tickets []) none;
  commits_are = ap (count_by is_put v.session) none;
  all = none ∙ ap (entries_by v.session) (sym nothing);
}

module _ (commits : ℕ) (v w : Knows) (x : HasCommitted commits v) where
  pub committed_same : GoesOn v w → MakesNone v w → HasCommitted commits w
  committed_same on m = record {
    live = subst HasFew (sym m.own) x.live;
    none = ap (open_tickets []) m.own ∙ x.none;
    commits_are =
        ap (λ (s : ℕ). count_by is_put s w.own) on.session ∙ ap (count_by is_put v.session) m.own ∙ x.commits_are;
    all = m.all;
  }

  -- steps aside are no commits
  pub committed_aside : GoesAside v w → HasCommitted commits w
  committed_aside s = record {
    live = subst HasFew (sym s.own) (few_aside v.own s.more x.live s.aside);
    none = ap (open_tickets []) s.own ∙ aside_all v.own s.more s.aside ∙ x.none;
    commits_are =
        (let none = counted_none is_aside is_put v.session aside_is_no_put s.more (aside_by s.more s.aside) in
        let parts = counted_parts is_put v.session v.own s.more in
        let whole = ap (λ (k : ℕ). count_by is_put k w.own) s.on.session ∙ ap (count_by is_put v.session) s.own in
        let before = x.commits_are in
        omega (arith, none, parts, whole, before));
    all = s.mine ∙ ap (λ (n : ℕ). entries_by n w.seen) (sym s.on.session);
  }
    where
      aside_by : (es : List LockEntry) → AllByRecursion (λ (e : LockEntry). is_aside e.step ≡ true) es → AreBy is_aside v.session es
      aside_by [] all = tt
      aside_by (e ∷ es) all = ((λ mine. all.0), aside_by es all.1)

-- a transaction that was begun and ended, with a commit or without one
pub committed_try : (committed : Bool) (v u x w : Knows) (ticket number last commits : ℕ) → Begins v u ticket number → Looks u x
    → last ≡ ticket → Closes committed x w last → HasCommitted commits v → HasCommitted (commits + cond committed 1 0) w
committed_try committed v u x w ticket number last commits b looks is c h = record {
  live = subst HasFew (sym own) (few_more (v.own ++ b.begun ∷ []) c.ended (few_more v.own b.begun h.live one) few);
  none = none;
  commits_are =
      (let begun = one_counted v.session b.begun b.mine ∙ ap (λ (s : LockStep). cond (is_put s) 1 0) b.begins in
      let ended = one_counted v.session c.ended (c.mine ∙ looks.on.session ∙ b.on.session)
      ∙ ap (λ (b : Bool). cond b 1 0) c.ends in
      let first = counted_parts is_put v.session v.own (b.begun ∷ []) in
      let both = counted_parts is_put v.session (v.own ++ b.begun ∷ []) (c.ended ∷ []) in
      let whole = ap (λ (s : ℕ). count_by is_put s w.own) session ∙ ap (count_by is_put v.session) own in
      let before = h.commits_are in
      omega (arith, begun, ended, first, both, whole, before));
  all = c.all;
}
  where
    session : w.session ≡ v.session
    session = c.on.session ∙ looks.on.session ∙ b.on.session

    own : w.own ≡ (v.own ++ b.begun ∷ []) ++ c.ended ∷ []
    own = c.own ∙ ap (λ (es : List LockEntry). es ++ c.ended ∷ []) (looks.own ∙ b.own)

    none : open_tickets [] w.own ≡ []
    none = leaves committed v u x w ticket number last b looks is c ∙ h.none

    one : length (open_tickets [] (v.own ++ b.begun ∷ [])) ≤ 1
    one = subst (λ (ts : List OpenTicket). length ts ≤ 1) (sym (begun_open v.own b.begun ticket number h.none b.begins)) (omega arith)

    few : length (open_tickets [] ((v.own ++ b.begun ∷ []) ++ c.ended ∷ [])) ≤ 1
    few = subst (λ (ts : List OpenTicket). length ts ≤ 1) (sym none ∙ ap (open_tickets []) own) (omega arith)

pub uncommitted : (commits : ℕ) (v u x w : Knows) (ticket number last : ℕ) → Begins v u ticket number → Looks u x
    → last ≡ ticket → Closes false x w last → HasCommitted commits v → HasCommitted commits w
uncommitted commits v u x w ticket number last b looks is c h =
    subst (λ (n : ℕ). HasCommitted n w) (add-zero commits) (committed_try false v u x w ticket number last commits b looks is c h)

pub committed_modest : (turns commits : ℕ) (v : Knows) → commits ≤ turns → HasCommitted commits v → IsModest turns v
committed_modest turns commits v few x = record { live = x.live; puts = let are = x.commits_are in omega (arith, are, few) }

-- ---- answers

pub on_err : {A E : Type 0} {P : Type 0} (r : Result A E) → P → OnErr r P
on_err (Ok a) p = tt
on_err (Err e) p = p
