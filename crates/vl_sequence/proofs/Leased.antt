-- A session's commits in a longer list are leases too, and so is one more.
use Rattle.std.proofs.Common.{◌≡◌, inl, inr, ℕ, ◌+◌, true, List, [], ◌∷◌, ◌++◌, ap, sym, ◌∙◌, subst, append_assoc, append-nil, arith}
use Rattle.vl_drive.specs.Knowing.{GoesOn, Knows}
use Rattle.vl_drive.specs.Steps.{Origin, count_by, is_aside, is_put}
use Rattle.vl_drive.specs.laws.StepLaws.{Place, aside_is_no_put, counted_first, counted_none, counted_one, counted_own, counted_parts, others_are, place_of}
use Rattle.vl_engine_model.specs.LockHistory.{entries_by}
use Rattle.vl_engine_model.specs.declared.lock_history.LockEntry.{LockEntry}
use Rattle.vl_sequence.proofs.Committed.{committed_new}
use Rattle.vl_sequence.specs.Counted.{AreLeased, LeasesNext}
use Rattle.vl_sequence.specs.Counting.{HasLeased}
use Rattle.vl_sequence.specs.Sequences.{HasCommitted, TakesLease}
use mathlib.Core.List.{IsPrefix}

-- ---- of a longer list

no_put : (session : ℕ) (before : List LockEntry) (e : LockEntry) (after : List LockEntry)
    → count_by is_put session (before ++ e ∷ after) ≡ 0 → e.session ≡ session → is_put e.step ≡ true → ⊥
no_put session before e after none mine puts =
    let some = counted_one is_put session before e after mine puts in omega (arith, none, some)

module _ (o : Origin) (key : List ℕ) (lease session : ℕ) where
  leased_more : (list more : List LockEntry) → AreLeased o key lease session list → count_by is_put session more ≡ 0
      → AreLeased o key lease session (list ++ more)
  leased_more list more leased none before e after is mine puts = by (place_of list more before e after is)
    where
      by : Place list more before e after → LeasesNext o key lease before e
      by (inl x) = leased before e x.0 x.1 mine puts
      by (inr x) = absurd (no_put session x.0 e after (sym (ap (count_by is_put session) x.2) ∙ none) mine puts)

  leased_one : (list : List LockEntry) (e : LockEntry) → AreLeased o key lease session list → LeasesNext o key lease list e
      → AreLeased o key lease session (list ++ e ∷ [])
  leased_one list e leased next before d after is mine puts = by (place_of list (e ∷ []) before d after is)
    where
      behind : (front : List LockEntry) → before ≡ list ++ front → e ∷ [] ≡ front ++ d ∷ after → LeasesNext o key lease before d
      behind [] at last =
          let all : before ≡ list = at ∙ append-nil list in
          let same : e ≡ d = cc in
          subst (λ (x : LockEntry). LeasesNext o key lease before x) same
          (subst (λ (es : List LockEntry). LeasesNext o key lease es e) (sym all) next)
      behind (f ∷ []) at last = absurd cc
      behind (f ∷ g ∷ front) at last = absurd cc

      by : Place list (e ∷ []) before d after → LeasesNext o key lease before d
      by (inl x) = leased before d x.0 x.1 mine puts
      by (inr x) = behind x.0 x.1 x.2

  -- the front of such a list is one
  pub leased_front : (list before : List LockEntry) → IsPrefix before list → AreLeased o key lease session list
      → AreLeased o key lease session before
  leased_front list before front leased first e rest is mine puts =
      leased first e (rest ++ front.0)
      (sym front.1 ∙ ap (λ (es : List LockEntry). es ++ front.0) is ∙ append_assoc first (e ∷ rest) front.0) mine puts

-- ---- of a session

pub leased_new : (key : List ℕ) (lease : ℕ) (v : Knows) → v.own ≡ [] → v.seen ≡ [] → HasLeased key lease 0 v
leased_new key lease v none nothing = record {
  committed = committed_new v none nothing;
  leased = λ before e after is mine puts. absurd (no_put v.session before e after
      (ap (count_by is_put v.session) (sym is ∙ nothing)) mine puts);
}

-- its commits are those in what it has seen
seen_counted : (commits : ℕ) (v : Knows) → HasCommitted commits v → count_by is_put v.session v.seen ≡ commits
seen_counted commits v x =
    sym (counted_own is_put v.session v.seen) ∙ ap (count_by is_put v.session) (sym x.all) ∙ x.commits_are

leased_as : (key : List ℕ) (lease : ℕ) (v w : Knows) (list : List LockEntry) → GoesOn v w
    → AreLeased v.origin key lease v.session list → AreLeased w.origin key lease w.session list
leased_as key lease v w list on leased =
    subst (λ (s : ℕ). AreLeased w.origin key lease s list) (sym on.session)
    (subst (λ (o : Origin). AreLeased o key lease v.session list) (sym on.origin) leased)

module _ (key : List ℕ) (lease leases : ℕ) (v w : Knows) (on : GoesOn v w) (x : HasLeased key lease leases v) where
  before_is : count_by is_put v.session v.seen ≡ leases
  before_is = seen_counted leases v x.committed

  -- no commit more
  pub leased_on : HasCommitted leases w → HasLeased key lease leases w
  leased_on committed = record {
    committed = committed;
    leased = subst (AreLeased w.origin key lease w.session) on.seen.1
        (leased_as key lease v w (v.seen ++ on.seen.0) on
        (leased_more v.origin key lease v.session v.seen on.seen.0 x.leased none));
  }
    where
      none : count_by is_put v.session on.seen.0 ≡ 0
      none =
          let before = before_is in
          let after : count_by is_put v.session w.seen ≡ leases =
          ap (λ (s : ℕ). count_by is_put s w.seen) (sym on.session) ∙ seen_counted leases w committed in
          let whole = ap (count_by is_put v.session) on.seen.1 in
          let parts = counted_parts is_put v.session v.seen on.seen.0 in
          omega (arith, before, after, whole, parts)

  -- one more
  pub leased_then : (first : ℕ) → TakesLease v w key first (first + lease) → HasLeased key lease (leases + 1) w
  leased_then first t = record {
    committed = t.one leases x.committed;
    leased = subst (AreLeased w.origin key lease w.session) (sym t.seen)
        (leased_as key lease v w (t.before ++ t.entry ∷ []) on
        (leased_one v.origin key lease v.session t.before t.entry
        (subst (AreLeased v.origin key lease v.session) t.later.1
        (leased_more v.origin key lease v.session v.seen t.later.0 x.leased none)) next));
  }
    where
      next : LeasesNext v.origin key lease t.before t.entry
      next = record { first = first; told = t.told; ticket = t.ticket; puts = t.puts; fits = t.fits }

      none : count_by is_put v.session t.later.0 ≡ 0
      none =
          let before = before_is in
          let after : count_by is_put v.session w.seen ≡ leases + 1 =
          ap (λ (s : ℕ). count_by is_put s w.seen) (sym on.session) ∙ seen_counted (leases + 1) w (t.one leases x.committed) in
          let whole = ap (count_by is_put v.session) t.seen in
          let parts = counted_parts is_put v.session t.before (t.entry ∷ []) in
          let front = ap (count_by is_put v.session) t.later.1 in
          let first_parts = counted_parts is_put v.session v.seen t.later.0 in
          let one = counted_first is_put v.session t.entry [] t.mine (ap is_put t.puts) in
          omega (arith, before, after, whole, parts, front, first_parts, one)

-- ---- in the whole list

module _ (o : Origin) (key : List ℕ) (lease leases : ℕ) (list : List LockEntry) (session : ℕ) (v : Knows) (origin_is : v.origin ≡ o)
    (session_is : v.session ≡ session) (seen : IsPrefix v.seen list) (own : v.own ≡ entries_by session list)
    (x : HasLeased key lease leases v) where
  -- the session has no step behind what it has seen
  none_behind : count_by is_put session seen.0 ≡ 0
  none_behind =
      counted_none is_aside is_put session aside_is_no_put seen.0
      (others_are is_aside session v.seen seen.0
      (ap (entries_by session) seen.1 ∙ sym own ∙ x.committed.all ∙ ap (λ (s : ℕ). entries_by s v.seen) session_is))

  pub leased_in : AreLeased o key lease session list
  leased_in =
      subst (AreLeased o key lease session) seen.1
      (leased_more o key lease session v.seen seen.0
      (subst (λ (s : ℕ). AreLeased o key lease s v.seen) session_is
      (subst (λ (p : Origin). AreLeased p key lease v.session v.seen) origin_is x.leased)) none_behind)

  pub counted_in : count_by is_put session list ≡ leases
  counted_in =
      let none = none_behind in
      let whole = ap (count_by is_put session) seen.1 in
      let parts = counted_parts is_put session v.seen seen.0 in
      let before : count_by is_put session v.seen ≡ leases =
      ap (λ (s : ℕ). count_by is_put s v.seen) (sym session_is) ∙ seen_counted leases v x.committed in
      omega (arith, none, whole, parts, before)
