-- What a session has open by its own steps lives in the layout that it finds, and is open there.
use Rattle.std.proofs.Common.{◌≡◌, ℕ, List, [], ◌∷◌, refl, sym, ap, ◌∙◌, subst, arith}
use Rattle.std.proofs.lemmas.Bool.Decides.{nat_tests}
use Rattle.std.specs.Cmp.{unsigned_tied}
use Rattle.std.specs.FinMap.{find}
use Rattle.std.specs.Ordering.{nat_cmp}
use Rattle.std.specs.Prelude.{Bool, cond, ◌==◌, Option, None, Some}
use Rattle.atomic_table.specs.Seated.{TableId}
use Rattle.atomic_table.specs.declared.shared.Seat.{Seat}
use Rattle.vl_engine_laws.specs.Represents.{IsLive}
use Rattle.vl_engine_model.specs.LockHistory.{HasOpen, IsLegal, IsOpen, IsOwn, OpenTicket, entries_by, nothing_open, number_of}
use Rattle.vl_engine_model.specs.LockHistory.{last_layout, open_job, open_pass, open_tickets, tickets_in}
use Rattle.vl_engine_model.specs.declared.job.Job.{Job}
use Rattle.vl_engine_model.specs.declared.lock_history.LockEntry.{LockEntry}
use Rattle.vl_engine_model.specs.laws.LockHistoryLaws.{last_layout-append, none≢some, own_is_open}
use Rattle.vl_engine_model.specs.laws.OwnThings.{pass_stays}
use Rattle.vlstore.specs.Knowing.{IsSession, KeepsOwnMerge, own_in, session_in}
use Rattle.vlstore.specs.Lists.{layout_by, open_by}
use Rattle.vlstore.specs.Merges.{KeepMerges, lent_in}
use Rattle.vlstore.specs.declared.locked.Origin.{Origin}
use Rattle.vlstore.proofs.Legal.{has}
use Rattle.vlstore.proofs.Lending.{LeaveMerge, job_left, open_job-append}
use Rattle.vlstore.proofs.Owning.{own_merge}
use Rattle.vlstore.proofs.Sessions.{by, knowing, owns_in_turn}
use Rattle.vl_turn.specs.Entries.{Owned, with_entry}
use Rattle.vl_turn.specs.Tokens.{Begins}
use Rattle.vl_turn.specs.declared.view.View.{View}

found : (ticket : ℕ) (ts : List OpenTicket) → find nat_cmp ticket (tickets_in ts) ≡ number_of ticket ts
found ticket [] = refl
found ticket (t ∷ ts) =
    ap (λ b. cond b (Some t.number) (find nat_cmp ticket (tickets_in ts))) (unsigned_tied ticket t.ticket ∙ turned ticket t.ticket)
    ∙ ap (λ o. cond (t.ticket == ticket) (Some t.number) o) (found ticket ts)
  where
    turned : (m n : ℕ) → (m == n) ≡ (n == m)
    turned m n = grind (arith, nat_tests)

module _ {T : Type 0} (meaning : T → T → List LockEntry → Type 0) (name : TableId) (start value : T)
    (before : Seat (Option T) (View T LockEntry)) (v : View T LockEntry) (is : IsSession name start before)
    (begins : Begins meaning by start before.me.0 v value) where
  number_is : session_in v.owns ≡ is.session
  number_is = ap session_in (owns_in_turn meaning name start value before v is begins)

  pub number_found : session_in v.owns ≡ session_in before.me.0.owns
  number_found = number_is ∙ sym (ap session_in is.owns)

  -- all of a session's entries in the list are its own
  pub own_all : own_in before.me.0.owns ≡ entries_by (session_in v.owns) v.seen
  own_all =
      let one = owns_in_turn meaning name start value before v is begins in
      ap own_in is.owns ∙ ((subst (Owned by v.seen) one begins.owns).0 ∙ ap (λ n. entries_by n v.seen) (sym number_is))

  -- a pass that the session began, and didn't end, is the open one
  pub pass_open : (o : Origin) → IsLegal o.number v.seen → (segment : ℕ)
      → open_pass None (own_in before.me.0.owns) ≡ Some (session_in before.me.0.owns, segment)
      → IsOwn (session_in v.owns) (open_by v.seen).pass
  pass_open o legal segment own =
      let same : session_in before.me.0.owns ≡ session_in v.owns = ap session_in is.owns ∙ sym number_is in
      let mine : open_pass None (entries_by (session_in v.owns) v.seen) ≡ Some (session_in v.owns, segment) =
      sym (ap (open_pass None) own_all) ∙ (own ∙ ap (λ n. Some (n, segment)) same) in
      subst (IsOwn (session_in v.owns))
      (sym (pass_stays o.number (session_in v.owns) segment None nothing_open v.seen legal (λ at. absurd (none≢some _ at)) mine)) refl

  -- so is a merge that it planned, with what its last own step lent to it
  pub merge_open : (o : Origin) → KeepMerges None o.layout v.seen → (job : Job)
      → open_job None (own_in before.me.0.owns) ≡ Some (session_in before.me.0.owns, job)
      → (open_job None v.seen ≡ Some (session_in v.owns, job))
      × (lent_in (layout_by o v.seen) ≡ lent_in (last_layout o.layout (own_in before.me.0.owns)))
  merge_open o keep job own =
      let same : session_in before.me.0.owns ≡ session_in v.owns = ap session_in is.owns ∙ sym number_is in
      let mine : open_job None (entries_by (session_in v.owns) v.seen) ≡ Some (session_in v.owns, job) =
      sym (ap (open_job None) own_all) ∙ (own ∙ ap (λ n. Some (n, job)) same) in
      let found = own_merge (session_in v.owns) job o.layout v.seen keep mine in
      (found.0, found.1 ∙ ap (λ es. lent_in (last_layout o.layout es)) (sym own_all))

  -- a step that leaves the open merge keeps what its session knows of its own
  pub merge_kept : (o : Origin) (tells : Bool) → KeepMerges None o.layout v.seen → (after : Seat (Option T) (View T LockEntry))
      (e : Option LockEntry) → own_in after.me.0.owns ≡ with_entry (own_in before.me.0.owns) e
      → session_in after.me.0.owns ≡ session_in v.owns → LeaveMerge (layout_by o v.seen) e
      → KeepsOwnMerge (knowing name o tells before) (knowing name o tells after)
  merge_kept o tells keep after e now number leaves job own =
      kept_by e (own_in before.me.0.owns) (own_in after.me.0.owns) now leaves own (number ∙ number_found) (merge_open o keep job own).1
    where
      kept_by : (e : Option LockEntry) (was own : List LockEntry) → own ≡ with_entry was e → LeaveMerge (layout_by o v.seen) e
          → open_job None was ≡ Some (session_in before.me.0.owns, job)
          → session_in after.me.0.owns ≡ session_in before.me.0.owns
          → lent_in (layout_by o v.seen) ≡ lent_in (last_layout o.layout was)
          → (open_job None own ≡ Some (session_in after.me.0.owns, job))
          × (lent_in (last_layout o.layout own) ≡ lent_in (last_layout o.layout was))
      kept_by None was own now leaves is number lent = (
        ap (open_job None) now ∙ (is ∙ ap (λ (n : ℕ). Some (n, job)) (sym number)),
        ap (λ (es : List LockEntry). lent_in (last_layout o.layout es)) now,
      )
      kept_by (Some e) was own now leaves is number lent = (
        ap (open_job None) now
            ∙ (open_job-append None was (e ∷ [])
            ∙ (job_left e.session e.step e.layout (open_job None was) leaves.other
            ∙ (is ∙ ap (λ (n : ℕ). Some (n, job)) (sym number)))),
        ap (λ (es : List LockEntry). lent_in (last_layout o.layout es)) now
            ∙ (ap lent_in (last_layout-append o.layout was (e ∷ [])) ∙ (leaves.lent ∙ lent)),
      )

  module _ (o : Origin) (legal : IsLegal o.number v.seen) (ticket number : ℕ)
      (own : number_of ticket (open_tickets [] (own_in before.me.0.owns)) ≡ Some number) where
    both : (number_of ticket (open_by v.seen).tickets ≡ Some number) × IsOpen (session_in v.owns) ticket (open_by v.seen).tickets
    both = own_is_open o.number (session_in v.owns) ticket number v.seen legal
        (sym (ap (λ es. number_of ticket (open_tickets [] es)) own_all) ∙ own)

    pub ticket_open : IsOpen (session_in v.owns) ticket (open_by v.seen).tickets
    ticket_open = both.1

    pub ticket_lives : HasOpen nothing_open o.layout → IsLive (layout_by o v.seen) ticket number
    ticket_lives begun =
        ap (find nat_cmp ticket) (has o v.seen begun legal 0).live ∙ (found ticket (open_by v.seen).tickets ∙ both.0)
