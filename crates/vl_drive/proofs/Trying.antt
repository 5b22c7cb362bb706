-- What a call of commit comes to, by its answer.
use Rattle.std.proofs.Common.{◌≡◌, ◌≢◌, ℕ, true, false, List, [], ◌∷◌, ◌++◌, refl, ap, sym, ◌∙◌, subst, append-nil}
use Rattle.std.proofs.lemmas.Bool.{false≢true}
use Rattle.std.specs.List.{AllByRecursion}
use Rattle.vl_drive.proofs.Playing.{steps_wait, waits_end, waits_itself}
use Rattle.vl_drive.specs.Answers.{asked, done_outcome}
use Rattle.vl_drive.specs.Entries.{commit_entry}
use Rattle.vl_drive.specs.Knowing.{GoesAside, IsOwnTicket, Knows, Stepped}
use Rattle.vl_drive.specs.Playing.{HasAll, HasEnded, Waits, WasExhausted}
use Rattle.vl_drive.specs.Steps.{Origin, entry_of, history_by, is_aside, layout_by}
use Rattle.vl_drive.specs.declared.fails.Done.{Done}
use Rattle.vl_drive.specs.declared.fails.Done.TheVariants as done
use Rattle.vl_drive.specs.laws.TurnLaws.{commit_at, commit_conflict, commit_nothing}
use Rattle.vl_engine_model.specs.Decides.{Answered, Outcome}
use Rattle.vl_engine_model.specs.LockHistory.{OpenTicket, number_of, open_tickets, tickets_after}
use Rattle.vl_engine_model.specs.Ruling.{ended, logged}
use Rattle.vl_engine_model.specs.Rulings.Commit.{At, CommitAnswer, Conflict, Exhausted, Full, Nothing, commit_frame, commit_ruling}
use Rattle.vl_engine_model.specs.declared.lock_history.LockEntry.{LockEntry}
use Rattle.vl_engine_model.specs.declared.lock_history.LockStep.{LockStep}
use Rattle.vl_engine_model.specs.declared.lock_history.LockStep.TheVariants.{Begun, Changed, Ended, JobEnded, PassEnded, Picked, Planned, Put}
use Rattle.vl_model.specs.Reads.{Read}
use Rattle.vl_model.specs.declared.change.Change.{Change}
use Rattle.vl_model.specs.declared.counter.Counter.TheVariants.{Commit as CommitNumber}

-- ---- tickets

aside_keeps : (session : ℕ) (step : LockStep) (ts : List OpenTicket) → is_aside step ≡ true
    → tickets_after session step ts ≡ ts
aside_keeps session (Begun ticket number) ts aside = absurd (false≢true aside)
aside_keeps session (Put ticket number writes) ts aside = absurd (false≢true aside)
aside_keeps session (Ended ticket) ts aside = absurd (false≢true aside)
aside_keeps session Planned ts aside = refl
aside_keeps session JobEnded ts aside = refl
aside_keeps session Picked ts aside = refl
aside_keeps session PassEnded ts aside = refl
aside_keeps session Changed ts aside = refl

tickets_stay : (own more : List LockEntry) → AllByRecursion (λ (e : LockEntry). is_aside e.step ≡ true) more
    → (ts : List OpenTicket) → open_tickets ts (own ++ more) ≡ open_tickets ts own
tickets_stay [] [] aside ts = refl
tickets_stay [] (e ∷ more) aside ts =
    ap (λ us. open_tickets us more) (aside_keeps e.session e.step ts aside.0) ∙ tickets_stay [] more aside.1 ts
tickets_stay (e ∷ own) more aside ts = tickets_stay own more aside (tickets_after e.session e.step ts)

pub own_stays : (v w : Knows) (ticket number : ℕ) → GoesAside v w → IsOwnTicket v ticket number → IsOwnTicket w ticket number
own_stays v w ticket number s own =
    ap (λ es. number_of ticket (open_tickets [] es)) s.own ∙ ap (number_of ticket) (tickets_stay v.own s.more s.aside []) ∙ own

-- ---- answers

module _ (v w : Knows) (ticket number : ℕ) (reads : List Read) (writes : List (List ℕ × Change)) where
  abbrev Ran : Outcome CommitAnswer → Type 0
  Ran outcome =
      Stepped v w (λ l h. commit_ruling l h (asked ticket number reads writes)) (commit_entry ticket writes) outcome

  pub committed_at : (n : ℕ) → HasAll v → Ran (Answered (At n)) → HasEnded (asked ticket number reads writes) true v w
  committed_at n all s =
      let h = history_by v.origin s.before in
      let l = layout_by v.origin s.before in
      let k = commit_at l h (asked ticket number reads writes) n (s.answer (At n) refl) in
      waits_end v v w (asked ticket number reads writes) true s.before
      (entry_of v.session (Put ticket n writes) (logged (commit_frame h writes) (ended ticket l)))
      (waits_itself v all) s.steps refl (ap (λ m. Put ticket m writes) k.0, k.1)

  pub committed_nothing : HasAll v → writes ≢ [] → Ran (Answered Nothing) → HasEnded (asked ticket number reads writes) true v w
  committed_nothing all some s =
      absurd (some (commit_nothing (layout_by v.origin s.before) (history_by v.origin s.before) (asked ticket number reads writes)
      (s.answer Nothing refl)))

  pub well_done : (d : Done) → HasAll v → writes ≢ [] → Ran (done_outcome d)
      → HasEnded (asked ticket number reads writes) true v w
  well_done (done.At n) all some s = committed_at n all s
  well_done done.Nothing all some s = committed_nothing all some s

  pub met_conflict : (key : List ℕ) (n : ℕ) → HasAll v → Ran (Answered (Conflict key n))
      → HasEnded (asked ticket number reads writes) false v w
  met_conflict key n all s =
      let h = history_by v.origin s.before in
      let l = layout_by v.origin s.before in
      let k = commit_conflict l h (asked ticket number reads writes) key n (s.answer (Conflict key n) refl) in
      waits_end v v w (asked ticket number reads writes) false s.before (entry_of v.session (Ended ticket) (ended ticket l))
      (waits_itself v all) s.steps refl (refl, (key, n), k)

  pub was_full : (length frame : ℕ) → HasAll v → Ran (Answered (Full length frame)) → Waits v w
  was_full length frame all s = steps_wait v w s.before all s.steps

  pub was_full_own : (length frame : ℕ) → IsOwnTicket v ticket number → Ran (Answered (Full length frame)) → IsOwnTicket w ticket number
  was_full_own length frame own s = ap (λ es. number_of ticket (open_tickets [] es)) s.steps.own ∙ own

  pub was_exhausted : Ran (Answered (Exhausted CommitNumber)) → WasExhausted w
  was_exhausted s = record {
    before = s.before;
    seen = ([], append-nil s.before ∙ sym s.steps.seen);
    txn = asked ticket number reads writes;
    answer = subst (λ (o : Origin). (commit_ruling (layout_by o s.before) (history_by o s.before) (asked ticket number reads writes)).answer
        ≡ Exhausted CommitNumber) (sym s.steps.on.origin) (sym (s.answer (Exhausted CommitNumber) refl));
  }
