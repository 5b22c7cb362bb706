-- What begins is the session's own, and sees the history that it has seen by then.
use Rattle.std.proofs.Common.{◌≡◌, ℕ, List, [], ◌∷◌, ◌++◌, refl, sym, ap, ◌∙◌, subst, arith}
use Rattle.std.proofs.lemmas.Bool.Decides.{nat_tests}
use Rattle.std.specs.Prelude.{Bool, true, false, cond, ◌==◌, nat_lt, Option, None, Some, Result, Ok, Err, IfOk}
use Rattle.vl_steps.specs.Answers.{begin_outcome, view_outcome}
use Rattle.vl_reads.specs.Sees.{Sees, SeesAlone}
use Rattle.vl_reads.specs.declared.txn.Txn.{Txn}
use Rattle.vl_reads.specs.declared.view.View.{View}
use Rattle.vl_engine_model.specs.LockHistory.{OpenTicket, number_of, open_tickets, opened, tickets_after}
use Rattle.vl_engine_model.specs.Rulings.Begin.{begun}
use Rattle.vl_engine_model.specs.declared.layout.Layout.{Layout}
use Rattle.vl_engine_model.specs.declared.lock_history.LockEntry.{LockEntry}
use Rattle.vl_engine_model.specs.declared.lock_history.LockStep.TheVariants.{Begun}
use Rattle.vl_engine_model.specs.laws.LockHistoryLaws.{history_of-same}
use Rattle.vl_model.specs.History.{History}
use Rattle.vl_engine.specs.declared.BeginFail.{BeginFail}
use Rattle.vlstore.specs.Entries.{begin_entry}
use Rattle.vlstore.specs.Lists.{history_by, past_of}
use Rattle.vlstore.specs.declared.locked.Origin.{Origin}
use Rattle.vl_turn.specs.Entries.{with_entry}

open_tickets-more : (ts : List OpenTicket) (es : List LockEntry) (e : LockEntry)
    → open_tickets ts (es ++ e ∷ []) ≡ tickets_after e.session e.step (open_tickets ts es)
open_tickets-more ts [] e = refl
open_tickets-more ts (d ∷ es) e = open_tickets-more (tickets_after d.session d.step ts) es e

-- a ticket that was put among others reads at its number
number_put : (s ticket number : ℕ) (ts : List OpenTicket) → number_of ticket (opened s ticket number ts) ≡ Some number
number_put s ticket number [] = ap (λ b. cond b (Some number) None) (let is : (ticket == ticket) ≡ true = grind (arith, nat_tests) in is)
number_put s ticket number (t ∷ ts) = by_test (nat_lt t.ticket ticket) refl (number_put s ticket number ts)
  where
    by_test : (b : Bool) → nat_lt t.ticket ticket ≡ b → number_of ticket (opened s ticket number ts) ≡ Some number
        → number_of ticket (cond b (t ∷ opened s ticket number ts)
        (record { session = s; ticket = ticket; number = number } ∷ t ∷ ts)) ≡ Some number
    by_test true less rest =
        let other : (t.ticket == ticket) ≡ false = grind (arith, nat_tests) in
        ap (λ b. cond b (Some t.number) (number_of ticket (opened s ticket number ts))) other ∙ rest
    by_test false less rest =
        let is : (ticket == ticket) ≡ true = grind (arith, nat_tests) in
        ap (λ b. cond b (Some number) (number_of ticket (t ∷ ts))) is

own_begun : (s ticket number : ℕ) (l : Layout) (own : List LockEntry)
    → number_of ticket (open_tickets [] (own ++ record { session = s; step = Begun ticket number; layout = l } ∷ [])) ≡ Some number
own_begun s ticket number l own =
    ap (number_of ticket) (open_tickets-more [] own (record { session = s; step = Begun ticket number; layout = l }))
    ∙ number_put s ticket number (open_tickets [] own)

module _ {H R : Type 0} (s : ℕ) (l : Layout) (h : History) (own now : List LockEntry) where
  pub txn_own : (r : Result (Txn H R) BeginFail) → now ≡ with_entry own (begin_entry s l h (begin_outcome r))
      → IfOk r (λ txn. number_of txn.ticket (open_tickets [] now) ≡ Some txn.number)
  txn_own (Ok txn) is = subst (λ es. number_of txn.ticket (open_tickets [] es) ≡ Some txn.number) (sym is)
      (own_begun s txn.ticket txn.number (begun l txn.ticket txn.number) own)
  txn_own (Err why) is = tt

  pub view_own : (r : Result (View H R) BeginFail) → now ≡ with_entry own (begin_entry s l h (view_outcome r))
      → IfOk r (λ view. number_of view.ticket (open_tickets [] now) ≡ Some view.number)
  view_own (Ok view) is = subst (λ es. number_of view.ticket (open_tickets [] es) ≡ Some view.number) (sym is)
      (own_begun s view.ticket view.number (begun l view.ticket view.number) own)
  view_own (Err why) is = tt

module _ {H R : Type 0} (bytes : H → Option (List ℕ)) (o : Origin) (s : ℕ) (l : Layout) (seen now : List LockEntry) where
  pub txn_sees : (r : Result (Txn H R) BeginFail) → now ≡ with_entry seen (begin_entry s l (history_by o seen) (begin_outcome r))
      → IfOk r (λ txn. Sees bytes txn (history_by o seen) []) → IfOk r (λ txn. Sees bytes txn (history_by o now) [])
  txn_sees (Ok txn) is sees = subst (λ (es : List LockEntry). Sees bytes txn (history_by o es) []) (sym is)
      (subst (λ (h : History). Sees bytes txn h [])
      (sym (history_of-same (past_of o.base) o.number seen
      (record { session = s; step = Begun txn.ticket txn.number; layout = begun l txn.ticket txn.number }) refl)) sees)
  txn_sees (Err why) is sees = tt

  pub view_sees : (r : Result (View H R) BeginFail) → now ≡ with_entry seen (begin_entry s l (history_by o seen) (view_outcome r))
      → IfOk r (λ view. SeesAlone bytes view (history_by o seen)) → IfOk r (λ view. SeesAlone bytes view (history_by o now))
  view_sees (Ok view) is sees = subst (λ (es : List LockEntry). SeesAlone bytes view (history_by o es)) (sym is)
      (subst (λ (h : History). SeesAlone bytes view h)
      (sym (history_of-same (past_of o.base) o.number seen
      (record { session = s; step = Begun view.ticket view.number; layout = begun l view.ticket view.number }) refl)) sees)
  view_sees (Err why) is sees = tt
