-- What a call of commit comes to, by its answer.
use Rattle.std.proofs.Common.{◌≡◌, ◌≢◌, ℕ, true, false, List, [], ◌∷◌, refl, ap, sym, ◌∙◌, subst}
use Rattle.std.specs.Prelude.{None, Option, Some}
use Rattle.std.specs.FinMap.{entries}
use Rattle.vl_drive.specs.Answers.{asked}
use Rattle.vl_drive.specs.Entries.{commit_entry, forget_entry}
use Rattle.vl_drive.specs.Knowing.{IsOwnTicket, Knows, Stepped, with_entry}
use Rattle.vl_drive.specs.Steps.{entry_of, history_by, layout_by}
use Rattle.vl_drive.specs.laws.TurnLaws.{commit_at, commit_nothing}
use Rattle.vl_engine_model.specs.Decides.{Answered, Failed, Outcome}
use Rattle.vl_engine_model.specs.LockHistory.{number_of, open_tickets}
use Rattle.vl_engine_model.specs.Ruling.{ended, halted_at, logged}
use Rattle.vl_engine_model.specs.Rulings.Commit.{At, CommitAnswer, Conflict, Halted, Nothing, commit_frame, commit_ruling}
use Rattle.vl_engine_model.specs.Rulings.Forget.{forget_ruling}
use Rattle.vl_engine_model.specs.declared.file_name.FileName.{FileName}
use Rattle.vl_engine_model.specs.declared.lock_history.LockEntry.{LockEntry}
use Rattle.vl_engine_model.specs.declared.lock_history.LockStep.TheVariants.{Ended, Put}
use Rattle.vl_model.specs.Keys.{Writes}
use Rattle.vl_model.specs.Reads.{Read}
use Rattle.vl_sequence.proofs.Beginnings.{begins_itself, begins_more}
use Rattle.vl_sequence.proofs.Committed.{closes_with}
use Rattle.vl_sequence.specs.Causes.{IsRuled}
use Rattle.vl_sequence.specs.Sequences.{Closes, Puts}
use mathlib.Core.List.{IsPrefix}

first_part : (list : List LockEntry) (e : Option LockEntry) → IsPrefix list (with_entry list e)
first_part list None = begins_itself list
first_part list (Some e) = (e ∷ [], refl)

module _ (v w : Knows) (ticket number : ℕ) (reads : List Read) (writes : Writes) where
  abbrev Ran : Outcome CommitAnswer → Type 0
  Ran outcome =
      Stepped v w (λ l h. commit_ruling l h (asked ticket number reads (entries writes))) (commit_entry ticket (entries writes)) outcome

  -- ---- it ended

  pub at_closes : (n : ℕ) → Ran (Answered (At n)) → Closes true v w ticket
  at_closes n s =
      closes_with true v w ticket s.before (entry_of v.session (Put ticket n (entries writes))
      (logged (commit_frame (history_by v.origin s.before) (entries writes)) (ended ticket (layout_by v.origin s.before))))
      s.steps refl refl (λ ts. refl)

  pub conflict_closes : (key : List ℕ) (n : ℕ) → Ran (Answered (Conflict key n)) → Closes false v w ticket
  conflict_closes key n s =
      closes_with false v w ticket s.before (entry_of v.session (Ended ticket) (ended ticket (layout_by v.origin s.before)))
      s.steps refl refl (λ ts. refl)

  pub halted_closes : (name : FileName) → Ran (Answered (Halted name)) → Closes false v w ticket
  halted_closes name s =
      closes_with false v w ticket s.before (entry_of v.session (Ended ticket) (ended ticket (layout_by v.origin s.before)))
      s.steps refl refl (λ ts. refl)

  pub failed_closes : (name : FileName) → Ran (Failed name) → Closes false v w ticket
  failed_closes name s =
      closes_with false v w ticket s.before
      (entry_of v.session (Ended ticket) (halted_at name (ended ticket (layout_by v.origin s.before))))
      s.steps refl refl (λ ts. refl)

  -- ---- by the ruling

  pub at_puts : (n : ℕ) → Ran (Answered (At n)) → Puts v w ticket number reads writes
  at_puts n s =
      let h = history_by v.origin s.before in
      let l = layout_by v.origin s.before in
      let k = commit_at l h (asked ticket number reads (entries writes)) n (s.answer (At n) refl) in
      record {
        on = s.steps.on;
        before = s.before;
        entry = entry_of v.session (Put ticket n (entries writes)) (logged (commit_frame h (entries writes)) (ended ticket l));
        later = s.steps.later;
        seen = s.steps.seen;
        mine = refl;
        puts = ap (λ m. Put ticket m (entries writes)) k.0;
        none = k.1;
      }

  -- it had some writes
  pub never_nothing : entries writes ≢ [] → Ran (Answered Nothing) → ⊥
  never_nothing some s =
      some (commit_nothing (layout_by v.origin s.before) (history_by v.origin s.before)
      (asked ticket number reads (entries writes)) (s.answer Nothing refl))

  pub ruled : (answer : CommitAnswer) → Ran (Answered answer) → (x : Knows) → IsPrefix w.seen x.seen
      → IsRuled v.origin v.seen x.seen (asked ticket number reads (entries writes)) answer
  ruled answer s x more = record {
    before = s.before;
    later = s.steps.later;
    seen = begins_more s.before w.seen x.seen
        (subst (λ (es : List LockEntry). IsPrefix s.before es) (sym s.steps.seen)
        (first_part s.before (commit_entry ticket (entries writes) v.session (layout_by v.origin s.before)
        (history_by v.origin s.before) (Answered answer)))) more;
    answer_is = s.answer answer refl;
  }

-- ---- a transaction that comes back

pub still_own : (v w : Knows) (ticket number back back_number : ℕ) → back ≡ ticket → back_number ≡ number → w.own ≡ v.own
    → IsOwnTicket v ticket number → IsOwnTicket w back back_number
still_own v w ticket number back back_number is number_is same own =
    ap (λ es. number_of back (open_tickets [] es)) same ∙ ap (λ (k : ℕ). number_of k (open_tickets [] v.own)) is
    ∙ own ∙ ap Some (sym number_is)

pub forget_closes : (v w : Knows) (ticket number : ℕ) (writes : Writes)
    → Stepped v w (λ l h. forget_ruling l h (asked ticket number [] (entries writes))) (forget_entry ticket) (Answered tt)
    → Closes false v w ticket
forget_closes v w ticket number writes s =
    closes_with false v w ticket s.before (entry_of v.session (Ended ticket) (ended ticket (layout_by v.origin s.before)))
    s.steps refl refl (λ ts. refl)
