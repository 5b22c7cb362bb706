-- What each call makes of the list, by the ruling on it: begins, ends, commits, and steps on files.
use Rattle.std.proofs.Common.{◌≡◌, ◌≢◌, ℕ, ◌+◌, List, [], ◌∷◌, length, refl, sym, ap, ◌∙◌, subst}
use Rattle.std.proofs.lemmas.Bool.{false≢true}
use Rattle.std.specs.Prelude.{Bool, true, false, ◌==◌, nat_le, if◌then◌else◌, Option, None, Some, IsTrue}
use Rattle.std.specs.FinMap.{is_sorted}
use Rattle.vl_engine_laws.specs.Lasts.{Lasts}
use Rattle.vl_engine_laws.specs.laws.Lasting.{flush_lasts, lasts_halted, lasts_rotated, lasts_same}
use Rattle.vl_engine_model.specs.Decides.{Answered, as_before}
use Rattle.vl_engine_model.specs.LockHistory.{IsOpen, put_after}
use Rattle.vl_engine_model.specs.Ruling.{Exhausted, Ruling, StepAnswer}
use Rattle.vl_engine_model.specs.Ruling.{ended, halted_at, has_no_number, has_no_epoch, leaving}
use Rattle.vl_engine_model.specs.Rulings.Begin.{BeginAnswer, begin_ruling, begun}
use Rattle.vl_engine_model.specs.Rulings.Commit as commit
use Rattle.vl_engine_model.specs.Rulings.Commit.{CommitAnswer, Transaction, commit_checked}
use Rattle.vl_engine_model.specs.Rulings.Commit.{commit_ended, commit_frame, commit_lost, commit_ruling}
use Rattle.vl_engine_model.specs.Rulings.Commit.{commit_running, commit_unless, committed}
use Rattle.vl_engine_model.specs.Rulings.Flush.{flush_of, flush_ruling, flush_unless, flushed}
use Rattle.vl_engine_model.specs.Rulings.Rotate.{rotate_of, rotate_ruling, rotate_unless, rotated}
use Rattle.vl_engine_model.specs.Sources.{oldest}
use Rattle.vl_engine_model.specs.Tickets.{free_ticket, tickets_of}
use Rattle.vl_engine_model.specs.declared.file_name.FileName.{FileName}
use Rattle.vl_engine_model.specs.declared.layout.Layout.{Layout}
use Rattle.vl_engine_model.specs.declared.lock_history.LockEntry.{LockEntry}
use Rattle.vl_engine_model.specs.declared.lock_history.LockStep.{LockStep}
use Rattle.vl_engine_model.specs.declared.lock_history.LockStep.TheVariants.{Begun, Changed, Ended}
use Rattle.vl_engine_model.specs.declared.segment.Segment.{Segment}
use Rattle.vl_engine_model.specs.laws.LockHistoryLaws.{history_of-put, history_of-same}
use Rattle.vl_model.specs.Conflicts.{Named, first_conflict}
use Rattle.vl_model.specs.Frames.{frame_length}
use Rattle.vl_model.specs.History.{History, last_number}
use Rattle.vl_model.specs.Keys.{key_cmp}
use Rattle.vl_model.specs.Limits.{max_commit_number, max_live}
use Rattle.vl_model.specs.declared.counter.Counter.TheVariants as counter
use Rattle.vl_model.specs.declared.log_frame.LogFrame.{LogFrame}
use Rattle.vl_seglog.specs.declared.sealed.SealedLog.{SealedLog}
use Rattle.vlstore.specs.Entries.{begin_entry, commit_entry, end_entry, entry_by, flush_entry, rotate_entry, step_done}
use Rattle.vlstore.specs.Lists.{history_by, layout_by, open_by, past_of}
use Rattle.vlstore.specs.Standing.{IsBehind, Parts}
use Rattle.vlstore.specs.declared.locked.Origin.{Origin}
use Rattle.vlstore.proofs.Leading.{LeadsBy, LeadsTo}
use Rattle.vlstore.proofs.Legal.{IsNext, begins, changed, ends, puts}

module _ {H L : Type 0} {sure : Type 0} (bytes : H → Option (List ℕ)) (o : Origin) (list : List LockEntry) (x : Parts H L)
    (is : IsBehind bytes sure o list x) (session : ℕ) where
  abbrev pub h : History
  h = history_by o list

  abbrev pub l : Layout
  l = layout_by o list

  abbrev pub Next : LockStep → Layout → Type 0
  Next step next = IsNext o list is.start is.legal session step next

  abbrev pub Last : Layout → Type 0
  Last next = (log : SealedLog H) → Lasts bytes log l → Lasts bytes log next

  -- nothing was changed
  pub stays : LeadsTo bytes o list l.halted None h l
  stays = (refl, refl)

  -- an entry that commits nothing
  pub enters : (step : LockStep) (next : Layout) (at : Option FileName) → put_after step [] ≡ [] → Next step next → Last next
      → next.halted ≡ at → LeadsTo bytes o list at (Some (record { session = session; step = step; layout = next })) h next
  enters step next at none legal lasts halted = record {
    legal = legal;
    lasts = lasts;
    halted = halted;
    layout = refl;
    history = history_of-same (past_of o.base) o.number list (record { session = session; step = step; layout = next }) none;
  }

  pub halts : (name : FileName) → LeadsTo bytes o list (Some name)
      (Some (record { session = session; step = Changed; layout = halted_at name l })) h (halted_at name l)
  halts name = enters Changed (halted_at name l) (Some name) refl
      (changed o list is.start is.legal session (halted_at name l) refl refl refl)
      (λ log lasts. lasts_halted bytes log l lasts name) refl

  either : {A : Type 0} (P : Ruling A → Type 0) (b : Bool) (r s : Ruling A) → P r → P s → P (if b then r else s)
  either P true r s of_r of_s = of_r
  either P false r s of_r of_s = of_s

  -- ---- begins

  pub begin_leads : LeadsBy bytes o list (begin_ruling l h) (as_before l l) (begin_entry session l h)
  begin_leads = record {
    answered = either (λ (r : Ruling BeginAnswer). LeadsTo bytes o list l.halted (begin_entry session l h (Answered r.answer)) r.history r.layout)
        (nat_le max_live (length l.live)) _ _ stays
        (enters (Begun (free_ticket (tickets_of l.live)) (last_number h)) (begun l (free_ticket (tickets_of l.live)) (last_number h)) l.halted
        refl (begins o list is.start is.legal session) (λ log lasts. lasts_same bytes log l lasts _ refl refl) refl);
    short = stays;
    failed = halts;
    damaged = λ name place. stays;
  }

  -- ---- ends

  pub end_leads : (ticket : ℕ) (next : Layout) → IsOpen session ticket (open_by list).tickets → next ≡ ended ticket l
      → LeadsTo bytes o list l.halted (Some (record { session = session; step = Ended ticket; layout = next })) h next
  end_leads ticket next opens is_ended = subst
      (λ (m : Layout). LeadsTo bytes o list l.halted (Some (record { session = session; step = Ended ticket; layout = m })) h m)
      (sym is_ended) (enters (Ended ticket) (ended ticket l) l.halted refl
      (ends o list is.start is.legal session ticket (ended ticket l) opens refl refl refl)
      (λ log lasts. lasts_same bytes log l lasts _ refl refl) refl)

  pub ends_lead : (ticket : ℕ) → IsOpen session ticket (open_by list).tickets
      → LeadsBy bytes o list (leaving {A = Unit {0}} tt h (ended ticket l)) (as_before l (ended ticket l)) (end_entry ticket session l h)
  ends_lead ticket opens = record {
    answered = end_leads ticket (ended ticket l) opens refl;
    short = stays;
    failed = λ name. enters (Ended ticket) (halted_at name (ended ticket l)) (Some name) refl
        (ends o list is.start is.legal session ticket (halted_at name (ended ticket l)) opens refl refl refl)
        (λ log lasts. lasts_same bytes log l lasts _ refl refl) refl;
    damaged = λ name place. stays;
  }

  -- ---- commits

  module _ (t : Transaction) (opens : IsOpen session t.ticket (open_by list).tickets) (sorted : IsTrue (is_sorted key_cmp t.writes)) where
    abbrev Good : Ruling CommitAnswer → Type 0
    Good r = LeadsTo bytes o list l.halted (commit_entry t.ticket t.writes session l h (Answered r.answer)) r.history r.layout

    ends_here : LeadsTo bytes o list l.halted (Some (record { session = session; step = Ended t.ticket; layout = ended t.ticket l })) h
        (ended t.ticket l)
    ends_here = end_leads t.ticket (ended t.ticket l) opens refl

    commits : t.writes ≢ [] → Good (committed l h t)
    commits some = record {
      legal = puts o list is.start is.legal session t.ticket _ t.writes (committed l h t).layout opens refl some sorted refl refl refl;
      lasts = λ log lasts. lasts_same bytes log l lasts _ refl refl;
      halted = refl;
      layout = refl;
      history = history_of-put (past_of o.base) o.number list session t.ticket _ t.writes (committed l h t).layout;
    }

    checked : t.writes ≢ [] → (conflict : Option Named) → Good (commit_checked l h t conflict)
    checked some (Some named) = ends_here
    checked some None =
        either Good (nat_le (l.active.length + frame_length l.active.format (commit_frame h t.writes)) l.room) (committed l h t)
        (leaving (commit.Full l.active.length (frame_length l.active.format (commit_frame h t.writes))) h l) (commits some) stays

    running : (conflict : Option Named) → Good (commit_running l h t conflict)
    running conflict = by_test (length t.writes == 0) refl
      where
        by_test : (b : Bool) → (length t.writes == 0) ≡ b
            → Good (if b then commit_ended commit.Nothing l h t
            else (if nat_le max_commit_number (last_number h) then leaving (commit.Exhausted counter.Commit) h l
            else commit_checked l h t conflict))
        by_test true none = ends_here
        by_test false some =
            either Good (nat_le max_commit_number (last_number h)) (leaving (commit.Exhausted counter.Commit) h l)
            (commit_checked l h t conflict) stays
            (checked (λ none. false≢true (sym some ∙ ap (λ ws. length ws == 0) none)) conflict)

    unless : (halted : Option FileName) (conflict : Option Named) → Good (commit_unless halted l h t conflict)
    unless (Some name) conflict = ends_here
    unless None conflict = running conflict

    pub commit_leads : LeadsBy bytes o list (commit_ruling l h t) (as_before l (commit_lost l t))
        (commit_entry t.ticket t.writes session l h)
    commit_leads = record {
      answered = unless l.halted (first_conflict h t.number t.reads);
      short = stays;
      failed = λ name. enters (Ended t.ticket) (halted_at name (ended t.ticket l)) (Some name) refl
          (ends o list is.start is.legal session t.ticket (halted_at name (ended t.ticket l)) opens refl refl refl)
          (λ log lasts. lasts_same bytes log l lasts _ refl refl) refl;
      damaged = λ name place. stays;
    }

  -- ---- steps on files

  abbrev GoodStep : Layout → Ruling StepAnswer → Type 0
  GoodStep next r = LeadsTo bytes o list l.halted (entry_by (step_done next) (Changed, l) session (Answered r.answer)) r.history r.layout

  rotates_of : (fs : List LogFrame) → GoodStep (rotated l) (rotate_of fs l h)
  rotates_of [] = stays
  rotates_of (f ∷ fs) =
      either (GoodStep (rotated l)) (has_no_number l.next_log 1) _ _ stays
      (either (GoodStep (rotated l)) (has_no_epoch l) _ _ stays
      (enters Changed (rotated l) l.halted refl (changed o list is.start is.legal session (rotated l) refl refl refl)
      (λ log lasts. lasts_rotated bytes log l lasts is.whole.represents.stands.tidy.files.stocked.logs_drawn.0) refl))

  rotates : (halted : Option FileName) → GoodStep (rotated l) (rotate_unless halted l h)
  rotates (Some name) = stays
  rotates None = rotates_of l.active.frames

  pub rotate_leads : LeadsBy bytes o list (rotate_ruling l h) (as_before l l) (rotate_entry session l h)
  rotate_leads = record {
    answered = rotates l.halted;
    short = stays;
    failed = halts;
    damaged = λ name place. stays;
  }

  -- by what a flush leaves, whatever that is
  abbrev Flushes : Ruling StepAnswer → Type 0
  Flushes r = Last r.layout → GoodStep r.layout r

  flushes_of : (s : Option Segment) → Flushes (flush_of l h s)
  flushes_of None = λ last. stays
  flushes_of (Some s) =
      either Flushes (has_no_number l.next_table 1) (leaving (Exhausted counter.Table) h l) _ (λ last. stays)
      (either Flushes (has_no_epoch l) (leaving (Exhausted counter.Version) h l) _ (λ last. stays)
      (λ last. enters Changed (flushed l s) l.halted refl (changed o list is.start is.legal session (flushed l s) refl refl refl) last
      refl))

  flushes : (halted : Option FileName) → Flushes (flush_unless halted l h)
  flushes (Some name) = λ last. stays
  flushes None = flushes_of (oldest l.frozen)

  pub flush_leads : LeadsBy bytes o list (flush_ruling l h) (as_before l l) (flush_entry session l h)
  flush_leads = record {
    answered = flushes l.halted (λ log lasts. flush_lasts bytes log l h lasts is.whole.represents.stands.tidy);
    short = stays;
    failed = halts;
    damaged = λ name place. stays;
  }
