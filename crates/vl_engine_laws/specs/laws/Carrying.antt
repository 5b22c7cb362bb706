-- What a commit carries out over a disk that holds the engine's layout, by each of its exits.
use Rattle.std.specs.Prelude.{◌≡◌, ◌≤◌, ℕ, ◌+◌, T, List, [], Option, None, Some, refl}
use Rattle.std.specs.FinMap.{from_sorted, is_sorted}
use Rattle.std.specs.Option.{option_map}
use Rattle.std.proofs.Common.{sym, ap, subst, ◌∙◌, append-nil, arith, ⊎_elim}
use Rattle.vl_back.specs.declared.back.Back.{Back}
use Rattle.vl_disk.specs.Calls.{ChangesNothing}
use Rattle.vl_disk.specs.Crash.{Unchanged}
use Rattle.vl_disk.specs.Disk.{IsChangedBy}
use Rattle.vl_disk.specs.DiskState.{DiskState}
use Rattle.vl_disk.specs.Faults.{after_calls}
use Rattle.vl_disk.specs.Moments.{Elapses, While, goes_by, holds_weaker, waits}
use Rattle.vl_disk.specs.declared.name.Name.TheVariants as names
use Rattle.vl_disk.specs.declared.name.Name.{Name}
use Rattle.vl_disk.specs.declared.watched.Watched.{Ghosts}
use Rattle.vl_engine_laws.specs.laws.Represented.{represents_committed, represents_halted, represents_same}
use Rattle.vl_engine_laws.specs.laws.Standing.{tidy_then}
use Rattle.vl_engine_laws.specs.Carries.{Carries, CrashesShow, Tells}
use Rattle.vl_engine_laws.specs.Pointed.{layout_logs}
use Rattle.vl_engine_laws.specs.Represents.{IsHeld, Represents, StandsFor, file_of}
use Rattle.vl_engine_laws.specs.Shown.{LeavesBetween}
use Rattle.vl_engine_laws.specs.Spared.{at_rest, Spares}
use Rattle.vl_engine_laws.specs.Writing.{WhileWriting, written}
use Rattle.vl_engine_laws.specs.declared.kept.Core.{Core}
use Rattle.vl_engine_laws.specs.laws.CommitLaws.{commit_base, commit_holds, commit_opens_again, commit_shows}
use Rattle.vl_engine_laws.specs.laws.HeldLaws.{held_opens_again, held_shown}
use Rattle.vl_engine_laws.specs.laws.KeptLaws.{begun_kept, table_log, written_elsewhere}
use Rattle.vl_engine_laws.specs.laws.RulingLaws.{IsAccepted}
use Rattle.vl_engine_laws.specs.laws.ShownLaws.{between_itself, between_wider}
use Rattle.vl_engine_laws.specs.laws.SparedRulings.{committed_spares}
use Rattle.vl_frame.specs.Runs.{HasFrame}
use Rattle.vl_engine_model.specs.Decides.{Answered, Effects, Failed, NoMemory, Otherwise, as_before, no_effects}
use Rattle.vl_engine_model.specs.Ruling.{Ruling, ended, halted_at, leaving}
use Rattle.vl_engine_model.specs.Rulings.Commit.{At, Transaction, commit_frame, commit_lost, committed}
use Rattle.vl_engine_model.specs.Tidy.{IsTidy}
use Rattle.vl_engine_model.specs.declared.layout.Layout.{Layout}
use Rattle.vl_model.specs.Formats.{log_format}
use Rattle.vl_model.specs.History.{Extends, History, last_number, with_commit}
use Rattle.vl_model.specs.Keys.{key_cmp}
use Rattle.vl_model.specs.declared.log_frame.LogFrame.{LogFrame}
use Rattle.vl_model.specs.laws.HistoryLaws.{with_commit-extends}
use Rattle.vl_recover.specs.crash.Starts.{MayOpen}
use Rattle.vl_recover.specs.laws.crash.TornFrames.{frame_behind}
use Rattle.vl_seglog.specs.Frames.{frame_at, frames_grammar}

-- the laws of a disk that are needed here
pub record IsWatched {D : Type 0} (g : Ghosts D) : Type 0 where
  pub only_now : (disk : D) (state other : DiskState) → g.told disk ≡ Some state
      → g.states_since disk (g.moment disk) other → other ≡ state
  pub counts_now : (disk : D) (state : DiskState) (t : ℕ) → g.told disk ≡ Some state → t ≤ g.moment disk
      → g.states_since disk t state

pub extends_itself : (h : History) → Extends h h
extends_itself h = record { first = refl; base = refl; later = []; commits = sym (append-nil h.commits) }

module _ {D : Type 0} (g : Ghosts D) (watched : IsWatched g) where
  -- ---- nothing is changed

  module _ (h : History) (l : Layout) (tidy : IsTidy (layout_logs l) l h) (back : Back) where
    held_leaves : (disk : D) (held : IsHeld back (g.told disk) h l) → LeavesBetween h h held.state
    held_leaves disk held image left =
        between_itself h image (held_shown held.base l h held.is_base tidy held.state held.holds image left.left)

    -- a disk that is let alone shows the history
    pub rests : (disk : D) → IsHeld back (g.told disk) h l → CrashesShow g disk disk h h
    rests disk held = waits g (LeavesBetween h h) watched.only_now disk held.state held.told_is (held_leaves disk held)

    -- so does one that was only looked at
    pub looked : (old new : D) (failed : Type 0) → ChangesNothing g old new failed → IsHeld back (g.told old) h l
        → CrashesShow g old new h h
    looked old new failed no_change held =
        goes_by g (LeavesBetween h h) old old new held.state Unchanged held.told_is (rests old held) no_change.time
        (λ now same. subst (LeavesBetween h h) (sym same) (held_leaves old held))

    pub opens_again : (disk : D) → IsHeld back (g.told disk) h l → Tells g disk MayOpen
    opens_again disk held =
        (held.state, held.told_is, held_opens_again held.base l h held.is_base held.state tidy.levels held.holds)

  shows_wider : (old new : D) (h k : History) → Extends h k → CrashesShow g old new h h → CrashesShow g old new h k
  shows_wider old new h k extends goes =
      holds_weaker g (LeavesBetween h h) (LeavesBetween h k) old new goes
      (λ state leaves image left. between_wider h h h k (extends_itself h) extends image (leaves image left))

  module _ {H A : Type 0} (bytes : H → Option (List ℕ)) (core after : Core H) (h : History) (l : Layout) where
    -- The call was answered without the disk.
    pub carries_leaving : (disk : D) (answer : A) (x : Layout) (otherwise : Otherwise)
        → Represents bytes core (g.told disk) h l → Represents bytes after (g.told disk) h x
        → Carries g bytes disk disk after h l (leaving answer h x) otherwise (Answered answer) no_effects
    carries_leaving disk answer x otherwise is then = record {
      decides = record {
        answered = λ a said. (cc, then);
        did = λ a said. refl;
        no_memory = λ said. absurd cc;
        failed = λ name said. absurd cc;
        damaged = λ name place said. absurd cc;
      };
      called = λ a said. refl;
      through = λ running. rests h l is.stands.tidy core.back disk (is.held running);
      again = λ running. opens_again h l is.stands.tidy core.back disk (is.held running);
    }

    -- Memory ran out before the disk was changed.
    pub carries_no_memory : (old new : D) (failed : Type 0) (ruling : Ruling A) (lost : Layout)
        → ChangesNothing g old new failed → Extends h ruling.history → after.back ≡ core.back
        → Represents bytes core (g.told old) h l → StandsFor bytes after h l
        → Carries g bytes old new after h l ruling (as_before l lost) NoMemory no_effects
    carries_no_memory old new failed ruling lost no_change extends back is stands = record {
      decides = record {
        answered = λ a said. absurd cc;
        did = λ a said. absurd cc;
        no_memory = λ said. (represents_same bytes core after h l back (g.told old) (g.told new) no_change.told is stands, refl);
        failed = λ name said. absurd cc;
        damaged = λ name place said. absurd cc;
      };
      called = λ a said. absurd cc;
      through = λ running. shows_wider old new h ruling.history extends
          (looked h l is.stands.tidy core.back old new failed no_change (is.held running));
      again = λ running. let held = is.held running in (
        held.state,
        no_change.told ∙ held.told_is,
        held_opens_again held.base l h held.is_base held.state is.stands.tidy.levels held.holds,
      );
    }

  -- ---- a frame is written

  -- behind a log of which a disk holds all frames: what a crash leaves while it is written shows one of two histories, and a store
  -- may be opened then
  module _ (h longer : History) (extends : Extends h longer) (l : Layout) (tidy : IsTidy (layout_logs l) l h) (back : Back)
      (old mid new : D) (held : IsHeld back (g.told old) h l) (failed : Type 0) (no_change : ChangesNothing g old mid failed)
      (f : LogFrame) (frame : List ℕ) (frame_is : frame ≡ frame_at log_format l.active.number l.active.length f)
      (time : Elapses g mid new (WhileWriting (names.Log l.active.number) frame))
      (shows : (now : DiskState)
      → WhileWriting (names.Log l.active.number) (frame_behind l.active.format l.active.number l.active.frames f) held.state now
      → LeavesBetween h longer now)
      (opens : (now : DiskState)
      → WhileWriting (names.Log l.active.number) (frame_behind l.active.format l.active.number l.active.frames f) held.state now
      → MayOpen now) where
    abbrev active_name : Name
    active_name = names.Log l.active.number

    abbrev behind : List ℕ
    behind = frame_behind l.active.format l.active.number l.active.frames f

    -- it stands where the log's frames end
    frame_whole : frame ≡ behind
    frame_whole =
        frame_is
        ∙ ap (λ (n : ℕ). frame_at n l.active.number l.active.length f) (sym held.is_base.format)
        ∙ ap (λ (n : ℕ). frame_at l.active.format l.active.number n f) tidy.true_logs.0

    told_mid : g.told mid ≡ Some held.state
    told_mid = no_change.told ∙ held.told_is

    during_whole : (now : DiskState) → WhileWriting active_name frame held.state now → WhileWriting active_name behind held.state now
    during_whole now = subst (λ (piece : List ℕ). WhileWriting active_name piece held.state now) frame_whole

    -- What a crash leaves meanwhile shows the history, or the one with the frame.
    pub frame_goes : CrashesShow g old new h longer
    frame_goes =
        goes_by g (LeavesBetween h longer) old mid new held.state (WhileWriting active_name frame) told_mid
        (shows_wider old mid h longer extends (looked h l tidy back old mid failed no_change held))
        time (λ now during. shows now (during_whole now during))

    pub frame_may_open : (now : DiskState) → g.told new ≡ Some now → MayOpen now
    frame_may_open now told = ⊎_elim
        (λ (before : g.states_since mid (g.moment mid) now).
        subst MayOpen (sym (watched.only_now mid held.state now told_mid before))
        (held_opens_again held.base l h held.is_base held.state tidy.levels held.holds))
        (λ (during : While (g.told mid) (WhileWriting active_name frame) now). opens now (during_whole now (during held.state told_mid)))
        (time.nothing_else (g.moment mid) now (omega arith) (watched.counts_now new now (g.moment mid) told time.later))

    -- Where it was written, all of it stands.
    pub frame_told : IsChangedBy (written active_name frame) (g.told mid) (g.told new)
        → g.told new ≡ Some (written active_name behind held.state)
    frame_told changed = changed ∙ ap (option_map (written active_name frame)) told_mid
        ∙ ap (λ (piece : List ℕ). Some (written active_name piece held.state)) frame_whole

  -- ---- a commit is written

  module _ {H : Type 0} (bytes : H → Option (List ℕ)) (core after : Core H) (h : History) (l : Layout) (t : Transaction)
      (old mid new : D) (is : Represents bytes core (g.told old) h l) (rising : T (is_sorted key_cmp t.writes))
      (accepted : IsAccepted l h t) (failed : Type 0) (no_change : ChangesNothing g old mid failed) (frame : List ℕ)
      (frame_is : frame ≡ frame_at log_format l.active.number l.active.length (commit_frame h t.writes))
      (has : HasFrame (frames_grammar log_format) (commit_frame h t.writes))
      (time : Elapses g mid new (WhileWriting (names.Log l.active.number) frame)) where
    abbrev longer : History
    longer = with_commit h (from_sorted t.writes)

    abbrev name : Name
    name = names.Log l.active.number

    abbrev whole : List ℕ
    whole = frame_behind l.active.format l.active.number l.active.frames (commit_frame h t.writes)

    abbrev held : IsHeld core.back (g.told old) h l
    held = is.held accepted.running

    abbrev tidy : IsTidy (layout_logs l) l h
    tidy = is.stands.tidy

    extends : Extends h longer
    extends = with_commit-extends h (from_sorted t.writes)

    tidy_longer : IsTidy (layout_logs l) (committed l h t).layout (with_commit h (from_sorted t.writes))
    tidy_longer = tidy_then bytes core core h l is.stands t rising accepted

    spared_longer : Spares (at_rest (committed l h t).layout) (with_commit h (from_sorted t.writes))
    spared_longer = committed_spares (at_rest l) h held.is_base.spared t rising

    has_so : HasFrame (frames_grammar l.active.format) (commit_frame h t.writes)
    has_so = subst (λ (n : ℕ). HasFrame (frames_grammar n) (commit_frame h t.writes)) (sym held.is_base.format) has

    shows : (now : DiskState) → WhileWriting name whole held.state now → LeavesBetween h longer now
    shows = commit_shows held.base l h t held.is_base tidy held.state held.holds has_so tidy_longer spared_longer

    opens : (now : DiskState) → WhileWriting name whole held.state now → MayOpen now
    opens = commit_opens_again held.base l h t held.is_base tidy held.state held.holds has_so

    -- What a crash leaves meanwhile shows the history, or the one with the commit.
    goes_written : CrashesShow g old new h (with_commit h (from_sorted t.writes))
    goes_written = frame_goes h longer extends l tidy core.back old mid new held failed no_change (commit_frame h t.writes) frame
        frame_is time shows opens

    now_may_open : (now : DiskState) → g.told new ≡ Some now → MayOpen now
    now_may_open = frame_may_open h longer extends l tidy core.back old mid new held failed no_change (commit_frame h t.writes) frame
        frame_is time shows opens

    -- The disk failed while it was written.
    pub carries_failed : (now : DiskState) × (g.told new ≡ Some now) → (effects : Effects)
        → StandsFor bytes after h (halted_at (file_of name) (ended t.ticket l))
        → Carries g bytes old new after h l (committed l h t) (as_before l (commit_lost l t)) (Failed (file_of name)) effects
    carries_failed (now, told) effects stands = record {
      decides = record {
        answered = λ a said. absurd cc;
        did = λ a said. absurd cc;
        no_memory = λ said. absurd cc;
        failed = λ other said.
            let same : file_of name ≡ other = cc in
            subst (λ file. (l.halted ≡ None) × Represents bytes after (g.told new) h (halted_at file (ended t.ticket l))) same
            (accepted.running, represents_halted bytes after (g.told new) h (ended t.ticket l) name stands);
        damaged = λ other place said. absurd cc;
      };
      called = λ a said. absurd cc;
      through = λ running. goes_written;
      again = λ running. (now, told, now_may_open now told);
    }

    -- It was written.
    pub carries_committed : g.calls new ≡ after_calls 2 (g.calls mid)
        → IsChangedBy (written name frame) (g.told mid) (g.told new) → after.back ≡ core.back
        → StandsFor bytes after (with_commit h (from_sorted t.writes)) (committed l h t).layout
        → Carries g bytes old new after h l (committed l h t) (as_before l (commit_lost l t))
        (Answered (At (last_number h + 1))) (record { calls = 2; gone = [] })
    carries_committed calls changed back stands = record {
      decides = record {
        answered = λ a said. (cc, then);
        did = λ a said. refl;
        no_memory = λ said. absurd cc;
        failed = λ other said. absurd cc;
        damaged = λ other place said. absurd cc;
      };
      called = λ a said. calls ∙ ap (after_calls 2) no_change.calls;
      through = λ running. goes_written;
      again = λ running. (written name whole held.state, told, now_may_open (written name whole held.state) told);
    }
      where
        told : g.told new ≡ Some (written name whole held.state)
        told = frame_told h longer extends l tidy core.back old mid new held failed no_change (commit_frame h t.writes) frame
            frame_is time shows opens changed

        then : Represents bytes after (g.told new) (with_commit h (from_sorted t.writes)) (committed l h t).layout
        then = represents_committed bytes core after h l back t (g.told new) (written name whole held.state) held.base
            held.back_is told (commit_base held.base l h t held.is_base tidy spared_longer)
            (commit_holds held.base l h t held.is_base tidy held.state held.holds has_so)
            (begun_kept name held.state (written name whole held.state) (written_elsewhere name whole held.state)
            (λ n. table_log n l.active.number) held.base.state.next_table l.next_table held.begun) stands
