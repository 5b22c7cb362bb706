-- What each ruling leaves of the sources spares versions as it should.
use Rattle.std.proofs.Common.{◌≡◌, ℕ, ◌+◌, Bool, true, false, List, [], ◌∷◌, length, refl, subst}
use Rattle.std.specs.Prelude.{T, Option, None, Some, ◌==◌, ◌||◌, nat_le, nat_lt, if◌then◌else◌}
use Rattle.std.specs.FinMap.{entries-from_sorted, from_sorted, is_sorted}
use Rattle.vl_engine_laws.specs.Spared.{Spares, SparesRuled}
use Rattle.vl_engine_laws.specs.laws.SparedSteps.{spares_begun, spares_committed, spares_ended, spares_flushed, spares_keeping, spares_rotated}
use Rattle.vl_engine_model.specs.Ruling.{Ruling, ended, has_no_number, has_no_epoch, logged}
use Rattle.vl_engine_model.specs.Rulings.Begin.{begin_ruling}
use Rattle.vl_engine_model.specs.Rulings.Commit.{Transaction, commit_checked, commit_frame, commit_ruling, commit_running}
use Rattle.vl_engine_model.specs.Rulings.Commit.{commit_unless, committed}
use Rattle.vl_engine_model.specs.Rulings.Flush.{flush_of, flush_ruling, flush_unless}
use Rattle.vl_engine_model.specs.Rulings.Keep.{keep_ruling, keep_unless}
use Rattle.vl_engine_model.specs.Rulings.Rotate.{rotate_of, rotate_ruling, rotate_unless}
use Rattle.vl_engine_model.specs.Sources.{oldest}
use Rattle.vl_engine_model.specs.Tickets.{free_ticket, tickets_of}
use Rattle.vl_engine_model.specs.declared.file_name.FileName.{FileName}
use Rattle.vl_engine_model.specs.declared.layout.Layout.{Layout}
use Rattle.vl_engine_model.specs.declared.segment.Segment.{Segment}
use Rattle.vl_engine_model.specs.declared.table.Table.{Table}
use Rattle.vl_model.specs.Conflicts.{Named, first_conflict}
use Rattle.vl_model.specs.Frames.{frame_length}
use Rattle.vl_model.specs.History.{History, last_number, with_commit}
use Rattle.vl_model.specs.Keys.{key_cmp}
use Rattle.vl_model.specs.Limits.{max_commit_number, max_live}
use Rattle.vl_model.specs.declared.change.Change.{Change}
use Rattle.vl_model.specs.declared.log_frame.LogFrame.{LogFrame}

either : {A : Type 0} (b : Bool) (x y : Ruling A) → SparesRuled x → SparesRuled y → SparesRuled (if b then x else y)
either true x y one other = one
either false x y one other = other

module _ (l : Layout) (h : History) (spares : Spares l h) where
  -- a begin
  pub begin_spares : SparesRuled (begin_ruling l h)
  begin_spares = either (nat_le max_live (length l.live)) _ _ spares (spares_begun l h (free_ticket (tickets_of l.live)) spares)

  -- a commit
  module _ (t : Transaction) (rising : T (is_sorted key_cmp t.writes)) where
    pub committed_spares : SparesRuled (committed l h t)
    committed_spares =
        subst (λ (ws : List (List ℕ × Change)). Spares (logged (commit_frame h ws) (ended t.ticket l))
        (with_commit h (from_sorted t.writes)))
        (entries-from_sorted key_cmp t.writes rising) (spares_committed l h t.ticket (from_sorted t.writes) spares)

    checked_spares : (conflict : Option Named) → SparesRuled (commit_checked l h t conflict)
    checked_spares (Some named) = spares_ended l h t.ticket spares
    checked_spares None =
        either (nat_le (l.active.length + frame_length l.active.format (commit_frame h t.writes)) l.room) (committed l h t) _
        committed_spares spares

    running_spares : (conflict : Option Named) → SparesRuled (commit_running l h t conflict)
    running_spares conflict =
        either (length t.writes == 0) _ _ (spares_ended l h t.ticket spares)
        (either (nat_le max_commit_number (last_number h)) _ _ spares (checked_spares conflict))

    unless_spares : (halted : Option FileName) → SparesRuled (commit_unless halted l h t (first_conflict h t.number t.reads))
    unless_spares (Some name) = spares_ended l h t.ticket spares
    unless_spares None = running_spares (first_conflict h t.number t.reads)

    pub commit_spares : SparesRuled (commit_ruling l h t)
    commit_spares = unless_spares l.halted

  -- a rotation
  rotate_of_spares : (frames : List LogFrame) → SparesRuled (rotate_of frames l h)
  rotate_of_spares [] = spares
  rotate_of_spares (f ∷ fs) =
      either (has_no_number l.next_log 1) _ _ spares (either (has_no_epoch l) _ _ spares (spares_rotated l h spares))

  rotate_unless_spares : (halted : Option FileName) → SparesRuled (rotate_unless halted l h)
  rotate_unless_spares (Some name) = spares
  rotate_unless_spares None = rotate_of_spares l.active.frames

  pub rotate_spares : SparesRuled (rotate_ruling l h)
  rotate_spares = rotate_unless_spares l.halted

  -- a flush
  module _ (level : List Table) (deeper : List (List Table)) (are : l.levels ≡ level ∷ deeper) where
    flush_of_spares : (o : Option Segment) → oldest l.frozen ≡ o → SparesRuled (flush_of l h o)
    flush_of_spares None waits = spares
    flush_of_spares (Some s) waits =
        either (has_no_number l.next_table 1) _ _ spares
        (either (has_no_epoch l) _ _ spares (spares_flushed l h s waits level deeper are spares))

    flush_unless_spares : (halted : Option FileName) → SparesRuled (flush_unless halted l h)
    flush_unless_spares (Some name) = spares
    flush_unless_spares None = flush_of_spares (oldest l.frozen) refl

    pub flush_spares : SparesRuled (flush_ruling l h)
    flush_spares = flush_unless_spares l.halted

  -- a change of how many versions are kept
  keep_unless_spares : (v : ℕ) (halted : Option FileName) → SparesRuled (keep_unless halted l h v)
  keep_unless_spares v (Some name) = spares
  keep_unless_spares v None =
      either ((v == 0) || nat_lt 16 v) _ _ spares (either (v == l.keep) _ _ spares (spares_keeping l h v spares))

  pub keep_spares : (v : ℕ) → SparesRuled (keep_ruling l h v)
  keep_spares v = keep_unless_spares v l.halted
