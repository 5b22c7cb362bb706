-- What a move does to a disk that holds the state before it, by what the engine carried out.
use Rattle.std.proofs.Common.{◌≡◌, ◌≤◌, ℕ, ◌+◌, inr, List, length, refl, ap, sym, ◌∙◌, subst, arith}
use Rattle.std.specs.Prelude.{Option, Some, Ok, Err, Result, OnOk, IsTrue}
use Rattle.std.specs.List.{AllByRecursion}
use Rattle.std.specs.Option.{option_map}
use Rattle.vl_engine_laws.specs.Carries.{Carries, SameFiles}
use Rattle.vl_engine_laws.specs.Held.{Holds}
use Rattle.vl_engine_laws.specs.Pointed.{layout_logs}
use Rattle.vl_engine_laws.specs.Represents as engine
use Rattle.vl_engine_laws.specs.Shown.{Shown}
use Rattle.vl_engine_laws.specs.Spared.{at_rest}
use Rattle.vl_engine_laws.specs.Writing.{StopsWriting, at_append, at_sync, written}
use Rattle.vl_engine_laws.specs.declared.kept.Core.{Core}
use Rattle.vl_engine_laws.specs.laws.KeptLaws.{begun_kept, table_log, written_elsewhere}
use Rattle.vl_engine_laws.specs.laws.RelocateLaws.{relocated_base, relocated_holds}
use Rattle.vl_engine_laws.specs.laws.RelocateRulings.{history_is}
use Rattle.vl_engine_laws.specs.laws.RelocateStanding.{relocated_spares}
use Rattle.vl_disk.specs.Calls.{ChangesNothing}
use Rattle.vl_disk.specs.DiskState.{appended}
use Rattle.vl_disk.specs.Faults.{after_calls}
use Rattle.vl_disk.specs.declared.name.Name.{Name as FileName}
use Rattle.vl_disk.specs.declared.watched.Watched.{Ghosts}
use Rattle.vl_steps.specs.Relocating.{IsMovable}
use Rattle.vl_frame.specs.Runs.{HasFrame}
use Rattle.vl_engine_model.specs.Decides.{Answered, Effects, Outcome, as_before}
use Rattle.vl_engine_model.specs.Relocation.{Candidate, Pass, moved_of}
use Rattle.vl_engine_model.specs.Ruling.{Ruling}
use Rattle.vl_engine_model.specs.Rulings.Relocate as move
use Rattle.vl_engine_model.specs.Rulings.Relocate.{MoveAnswer, relocate_ruling, relocated}
use Rattle.vl_engine_model.specs.Shown.{IsThere}
use Rattle.vl_engine_model.specs.Sources.{sources}
use Rattle.vl_engine_model.specs.Store.Commits.{history_in}
use Rattle.vl_engine_model.specs.Store.Lines.{Name}
use Rattle.vl_engine_model.specs.Store.Things.{APass, Step, thing_of}
use Rattle.vl_engine_model.specs.Tidy.{IsRuledTidy}
use Rattle.vl_engine_model.specs.declared.layout.Layout.{Layout}
use Rattle.vl_engine_model_laws.specs.laws.TidyRulings.{relocate_tidy}
use Rattle.vl_model.specs.Formats.{log_format}
use Rattle.vl_model.specs.History.{History, last_number}
use Rattle.vl_model.specs.declared.log_frame.LogFrame.{LogFrame}
use Rattle.vl_model.specs.declared.log_frame.LogFrame.TheVariants.{Relocated}
use Rattle.vl_model.specs.declared.log_frame.Moved.{Moved}
use Rattle.vl_recover.specs.laws.crash.TornFrames as torn
use Rattle.vl_seglog.specs.Frames.{frame_at, frames_grammar}
use Rattle.vl_script_model.specs.Durable.{CarriesOut, CrashesShow, HoldsState, LeadsTo, StopsWithin}
use Rattle.vl_script_model.specs.laws.DiskSteps.{own_commits}
use Rattle.vl_script_model.specs.Halts.{HaltsBeside, HaltsByDisk}
use Rattle.vl_replay_laws.specs.Replaying.{StandsIn, state_by}
use Rattle.vl_script_model.specs.Sequential.{State, history_of}
use Rattle.vl_script_model.specs.Stopped.{ByFrame, append_failed, frame_behind, log_of, sync_failed}
use Rattle.vl_script_model.specs.Stored.{IsStopped, IsStored}
use Rattle.vl_script_model.specs.declared.fails.Halt.{Halt}
use Rattle.vl_script_model.specs.declared.fails.Halt.TheVariants as why
use Rattle.vl_replay_laws.specs.declared.open.Open.{Open}
use Rattle.vl_script.specs.declared.answer.Answer.{Answer}
use Rattle.vl_replay_laws.specs.laws.Disk.Committed.{numbered_still}
use Rattle.vl_script_model.specs.laws.HeldDisk.{stored_as, stored_by}
use Rattle.vl_replay_laws.specs.laws.Names.Serving.{represents}
use Rattle.vl_script_model.specs.laws.Numbered.{changed_numbered}
use Rattle.vl_replay_laws.specs.laws.Passes.Moving as moves
use Rattle.vl_replay_laws.specs.laws.Passes.Moving.{IsRefusal, KeepsLogs, keeps_logs, refused_is, refused_leaves, step_by}

module _ {D H R : Type 0} (g : Ghosts D) (bytes : H → Option (List ℕ)) (before after : Core H) (old new : D)
    (os : List (Open H R)) (s : State) (stands : StandsIn bytes (g.told old) before os s)
    (within : after.back.state.next_log ≤ after.back.next_log)
    (name : Name) (p : Pass) (batch : List Candidate) (there : thing_of s.store name ≡ Some (APass p (Some batch))) where
  abbrev h : History
  h = history_of s

  abbrev l : Layout
  l = s.store.layout

  abbrev pub r : Ruling MoveAnswer
  r = relocate_ruling l h p batch

  abbrev pub moving : Step
  moving = moves.moving bytes (g.told old) (g.told new) before after os s stands name p batch there

  keeps : KeepsLogs l r.layout
  keeps = keeps_logs l h p batch

  -- the step leaves what the ruling leaves
  abbrev pub LeavesAs : Step → Type 0
  LeavesAs x = (x.state.layout ≡ r.layout) × (x.state.commits ≡ s.store.commits) × (x.calls ≡ r.calls)

  refused : (a : MoveAnswer) → a ≡ r.answer → IsRefusal l h a → LeavesAs moving
  refused a same refuses = subst LeavesAs
      (sym (refused_is bytes (g.told old) (g.told new) before after os s stands name p batch there a same refuses)) (
        ap (λ (q : Ruling MoveAnswer). q.layout) (sym (refused_leaves l h p batch a same refuses)),
        refl,
        ap (λ (q : Ruling MoveAnswer). q.calls) (sym (refused_leaves l h p batch a same refuses)),
      )

  leaves_by : (a : MoveAnswer) → a ≡ r.answer → LeavesAs moving
  leaves_by (move.Moves n) same = subst LeavesAs
      (sym (step_by bytes (g.told old) (g.told new) before after os s stands name p batch there (move.Moves n) same)) (refl, refl, refl)
  leaves_by (move.Halted file) same = refused (move.Halted file) same tt
  leaves_by (move.Exhausted c) same = refused (move.Exhausted c) same tt
  leaves_by (move.Full long frame) same = refused (move.Full long frame) same tt

  pub leaves : LeavesAs moving
  leaves = leaves_by r.answer refl

  its_history : history_in moving.state.commits ≡ h
  its_history = ap history_in leaves.1

  represents_before : HoldsState g IsStored s old → engine.Represents bytes before (g.told old) h l
  represents_before held = represents bytes (g.told old) before os s stands held.there.2.openable

  -- what is left where nothing was changed
  pub unchanged : {failed : Type 0} → ChangesNothing g old new failed → HoldsState g IsStored s old → HoldsState g IsStored s new
  unchanged none held = record { calls = none.calls ∙ held.calls; there = (held.there.0, none.told ∙ held.there.1, held.there.2) }

  module _ (files : SameFiles (g.told old) (g.told new)) (outcome : Outcome MoveAnswer) (effects : Effects)
      (carries : engine.Represents bytes before (g.told old) h l
      → Carries g bytes old new after h l r (as_before l l) outcome effects) where
    carried : HoldsState g IsStored s old → Carries g bytes old new after h l r (as_before l l) outcome effects
    carried held = carries (represents_before held)

    -- by what is so where it was answered, where memory ran out or a read failed, and where the disk did
    leads : (result : Result Answer Halt) → HoldsState g IsStored s old
        → OnOk result (HoldsState g IsStored (state_by s moving) new)
        → (HaltsBeside result → HoldsState g IsStored s new)
        → (HaltsByDisk result → IsTrue g.fails_cleanly → StopsWithin g IsStopped s (state_by s moving) old new)
        → LeadsTo g IsStored Shown IsStopped old new s (state_by s moving) result
    leads result held answered short stopped = record {
      answered = answered;
      short = λ by. own_commits g IsStored s (state_by s moving) new (short by);
      tells = (carried held).again stands.running;
      through = subst (λ (k : History). CrashesShow g Shown old new h k) (history_is l h p batch ∙ sym its_history)
          ((carried held).through stands.running);
      stopped = stopped;
    }

    -- It was answered by the engine, and so is the line.
    pub answered_moves : (a : MoveAnswer) → outcome ≡ Answered a → (answer : Answer)
        → CarriesOut g IsStored Shown IsStopped old new s (state_by s moving) (Ok answer)
    answered_moves a answered answer held =
        leads (Ok answer) held (record {
          calls = carries_now.called a answered ∙ ap (λ (n : ℕ). after_calls n (g.calls old)) (sym leaves.2)
              ∙ ap (after_calls moving.calls) held.calls;
          there = stored_by bytes after (g.told new) (state_by s moving) r.history r.layout leaves.0
              (its_history ∙ sym (history_is l h p batch)) held.there.2.openable (keeps.halted ∙ stands.running)
              (carries_now.decides.answered a answered).1 within
              (subst (λ (n : ℕ). n ≤ s.files + 1) (sym keeps.next_log) held.there.2.next_log)
              (subst (λ (n : ℕ). n ≤ s.files + 1) (sym keeps.next_table) held.there.2.next_drawn)
              (λ now then. numbered_still s.files (g.told old) (g.told new) held.there.0 now files held.there.1 then
              held.there.2.numbered);
        }) (λ by. absurd by) (λ halts. absurd halts)
      where
        carries_now : Carries g bytes old new after h l r (as_before l l) outcome effects
        carries_now = carried held

    -- Memory ran out, or a look-up failed, before anything was changed.
    pub short_moves : ChangesNothing g old new ⊥
        → CarriesOut {T = Answer} g IsStored Shown IsStopped old new s (state_by s moving) (Err why.NoMemory)
    short_moves none held = leads (Err why.NoMemory) held tt (λ by. unchanged none held) (λ halts. absurd halts)

    pub unread_moves : (file : FileName) → ChangesNothing g old new ⊥
        → CarriesOut {T = Answer} g IsStored Shown IsStopped old new s (state_by s moving) (Err (why.Read file))
    unread_moves file none held =
        leads (Err (why.Read file)) held tt (λ by. unchanged none held) (λ halts. absurd halts)

    -- ---- the disk failed

    module _ (movable : IsMovable h l p batch) (found : AllByRecursion (IsThere (layout_logs l) p.segment) batch) where
      abbrev frame : LogFrame
      frame = Relocated movable.moved

      abbrev whole : List ℕ
      whole = frame_behind s frame

      abbrev next : Layout
      next = relocated l movable.moved

      layout_then : moving.state.layout ≡ next
      layout_then = leaves.0 ∙ ap (λ (q : Ruling MoveAnswer). q.layout) movable.accepted

      moves_by : HoldsState g IsStored s old → ByFrame IsStored s (state_by s moving)
      moves_by held =
          let (disk, told, stored) = held.there in
          let has = subst (λ (n : ℕ). HasFrame (frames_grammar n) frame) (sym stored.is_base.format) movable.fits in
          let where_is : whole ≡ torn.frame_behind l.active.format l.active.number l.active.frames frame =
          ap (λ (n : ℕ). frame_at l.active.format l.active.number n frame) stored.tidy.true_logs.0 in
          let b = stored.base in
          record {
            old = disk;
            held = stored;
            item = frame;
            has = has;
            frame = whole;
            frame_is = refl;
            done = stored_as (state_by s moving) (written (log_of s) whole disk) b h next layout_then its_history stored.openable
                (relocated_base b l h movable.moved stored.is_base stored.tidy
                (relocated_spares (at_rest l) h movable.moved stored.is_base.spared))
                (subst (λ (piece : List ℕ). Holds b next (written (log_of s) piece disk)) (sym where_is)
                (relocated_holds b l h movable.moved stored.is_base stored.tidy disk stored.holds has))
                (subst (λ (q : Ruling MoveAnswer). IsRuledTidy (layout_logs l) q) movable.accepted
                (relocate_tidy (layout_logs l) l h stored.tidy p batch found))
                stored.next_table
                (begun_kept (log_of s) disk (written (log_of s) whole disk) (written_elsewhere (log_of s) whole disk)
                (λ n. table_log n l.active.number) b.state.next_table l.next_table stored.begun)
                (changed_numbered s.files (log_of s) _ (appended (log_of s) whole (length whole) disk)
                (changed_numbered s.files (log_of s) _ disk stored.numbered))
                stored.next stored.next_log stored.next_drawn;
            commits = inr leaves.1;
            files = refl;
          }

      all_calls : after_calls moving.calls s.calls ≡ after_calls 2 s.calls
      all_calls = ap (λ (n : ℕ). after_calls n s.calls) (leaves.2 ∙ ap (λ (q : Ruling MoveAnswer). q.calls) movable.accepted)

      module _ (held : HoldsState g IsStored s old) where
        -- it was stopped within its two calls
        stops_within : StopsWriting g (log_of s) whole old new → StopsWithin g IsStopped s (state_by s moving) old new
        unfolding moves_by
        stops_within (at_append changed calls) = record {
          passed = 0;
          has_passed = record { mid = old; counted = held.calls; steady = refl; as_planned = λ stop fails. fails };
          all = 2;
          more = omega arith;
          all_counted = all_calls;
          made = 1;
          least = omega arith;
          most = omega arith;
          calls = calls ∙ ap (after_calls 1) held.calls;
          now = appended (log_of s) whole 0 held.there.0;
          told = changed ∙ ap (option_map (appended (log_of s) whole 0)) held.there.1;
          stopped = append_failed (moves_by held) refl refl refl;
        }
        stops_within (at_sync changed calls passed) = record {
          passed = 1;
          has_passed = record {
            mid = passed.mid;
            counted = passed.counted ∙ ap (after_calls 1) held.calls;
            steady = passed.steady;
            as_planned = passed.as_planned;
          };
          all = 2;
          more = omega arith;
          all_counted = all_calls;
          made = 2;
          least = omega arith;
          most = omega arith;
          calls = calls ∙ ap (after_calls 2) held.calls;
          now = appended (log_of s) whole (length whole) held.there.0;
          told = changed ∙ ap (option_map (appended (log_of s) whole (length whole))) held.there.1;
          stopped = sync_failed (moves_by held) refl refl refl;
        }

        -- the frame is that of the state's log
        abbrev its_frame : List ℕ
        its_frame = frame_at log_format l.active.number l.active.length (Relocated (moved_of (sources l) p.segment (last_number h) batch))

        frame_is : its_frame ≡ whole
        frame_is =
            ap (λ (ms : List Moved). frame_at log_format l.active.number l.active.length (Relocated ms)) (sym movable.moved_is)
            ∙ ap (λ (n : ℕ). frame_at n l.active.number l.active.length frame) (sym held.there.2.is_base.format)

        stops_so : StopsWriting g (log_of s) its_frame old new → StopsWithin g IsStopped s (state_by s moving) old new
        stops_so stops = stops_within (subst (λ (piece : List ℕ). StopsWriting g (log_of s) piece old new) frame_is stops)

      -- The disk failed, and where it fails cleanly it was stopped within the move.
      pub failed_moves : (file : FileName)
          → (IsTrue g.fails_cleanly → StopsWriting g (log_of s)
          (frame_at log_format l.active.number l.active.length (Relocated (moved_of (sources l) p.segment (last_number h) batch))) old new)
          → CarriesOut {T = Answer} g IsStored Shown IsStopped old new s (state_by s moving) (Err (why.Disk file))
      failed_moves file stops held =
          leads (Err (why.Disk file)) held tt (λ by. absurd by) (λ halts clean. stops_so held (stops clean))
