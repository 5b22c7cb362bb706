-- What a commit does to a disk that holds the state before it, by what the engine carried out.
use Rattle.std.proofs.Common.{◌≡◌, ◌≤◌, ℕ, ◌+◌, inl, List, length, refl, ap, sym, ◌∙◌, subst, arith}
use Rattle.std.specs.Prelude.{Option, None, Some, Ok, Err, Result, OnOk, IsErrAnd, IsTrue, T}
use Rattle.std.specs.FinMap.{entries, entries_sorted, is_sorted}
use Rattle.std.specs.Option.{option_map}
use Rattle.vl_disk.specs.Calls.{ChangesNothing}
use Rattle.vl_disk.specs.DiskState.{DiskState, appended}
use Rattle.vl_disk.specs.Faults.{after_calls}
use Rattle.vl_disk.specs.declared.name.Name.{Name as FileName}
use Rattle.vl_disk.specs.declared.watched.Watched.{Ghosts}
use Rattle.vl_steps.specs.Answers.{IsWritable}
use Rattle.vl_engine_laws.specs.Carries.{Carries, SameFiles}
use Rattle.vl_engine_laws.specs.Held.{Holds}
use Rattle.vl_engine_laws.specs.Represents as engine
use Rattle.vl_reads.specs.Sees.{asked}
use Rattle.vl_engine_laws.specs.Pointed.{layout_logs}
use Rattle.vl_engine_laws.specs.Shown.{Shown}
use Rattle.vl_engine_laws.specs.Spared.{at_rest}
use Rattle.vl_engine_laws.specs.Writing.{StopsWriting, at_append, at_sync, written}
use Rattle.vl_back.specs.declared.back.Back.{Back}
use Rattle.vl_engine_laws.specs.declared.kept.Core.{Core}
use Rattle.vl_reads.specs.declared.txn.Txn.{Txn}
use Rattle.vl_engine_laws.specs.laws.CommitLaws.{commit_base, commit_holds}
use Rattle.vl_engine_laws.specs.laws.KeptLaws.{begun_kept, table_log, written_elsewhere}
use Rattle.vl_engine_laws.specs.laws.SparedRulings.{committed_spares}
use Rattle.vl_frame.specs.Runs.{HasFrame}
use Rattle.vl_engine_model.specs.AtAnswer.{Beginning}
use Rattle.vl_engine_model.specs.Decides.{Answered, Effects, NoMemory as OutOfMemory, Outcome, as_before}
use Rattle.vl_engine_model.specs.Ruling.{Ruling}
use Rattle.vl_engine_model.specs.Rulings.Commit as commit
use Rattle.vl_engine_model.specs.Rulings.Commit.{CommitAnswer, Transaction as ATxn, commit_frame, commit_lost}
use Rattle.vl_engine_model.specs.Rulings.Commit.{commit_ruling, commit_unless, committed}
use Rattle.vl_engine_model.specs.Store.Commits.{history_in}
use Rattle.vl_engine_model.specs.Store.Lines.{Done, Name}
use Rattle.vl_engine_model.specs.Store.Reading.{commit_by, committed_by}
use Rattle.vl_engine_model.specs.Store.Lines as store_lines
use Rattle.vl_engine_model.specs.Store.Things as store
use Rattle.vl_engine_model.specs.Store.Things.{ATransaction, Step, only, thing_of}
use Rattle.vl_engine_model.specs.Tidy.{IsTidy}
use Rattle.vl_engine_model.specs.declared.layout.Layout.{Layout}
use Rattle.vl_engine_model.specs.laws.CommitsLaws.{conflict_in-is}
use Rattle.vl_engine_model_laws.specs.laws.TidyRulings.{commit_tidy}
use Rattle.vl_model.specs.Formats.{log_format}
use Rattle.vl_model.specs.History.{History, last_number}
use Rattle.vl_model.specs.Keys.{key_cmp}
use Rattle.vl_model.specs.declared.change.Change.{Change}
use Rattle.vl_model.specs.declared.counter.Counter.{Counter}
use Rattle.vl_recover.specs.laws.crash.TornFrames as torn
use Rattle.vl_script_model.specs.Durable.{CarriesOut, CrashesShow, HoldsState, LeadsTo, StopsWithin, Tells}
use Rattle.vl_script_model.specs.Halts.{HaltsBeside, HaltsByDisk}
use Rattle.vl_replay_laws.specs.Replaying.{StandsIn, state_by}
use Rattle.vl_script_model.specs.Sequential.{State, history_of}
use Rattle.vl_replay_laws.specs.Standing.{IsTransaction}
use Rattle.vl_script_model.specs.Stopped.{AreNumberedUpTo, ByFrame, append_failed, frame_behind, log_of, sync_failed}
use Rattle.vl_script_model.specs.Stored.{IsStopped, IsStored}
use Rattle.vl_script_model.specs.declared.fails.Halt.{Halt}
use Rattle.vl_script_model.specs.declared.fails.Halt.TheVariants as why
use Rattle.vl_replay_laws.specs.declared.open.Open.{Open}
use Rattle.vl_script_model.specs.laws.Growing.{Keeps, history_more}
use Rattle.vl_script.specs.declared.answer.Answer.{Answer}
use Rattle.vl_seglog.specs.Frames.{frame_at, frames_grammar}
use Rattle.vl_script_model.specs.laws.DiskSteps.{own_commits}
use Rattle.vl_script_model.specs.laws.HeldDisk.{stored_as, stored_by}
use Rattle.vl_replay_laws.specs.laws.Names.CommitMaking.{answers_ruling, ruling_of}
use Rattle.vl_replay_laws.specs.laws.Names.Serving.{represents}
use Rattle.vl_script_model.specs.laws.Numbered.{changed_numbered}

-- ---- a step by the answer on it

module _ (s : State) (name : Name) (t : ATxn) (b : Beginning) where
  abbrev h : History
  h = history_of s

  abbrev l : Layout
  l = s.store.layout

  abbrev committing : Step
  committing = commit_by s.store name (thing_of s.store name)

  abbrev by : CommitAnswer → Step
  by a = committed_by s.store name t (ruling_of l h t a) (ruling_of l h t a).answer

  -- it leaves what the ruling leaves
  by_layout : (a : CommitAnswer) → (by a).state.layout ≡ (ruling_of l h t a).layout
  by_layout (commit.At n) = refl
  by_layout commit.Nothing = refl
  by_layout (commit.Halted file) = refl
  by_layout (commit.Exhausted c) = refl
  by_layout (commit.Conflict key n) = refl
  by_layout (commit.Full long frame) = refl

  by_history : (a : CommitAnswer) → history_in (by a).state.commits ≡ (ruling_of l h t a).history
  by_history (commit.At n) = history_more s.store.commits t.writes
  by_history commit.Nothing = refl
  by_history (commit.Halted file) = refl
  by_history (commit.Exhausted c) = refl
  by_history (commit.Conflict key n) = refl
  by_history (commit.Full long frame) = refl

  by_calls : (a : CommitAnswer) → (by a).calls ≡ (ruling_of l h t a).calls
  by_calls (commit.At n) = refl
  by_calls commit.Nothing = refl
  by_calls (commit.Halted file) = refl
  by_calls (commit.Exhausted c) = refl
  by_calls (commit.Conflict key n) = refl
  by_calls (commit.Full long frame) = refl

  by_halted : (a : CommitAnswer) → (ruling_of l h t a).layout.halted ≡ l.halted
  by_halted (commit.At n) = refl
  by_halted commit.Nothing = refl
  by_halted (commit.Halted file) = refl
  by_halted (commit.Exhausted c) = refl
  by_halted (commit.Conflict key n) = refl
  by_halted (commit.Full long frame) = refl

  by_next : (a : CommitAnswer) → (ruling_of l h t a).layout.next_log ≡ l.next_log
  by_next (commit.At n) = refl
  by_next commit.Nothing = refl
  by_next (commit.Halted file) = refl
  by_next (commit.Exhausted c) = refl
  by_next (commit.Conflict key n) = refl
  by_next (commit.Full long frame) = refl

  by_next_table : (a : CommitAnswer) → (ruling_of l h t a).layout.next_table ≡ l.next_table
  by_next_table (commit.At n) = refl
  by_next_table commit.Nothing = refl
  by_next_table (commit.Halted file) = refl
  by_next_table (commit.Exhausted c) = refl
  by_next_table (commit.Conflict key n) = refl
  by_next_table (commit.Full long frame) = refl

-- one that changes nothing keeps all
pub only_keeps : (s : store.State) (x : Step) (answer : store_lines.Answer) → x ≡ only answer s → Keeps s x
only_keeps s x answer is = subst (Keeps s) (sym is) (record { commits = refl; layout = refl; calls = refl })

-- where memory ran out it is carried out as where the answer says so
pub carries_short : {D : Type 0} (g : Ghosts D) (old new : D) (s after : State) (result : Result Answer Halt)
    → IsErrAnd result (λ halt. halt ≡ why.NoMemory)
    → CarriesOut {T = Answer} g IsStored Shown IsStopped old new s after (Err why.NoMemory)
    → CarriesOut g IsStored Shown IsStopped old new s after result
carries_short g old new s after (Ok answer) out carries = absurd out
carries_short g old new s after (Err halt) out carries =
    subst (λ (x : Halt). CarriesOut {T = Answer} g IsStored Shown IsStopped old new s after (Err x)) (sym out) carries

-- ---- what a disk holds then

-- where the same files stand, none has a greater number
pub numbered_still : (n : ℕ) (old new : Option DiskState) (disk now : DiskState) → SameFiles old new → old ≡ Some disk
    → new ≡ Some now → AreNumberedUpTo n disk → AreNumberedUpTo n now
numbered_still n old new disk now same told then numbered = record {
  standing = λ name there. numbered.standing name (λ none. there ((same disk now told then name).0.1 none));
  removed = λ name there. numbered.removed name (λ none. there ((same disk now told then name).1.1 none));
}

-- ---- a transaction that was asked to commit

module _ {D H R : Type 0} (g : Ghosts D) (bytes : H → Option (List ℕ)) (before after : Core H) (old new : D)
    (os : List (Open H R)) (s : State) (stands : StandsIn bytes (g.told old) before os s) (back : after.back ≡ before.back)
    (name : Name) (txn : Txn H R) (t : ATxn) (b : Beginning) (there : thing_of s.store name ≡ Some (ATransaction t b))
    (is : IsTransaction bytes txn t (history_of s) s.store.layout) where
  abbrev r : Ruling CommitAnswer
  r = commit_ruling s.store.layout (history_of s) t

  -- the step is that of the answer, and leaves what the ruling leaves
  step_is : (a : CommitAnswer) → a ≡ r.answer → committing s name t b ≡ by s name t b a
  step_is a same =
      ap (commit_by s.store name) there
      ∙ ap (λ (r : Ruling CommitAnswer). committed_by s.store name t r r.answer)
      (ap (commit_unless s.store.layout.halted s.store.layout (history_of s) t)
      (conflict_in-is s.store.commits stands.sound.proper.commits t.number t.reads)
      ∙ answers_ruling s.store.layout (history_of s) t a same)

  ruling_is : r ≡ ruling_of s.store.layout (history_of s) t r.answer
  ruling_is = answers_ruling s.store.layout (history_of s) t r.answer refl

  its_layout : (committing s name t b).state.layout ≡ r.layout
  its_layout = ap (λ (x : Step). x.state.layout) (step_is r.answer refl) ∙ by_layout s name t b r.answer
      ∙ sym (ap (λ (x : Ruling CommitAnswer). x.layout) ruling_is)

  its_history : history_in (committing s name t b).state.commits ≡ r.history
  its_history = ap (λ (x : Step). history_in x.state.commits) (step_is r.answer refl) ∙ by_history s name t b r.answer
      ∙ sym (ap (λ (x : Ruling CommitAnswer). x.history) ruling_is)

  its_calls : (committing s name t b).calls ≡ r.calls
  its_calls = ap (λ (x : Step). x.calls) (step_is r.answer refl) ∙ by_calls s name t b r.answer
      ∙ sym (ap (λ (x : Ruling CommitAnswer). x.calls) ruling_is)

  still_running : r.layout.halted ≡ None
  still_running = ap (λ (x : Ruling CommitAnswer). x.layout.halted) ruling_is ∙ by_halted s name t b r.answer ∙ stands.running

  its_next : r.layout.next_log ≡ s.store.layout.next_log
  its_next = ap (λ (x : Ruling CommitAnswer). x.layout.next_log) ruling_is ∙ by_next s name t b r.answer

  its_next_table : r.layout.next_table ≡ s.store.layout.next_table
  its_next_table = ap (λ (x : Ruling CommitAnswer). x.layout.next_table) ruling_is ∙ by_next_table s name t b r.answer

  -- ---- what the engine represents

  represents_before : HoldsState g IsStored s old → engine.Represents bytes before (g.told old) (history_of s) s.store.layout
  represents_before held = represents bytes (g.told old) before os s stands held.there.2.openable

  module _ (files : SameFiles (g.told old) (g.told new)) (held : HoldsState g IsStored s old) where
    -- a step that leaves what the engine represents leaves a disk that holds it
    stored_then : (x : Step) (k : History) (m : Layout) → x.state.layout ≡ m → history_in x.state.commits ≡ k
        → m.halted ≡ None → m.next_log ≡ s.store.layout.next_log → m.next_table ≡ s.store.layout.next_table
        → engine.Represents bytes after (g.told new) k m → Tells g new (IsStored (state_by s x))
    stored_then x k m layout history running log table represents =
        let (disk, told, stored) = held.there in
        let next_log = stored.next_log in
        let next_table = stored.next_drawn in
        stored_by bytes after (g.told new) (state_by s x) k m layout history stored.openable running represents
        (subst (λ (p : Back). p.state.next_log ≤ p.next_log) (sym back) stands.within)
        (omega (arith, log, next_log)) (omega (arith, table, next_table))
        (λ now then. numbered_still s.files (g.told old) (g.told new) disk now files told then stored.numbered)

  -- ---- what it came to

  module _ (outcome : Outcome CommitAnswer) (effects : Effects)
      (carries : engine.Represents bytes before (g.told old) (history_of s) s.store.layout
      → Carries g bytes old new after (history_of s) s.store.layout
      (commit_ruling s.store.layout (history_of s) (asked txn t.reads))
      (as_before s.store.layout (commit_lost s.store.layout (asked txn t.reads))) outcome effects)
      (files : SameFiles (g.told old) (g.told new)) where
    abbrev Carried : Type 0
    Carried = Carries g bytes old new after (history_of s) s.store.layout r
        (as_before s.store.layout (commit_lost s.store.layout t)) outcome effects

    carried : HoldsState g IsStored s old → Carried
    carried held =
        subst (λ (u : ATxn). Carries g bytes old new after (history_of s) s.store.layout
        (commit_ruling s.store.layout (history_of s) u)
        (as_before s.store.layout (commit_lost s.store.layout u)) outcome effects) is.same (carries (represents_before held))

    -- by what is so where it was answered, where memory ran out, and where the disk failed
    leads : (result : Result Answer Halt) → HoldsState g IsStored s old
        → OnOk result (HoldsState g IsStored (state_by s (committing s name t b)) new)
        → (HaltsBeside result → HoldsState g IsStored s new)
        → (HaltsByDisk result → IsTrue g.fails_cleanly
        → StopsWithin g IsStopped s (state_by s (committing s name t b)) old new)
        → LeadsTo g IsStored Shown IsStopped old new s (state_by s (committing s name t b)) result
    leads result held answered short stopped =
        let carried = carried held in
        record {
          answered = answered;
          short = λ by. own_commits g IsStored s (state_by s (committing s name t b)) new (short by);
          tells = carried.again stands.running;
          through = subst (λ (k : History). CrashesShow g Shown old new (history_of s) k) (sym its_history)
              (carried.through stands.running);
          stopped = stopped;
        }

    -- It was answered by the engine, and so is the line.
    holds_answered : (a : CommitAnswer) → outcome ≡ Answered a → HoldsState g IsStored s old
        → HoldsState g IsStored (state_by s (committing s name t b)) new
    holds_answered a answered held =
        let carried = carried held in
        record {
          calls = carried.called a answered ∙ ap (λ (n : ℕ). after_calls n (g.calls old)) (sym its_calls)
              ∙ ap (after_calls (committing s name t b).calls) held.calls;
          there = stored_then files held (committing s name t b) r.history r.layout its_layout its_history still_running
              its_next its_next_table
              (carried.decides.answered a answered).1;
        }

    pub answered_carries : (a : CommitAnswer) → outcome ≡ Answered a → (answer : Answer)
        → CarriesOut g IsStored Shown IsStopped old new s (state_by s (committing s name t b)) (Ok answer)
    answered_carries a answered answer held =
        leads (Ok answer) held (holds_answered a answered held) (λ by. absurd by) (λ halts. absurd halts)

    -- Memory ran out before anything was changed, or there was none to put the transaction back under its name, which the engine
    -- handed back.
    pub short_carries : ChangesNothing g old new ⊥
        → CarriesOut {T = Answer} g IsStored Shown IsStopped old new s (state_by s (committing s name t b)) (Err why.NoMemory)
    short_carries none held = leads (Err why.NoMemory) held tt
        (λ by. record { calls = none.calls ∙ held.calls; there = (held.there.0, none.told ∙ held.there.1, held.there.2) })
        (λ halts. absurd halts)

    -- It was refused since the engine is halted, which never comes.
    pub halted_carries : (file : FileName) → ⊥
        → CarriesOut {T = Answer} g IsStored Shown IsStopped old new s (state_by s (committing s name t b)) (Err (why.Halted file))
    halted_carries file never held = absurd never

    -- ---- the disk failed

    module _ (writable : IsWritable s.store.layout (history_of s) (asked txn t.reads)) where
      may : IsWritable s.store.layout (history_of s) t
      may = subst (λ (u : ATxn). IsWritable s.store.layout (history_of s) u) is.same writable

      same_writes : entries txn.writes ≡ t.writes
      same_writes = ap (λ (u : ATxn). u.writes) is.same

      rising : T (is_sorted key_cmp t.writes)
      rising = subst (λ (ws : List (List ℕ × Change)). T (is_sorted key_cmp ws)) same_writes (entries_sorted txn.writes)

      step_then : committing s name t b ≡ by s name t b (commit.At (last_number (history_of s) + 1))
      step_then = step_is (commit.At (last_number (history_of s) + 1)) (sym (ap (λ (x : Ruling CommitAnswer). x.answer) may.accepted))

      abbrev next : Ruling CommitAnswer
      next = committed s.store.layout (history_of s) t

      -- the frame that was to be written
      abbrev whole : List ℕ
      whole = frame_behind s (commit_frame (history_of s) t.writes)

      commits : HoldsState g IsStored s old → ByFrame IsStored s (state_by s (committing s name t b))
      commits held =
          let (disk, told, stored) = held.there in
          let has = subst (λ (n : ℕ). HasFrame (frames_grammar n) (commit_frame (history_of s) t.writes))
          (sym stored.is_base.format) may.fits in
          let where_is : whole ≡ torn.frame_behind s.store.layout.active.format s.store.layout.active.number
          s.store.layout.active.frames (commit_frame (history_of s) t.writes) =
          ap (λ (n : ℕ). frame_at s.store.layout.active.format s.store.layout.active.number n (commit_frame (history_of s) t.writes))
          stored.tidy.true_logs.0 in
          let b' = stored.base in
          record {
            old = disk;
            held = stored;
            item = commit_frame (history_of s) t.writes;
            has = has;
            frame = whole;
            frame_is = refl;
            done = stored_as (state_by s (committing s name t b)) (written (log_of s) whole disk) b' next.history next.layout
                (its_layout ∙ ap (λ (x : Ruling CommitAnswer). x.layout) may.accepted)
                (its_history ∙ ap (λ (x : Ruling CommitAnswer). x.history) may.accepted) stored.openable
                (commit_base b' s.store.layout (history_of s) t stored.is_base stored.tidy
                (committed_spares (at_rest s.store.layout) (history_of s) stored.is_base.spared t rising))
                (subst (λ (piece : List ℕ). Holds b' next.layout (written (log_of s) piece disk)) (sym where_is)
                (commit_holds b' s.store.layout (history_of s) t stored.is_base stored.tidy disk stored.holds has))
                (subst (λ (x : Ruling CommitAnswer). IsTidy (layout_logs s.store.layout) x.layout x.history) may.accepted
                (commit_tidy (layout_logs s.store.layout) s.store.layout (history_of s) stored.tidy t rising))
                stored.next_table
                (begun_kept (log_of s) disk (written (log_of s) whole disk) (written_elsewhere (log_of s) whole disk)
                (λ n. table_log n s.store.layout.active.number) b'.state.next_table s.store.layout.next_table stored.begun)
                (changed_numbered s.files (log_of s) _ (appended (log_of s) whole (length whole) disk)
                (changed_numbered s.files (log_of s) _ disk stored.numbered))
                stored.next stored.next_log stored.next_drawn;
            commits = inl (t.writes, ap (λ (x : Step). x.state.commits) step_then);
            files = refl;
          }

      all_calls : after_calls (committing s name t b).calls s.calls ≡ after_calls 2 s.calls
      all_calls = ap (λ (n : ℕ). after_calls n s.calls) (its_calls ∙ ap (λ (x : Ruling CommitAnswer). x.calls) may.accepted)

      module _ (held : HoldsState g IsStored s old) where
        -- it was stopped within its two calls
        stops_within : StopsWriting g (log_of s) whole old new
            → StopsWithin g IsStopped s (state_by s (committing s name t b)) old new
        unfolding commits
        stops_within (at_append changed calls) = record {
          passed = 0;
          has_passed = record { mid = old; counted = held.calls; steady = refl; as_planned = λ stop fails. fails };
          all = 2;
          more = omega arith;
          all_counted = all_calls;
          made = 1;
          least = omega arith;
          most = omega arith;
          calls = calls ∙ ap (after_calls 1) held.calls;
          now = appended (log_of s) whole 0 held.there.0;
          told = changed ∙ ap (option_map (appended (log_of s) whole 0)) held.there.1;
          stopped = append_failed (commits held) refl refl refl;
        }
        stops_within (at_sync changed calls passed) = record {
          passed = 1;
          has_passed = record {
            mid = passed.mid;
            counted = passed.counted ∙ ap (after_calls 1) held.calls;
            steady = passed.steady;
            as_planned = passed.as_planned;
          };
          all = 2;
          more = omega arith;
          all_counted = all_calls;
          made = 2;
          least = omega arith;
          most = omega arith;
          calls = calls ∙ ap (after_calls 2) held.calls;
          now = appended (log_of s) whole (length whole) held.there.0;
          told = changed ∙ ap (option_map (appended (log_of s) whole (length whole))) held.there.1;
          stopped = sync_failed (commits held) refl refl refl;
        }

        -- the frame is that of the state's log
        abbrev its_frame : List ℕ
        its_frame = frame_at log_format s.store.layout.active.number s.store.layout.active.length
            (commit_frame (history_of s) (entries txn.writes))

        frame_is : its_frame ≡ whole
        frame_is =
            ap (λ (ws : List (List ℕ × Change)). frame_at log_format s.store.layout.active.number s.store.layout.active.length
            (commit_frame (history_of s) ws)) same_writes
            ∙ ap (λ (n : ℕ). frame_at n s.store.layout.active.number s.store.layout.active.length
            (commit_frame (history_of s) t.writes)) (sym held.there.2.is_base.format)

        stops_so : StopsWriting g (log_of s) its_frame old new
            → StopsWithin g IsStopped s (state_by s (committing s name t b)) old new
        stops_so stops = stops_within (subst (λ (piece : List ℕ). StopsWriting g (log_of s) piece old new) frame_is stops)

      -- The disk failed, and where it fails cleanly it was stopped within the commit.
      pub failed_carries : (file : FileName)
          → (IsTrue g.fails_cleanly → StopsWriting g (log_of s)
          (frame_at log_format s.store.layout.active.number s.store.layout.active.length
          (commit_frame (history_of s) (entries txn.writes))) old new)
          → CarriesOut {T = Answer} g IsStored Shown IsStopped old new s (state_by s (committing s name t b)) (Err (why.Disk file))
      failed_carries file stops held =
          leads (Err (why.Disk file)) held tt (λ by. absurd by) (λ halts clean. stops_so held (stops clean))
