-- What a line that plans a merge does to a disk that holds the state before it, by what carrying out the merge did.
use Rattle.std.proofs.Common.{◌≡◌, ◌⊎◌, inl, inr, ℕ, zero, suc, ◌+◌, ◌<◌, ◌≤◌, List, [], length, refl, ap, sym, ◌∙◌, subst, arith}
use Rattle.std.specs.Prelude.{Option, None, Some, Result, Ok, Err, IsTrue}
use Rattle.vl_disk.specs.DiskState.{DiskState}
use Rattle.vl_disk.specs.declared.watched.Watched.{Ghosts}
use Rattle.vl_engine_laws.specs.Held.{Base, Holds, IsBase}
use Rattle.vl_engine_laws.specs.Pointed.{layout_logs}
use Rattle.vl_engine_laws.specs.Represents as engine
use Rattle.vl_engine_laws.specs.Shown.{Shown}
use Rattle.vl_engine_laws.specs.declared.kept.Core.{Core}
use Rattle.vl_engine_model.specs.Merging.{outputs}
use Rattle.vl_engine_model.specs.Rulings.Plan.{with_job}
use Rattle.vl_engine_model.specs.Store.Commits.{Commits, history_in}
use Rattle.vl_engine_model.specs.Store.Dispatch.{fill}
use Rattle.vl_engine_model.specs.Store.Lines.{Name}
use Rattle.vl_engine_model.specs.Store.Things.{Step, Thing, thing_of}
use Rattle.vl_engine_model.specs.Tidy.{IsTidy}
use Rattle.vl_engine_model.specs.declared.job.Job.{Job}
use Rattle.vl_engine_model.specs.declared.layout.Layout.{Layout}
use Rattle.vl_model.specs.History.{History}
use Rattle.vl_model.specs.Limits.{max_file_number}
use Rattle.vl_model.specs.declared.counter.Counter.{Counter}
use Rattle.vl_replay_laws.specs.Choosing.{line_for}
use Rattle.vl_replay_laws.specs.declared.choice.Choice.{Choice}
use Rattle.vl_replay_laws.specs.Drawn.{DrawsOn, drawn_state}
use Rattle.vl_script_model.specs.Durable.{CrashesShow, HoldsCommits, HoldsState, LeadsTo, StopsWithin}
use Rattle.vl_script_model.specs.Halts.{HaltsBeside, HaltsByDisk}
use Rattle.vl_replay_laws.specs.Replaying.{state_by_plan}
use Rattle.vl_script_model.specs.Sequential.{State, history_of, state_after, step_to}
use Rattle.vl_script_model.specs.Stopped.{AreNumberedUpTo, GivesUpTo, step_failed}
use Rattle.vl_script_model.specs.Stored.{IsStopped, IsStored}
use Rattle.vl_script_model.specs.declared.fails.Halt.{Halt}
use Rattle.vl_script_model.specs.declared.fails.Halt.TheVariants as halts
use Rattle.vl_replay_laws.specs.declared.open.Open.{Open}
use Rattle.vl_script_model.specs.laws.Laws.{IsSound}
use Rattle.vl_replay_laws.specs.Standing.{Stand, open_in}
use Rattle.vl_script.specs.declared.answer.Answer.{Answer}
use Rattle.vl_script.specs.declared.answer.Answer.TheVariants as answers
use Rattle.vl_script_model.specs.laws.DiskSteps.{IsWatched}
use Rattle.vl_script_model.specs.laws.HeldDisk.{stored_by}
use Rattle.vl_replay_laws.specs.laws.Merges.Choosing.{behind_for, commits_for, counted_step, files_for, step_for}
use Rattle.vl_replay_laws.specs.laws.Merges.Filling.{drawn_next, fill_more}
use Rattle.vl_replay_laws.specs.laws.Merges.Planned.{Plans, drawn_beside, planned_beside}
use Rattle.vl_replay_laws.specs.laws.Merges.Planning.{fills, planned_state, whole, whole_is}

-- ---- what a disk holds

-- beside the layout, what names stand for isn't on the disk
things_stored : (t : State) (ts : List (Name × Thing)) (disk : DiskState) → IsStored t disk
    → IsStored (record t { store = record t.store { things = ts } }) disk
things_stored t ts disk stored = record {
  openable = stored.openable;
  base = stored.base;
  is_base = stored.is_base;
  holds = stored.holds;
  tidy = stored.tidy;
  next_table = stored.next_table;
  begun = stored.begun;
  numbered = stored.numbered;
  next = stored.next;
  next_log = stored.next_log;
  next_drawn = stored.next_drawn;
}

-- nor is an open merge
job_base : (b : Base) (j : Job) (l : Layout) (h : History) → IsBase b (with_job j l) h → IsBase b l h
job_base b j l h is = record {
  numbered = is.numbered;
  made = is.made;
  goes = is.goes;
  levels = is.levels;
  frozen = is.frozen;
  led = is.led;
  keep = is.keep;
  since = is.since;
  gone = is.gone;
  spared = is.spared;
  covered = is.covered;
  format = is.format;
}

job_holds : (b : Base) (j : Job) (l : Layout) (disk : DiskState) → Holds b (with_job j l) disk → Holds b l disk
job_holds b j l disk held = record {
  base = held.base;
  files = record { logs = held.files.logs; tables = held.files.tables; flushed = held.files.flushed };
  durable = held.durable;
  lawful = held.lawful;
}

unplanned_stored : (s : State) (j : Job) (disk : DiskState) → IsTidy (layout_logs s.store.layout) s.store.layout (history_of s)
    → IsStored (planned_state j s) disk → IsStored s disk
unplanned_stored s j disk tidy stored = record {
  openable = stored.openable;
  base = stored.base;
  is_base = job_base stored.base j s.store.layout (history_of s) stored.is_base;
  holds = job_holds stored.base j s.store.layout disk stored.holds;
  tidy = tidy;
  next_table = stored.next_table;
  begun = stored.begun;
  numbered = stored.numbered;
  next = stored.next;
  next_log = stored.next_log;
  next_drawn = stored.next_drawn;
}

-- where no number was drawn the state is as it was
drawn_none : (t : State) (disk : DiskState) → IsStored (drawn_state 0 t) disk → IsStored t disk
drawn_none t disk stored = record {
  openable = stored.openable;
  base = stored.base;
  is_base = stored.is_base;
  holds = stored.holds;
  tidy = stored.tidy;
  next_table = stored.next_table;
  begun = stored.begun;
  numbered = subst (λ (n : ℕ). AreNumberedUpTo n disk) (let sum : t.files + 0 ≡ t.files = omega arith in sum) stored.numbered;
  next = subst (λ (n : ℕ). GivesUpTo n stored.base.state) (let sum : t.files + 0 ≡ t.files = omega arith in sum) stored.next;
  next_log = (let le = stored.next_log in omega (arith, le));
  next_drawn = (let le = stored.next_drawn in omega (arith, le));
}

-- ---- the line

module _ {D H R : Type 0} (g : Ghosts D) (watched : IsWatched g) (bytes : H → Option (List ℕ)) (old new : D) (s : State)
    (name : Name) (j : Job)
    (choice : Choice) (plans : Plans choice s.store.layout (history_of s) j) (os : List (Open H R))
    (names : Stand bytes os s.store.things (history_of s) s.store.layout)
    (sound : IsSound s) (running : s.store.layout.halted ≡ None) (bare : thing_of s.store name ≡ None) (free : open_in os name ≡ None)
    (tidy : IsTidy (layout_logs s.store.layout) s.store.layout (history_of s)) where
  abbrev h : History
  h = history_of s

  abbrev l : Layout
  l = s.store.layout

  abbrev behind : State
  behind = state_after s (line_for choice name)

  abbrev line : Step
  line = step_to s (line_for choice name)

  commits_stay : behind.store.commits ≡ s.store.commits
  commits_stay = commits_for choice s name

  -- before it is carried out the disk holds the state with the open merge
  pub planned_held : (core : Core H) → (IsTrue s.openable → engine.Represents bytes core (g.told old) h (with_job j l))
      → core.back.state.next_log ≤ core.back.next_log
      → HoldsState g IsStored s old → HoldsState g IsStored (planned_state j s) old
  planned_held core represents within held = record {
    calls = held.calls;
    there = stored_by bytes core (g.told old) (planned_state j s) h (with_job j l) refl refl held.there.2.openable running
        (represents held.there.2.openable) within held.there.2.next_log held.there.2.next_drawn
        (λ now told. subst (AreNumberedUpTo s.files) (some_same held.there.0 now (sym held.there.1 ∙ told)) held.there.2.numbered);
  }
    where
      some_same : (a b : DiskState) → Some a ≡ Some b → a ≡ b
      some_same a b e = cc

  module _ (count : ℕ) (result : Result (Option Counter) Halt) (drew : DrawsOn g old new (planned_state j s) count result) where
    -- so many calls it makes at least
    calls_least : (few : count ≤ length (outputs j)) → (count ≡ 0) ⊎ (l.next_table + count ≤ max_file_number + 1) → count ≤ line.calls
    calls_least few fits =
        let same = ap (λ (x : Step). x.calls) (step_for choice s name ∙ ap counted_step (fills s name j choice plans running bare)) in
        let least = of count few fits in omega (arith, same, least)
      where
        of : (n : ℕ) → n ≤ length (outputs j) → (n ≡ 0) ⊎ (l.next_table + n ≤ max_file_number + 1)
            → n ≤ (fill s.store name j (with_job j l) (outputs j) [] 0).calls
        of zero few fits = omega arith
        of (suc n) few (inl none) = omega (arith, none)
        of (suc n) few (inr le) = let more = fill_more s.store name j (outputs j) (with_job j l) [] 0 n running
            (omega (arith, few)) (omega (arith, le)) in omega (arith, more)

    -- where no number was drawn nothing was changed
    unchanged_held : (HaltsByDisk result → ⊥) → count ≡ 0 → HoldsState g IsStored s new
    unchanged_held fine none =
        let held = subst (λ (n : ℕ). HoldsState g IsStored (drawn_state n (planned_state j s)) new) none (drew.held fine) in
        record {
          calls = held.calls;
          there = (
            held.there.0,
            held.there.1,
            unplanned_stored s j held.there.0 tidy
                (drawn_none (planned_state j s) held.there.0 held.there.2),
          );
        }

    -- whatever came between, it holds the commits, beside so many files
    commits_held : (HaltsByDisk result → ⊥) → (few : count ≤ length (outputs j)) → (count ≡ 0)
        ⊎ (l.next_table + count ≤ max_file_number + 1) → HoldsCommits g IsStored s behind new
    commits_held fine few fits =
        let least = calls_least few fits in
        let made = files_for choice s name in
        record {
          now = drawn_state count (planned_state j s);
          held = drew.held fine;
          history = refl;
          layout = drawn_beside count (with_job j l) ∙ planned_beside j l;
          given = count;
          few = omega (arith, least, made);
          numbers = drawn_next count (with_job j l);
          files = refl;
          calls = refl;
          unchanged = λ none. (s, refl, refl, refl, refl, unchanged_held fine none);
        }

    -- what a crash meanwhile leaves shows the commits
    goes : CrashesShow g Shown old new h (history_of behind)
    goes = subst (λ (p : Commits). CrashesShow g Shown old new h (history_in p)) (sym commits_stay) drew.through

    -- the disk failed at the next number's file, which was one that the line makes
    stops : HaltsByDisk result → IsTrue g.fails_cleanly → (few : count < length (outputs j)) → l.next_table + count ≤ max_file_number
        → StopsWithin g IsStopped s behind old new
    stops failed clean few fits =
        let (now, told, step) = drew.stopped failed clean in
        let more : count < line.calls = (
        let same = ap (λ (x : Step). x.calls) (step_for choice s name ∙ ap counted_step (fills s name j choice plans running bare)) in
        let some = fill_more s.store name j (outputs j) (with_job j l) [] 0 count running few fits in omega (arith, same, some)
        ) in
        record {
          passed = count;
          has_passed = drew.passed failed;
          all = line.calls;
          more = more;
          all_counted = refl;
          made = count + 1;
          least = omega arith;
          most = omega (arith, more);
          calls = drew.calls failed;
          now = now;
          told = told;
          stopped = step_failed (record {
            same = commits_stay;
            left = step.left;
            files = step.files;
            few = step.few;
            numbered = step.numbered;
            next = step.next;
            head = step.head;
            torn = step.torn;
          }) (let up = step.few in let made = files_for choice s name in omega (arith, more, up, made));
        }

    -- ---- by how it ended

    -- it has all of its tables
    pub whole_leads : (result ≡ Ok None) → count ≡ length (outputs j) → (count ≡ 0)
        ⊎ (l.next_table + count ≤ max_file_number + 1) → (number : ℕ)
        → LeadsTo {T = Answer} g IsStored Shown IsStopped old new s behind (Ok (answers.Number number))
    whole_leads is all fits number = record {
      answered = answered;
      short = λ halts. absurd halts;
      tells = drew.tells;
      through = goes;
      stopped = λ halts. absurd halts;
    }
      where
        fine : HaltsByDisk result → ⊥
        fine halts = subst (λ (r : Result (Option Counter) Halt). HaltsByDisk r) is halts

        total_fits : (length (outputs j) ≡ 0) ⊎ (l.next_table + length (outputs j) ≤ max_file_number + 1)
        total_fits = subst (λ (n : ℕ). (n ≡ 0) ⊎ (l.next_table + n ≤ max_file_number + 1)) all fits

        answered : HoldsState g IsStored behind new
        answered =
            let held = subst (λ (n : ℕ). HoldsState g IsStored (drawn_state n (planned_state j s)) new) all (drew.held fine) in
            subst (λ (t : State). HoldsState g IsStored t new) (sym (behind_for choice s name))
            (subst (λ (x : Step). HoldsState g IsStored (state_by_plan s x) new)
            (sym (whole_is s name j choice plans running bare total_fits)) (record {
              calls = held.calls;
              there = (
                held.there.0,
                held.there.1,
                things_stored (drawn_state (length (outputs j)) (planned_state j s)) (whole s name j).state.things
                    held.there.0 held.there.2,
              );
            }))

    -- it stopped without an answer
    pub halted_leads : (halt : Halt) → result ≡ Err halt → (few : count ≤ length (outputs j)) → (count ≡ 0)
        ⊎ (l.next_table + count ≤ max_file_number + 1)
        → (HaltsByDisk result → (count < length (outputs j)) × (l.next_table + count ≤ max_file_number))
        → LeadsTo {T = Answer} g IsStored Shown IsStopped old new s behind (Err halt)
    halted_leads halt is few fits where_failed = record {
      answered = tt;
      short = λ by. commits_held
          (λ failed. not_both halt by (subst (λ (r : Result (Option Counter) Halt). HaltsByDisk r) is failed)) few fits;
      tells = drew.tells;
      through = goes;
      stopped = λ by clean. (
          let failed : HaltsByDisk result = subst (λ (r : Result (Option Counter) Halt). HaltsByDisk r) (sym is) (as_halt halt by) in
          let (more, le) = where_failed failed in stops failed clean more le
          );
    }
      where
        not_both : (h' : Halt) → HaltsBeside {T = Answer} (Err h') → HaltsByDisk {T = Option Counter} (Err h') → ⊥
        not_both halts.NoMemory by failed = failed
        not_both (halts.Disk file) by failed = by
        not_both (halts.Read file) by failed = failed
        not_both (halts.Halted file) by failed = failed
        not_both (halts.Damaged file place) by failed = failed

        as_halt : (h' : Halt) → HaltsByDisk {T = Answer} (Err h') → HaltsByDisk {T = Option Counter} (Err h')
        as_halt halts.NoMemory by = by
        as_halt (halts.Disk file) by = by
        as_halt (halts.Read file) by = by
        as_halt (halts.Halted file) by = by
        as_halt (halts.Damaged file place) by = by
