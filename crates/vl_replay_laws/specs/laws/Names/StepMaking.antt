-- What rotations and flushes make: they leave the commits and what lives.
use Rattle.std.proofs.Common.{◌≡◌, ◌≤◌, ◌+◌, ℕ, Bool, true, false, cond, List, [], ◌∷◌, ◌++◌, refl, ap, sym, ◌∙◌, subst, arith}
use Rattle.std.specs.List.{filter}
use Rattle.std.proofs.lemmas.Bool.Decides.{nat_tests}
use Rattle.std.specs.Prelude.{Option, None, Some, Ok, Err, Result, length, nat_le, nat_lt}
use Rattle.vl_back.specs.Deciding as deciding
use Rattle.vl_back.specs.Deciding.{MayFlush, flush_decision}
use Rattle.vl_back.specs.declared.back.Back.{Back}
use Rattle.vl_back.specs.declared.decision.Decision.TheVariants as decisions
use Rattle.vl_disk.specs.DiskState.{DiskState}
use Rattle.vl_disk.specs.Faults.{HasCause}
use Rattle.vl_engine_laws.specs.Represents as engine
use Rattle.vl_engine_laws.specs.Represents.{IsLive}
use Rattle.vl_steps.specs.Stepping.{StepFailed, step_outcome}
use Rattle.vl_steps.specs.declared.fails.StepFail.{StepFail}
use Rattle.vl_steps.specs.declared.fails.StepFail.TheVariants as undone
use Rattle.vl_engine_laws.specs.declared.kept.Core.{Core}
use Rattle.vl_engine_model.specs.Decides.{Decides, Effects, Otherwise}
use Rattle.vl_engine_model.specs.Levels.{in_front}
use Rattle.vl_engine_model.specs.Ruling as rulings
use Rattle.vl_engine_model.specs.Ruling.{Ruling, StepAnswer, has_no_number, has_no_epoch, leaving}
use Rattle.vl_engine_model.specs.Rulings.Flush.{flush_of, flush_ruling, flush_unless, flushed}
use Rattle.vl_engine_model.specs.Rulings.Rotate.{rotate_of, rotate_ruling, rotate_unless, rotated}
use Rattle.vl_engine_model.specs.Sources.{oldest, tables}
use Rattle.vl_engine_model.specs.Store.Dispatch.{step_by, step_told}
use Rattle.vl_engine_model.specs.declared.file_name.FileName.{FileName}
use Rattle.vl_engine_model.specs.declared.layout.Layout.{Layout}
use Rattle.vl_engine_model.specs.declared.live.Live.{Live}
use Rattle.vl_engine_model.specs.declared.segment.Segment.{Segment}
use Rattle.vl_engine_model.specs.declared.table.Table.{Table}
use Rattle.vl_manifest.specs.declared.waiting.Waiting.{Waiting}
use Rattle.vl_model.specs.History.{History}
use Rattle.vl_model.specs.Limits.{max_file_number, max_epoch}
use Rattle.vl_model.specs.declared.counter.Counter.TheVariants as counter
use Rattle.vl_model.specs.declared.log_frame.LogFrame.{LogFrame}
use Rattle.vl_script_model.specs.Halts.{HaltsByDisk, HaltsByRead}
use Rattle.vl_engine_model.specs.declared.file_name.Retired.{Retired}
use Rattle.vl_replay_laws.specs.Replaying.{MakesStep, StandsIn, state_by}
use Rattle.vl_script_model.specs.Sequential.{State, files_behind, history_of, without_lengths}
use Rattle.vl_replay_laws.specs.Standing.{ReadsNoTable, Stand, is_held_table, pins_at, step_answer}
use Rattle.vl_script_model.specs.declared.fails.Halt.{Halt}
use Rattle.vl_replay_laws.specs.declared.open.Open.{Open}
use Rattle.vl_script_model.specs.laws.Laws.{IsSound}
use Rattle.vl_script_model.specs.laws.Betweens.{extends_itself}
use Rattle.vl_replay_laws.specs.laws.Names.Ending.{still_stands}
use Rattle.vl_replay_laws.specs.laws.Names.Serving.{Serves}
use Rattle.vl_script.specs.declared.answer.Answer.{Answer}

-- ---- the rulings

-- it isn't answered that the engine is halted
abbrev pub IsNoHalt : StepAnswer → Type 0
IsNoHalt (rulings.Stepped n) = Unit {0}
IsNoHalt rulings.Idle = Unit {0}
IsNoHalt (rulings.Halted file) = ⊥
IsNoHalt (rulings.Exhausted c) = Unit {0}

-- A step on files leaves this of a layout.
pub record LeavesOf (l : Layout) (h : History) (r : Ruling StepAnswer) : Type 0 where
  pub history : r.history ≡ h
  pub live : r.layout.live ≡ l.live
  -- no table goes, and what was dropped stays so
  pub bare : (ticket : ℕ) → ReadsNoTable ticket r.layout → ReadsNoTable ticket l
  pub running : l.halted ≡ None → r.layout.halted ≡ None
  pub no_halt : l.halted ≡ None → IsNoHalt r.answer
  -- the next numbers go up by one at most, where a file is made
  pub next_log : (files : ℕ) → l.next_log ≤ files + 1 → r.layout.next_log ≤ files_behind (step_told r.answer) files + 1
  pub next_table : (files : ℕ) → l.next_table ≤ files + 1 → r.layout.next_table ≤ files_behind (step_told r.answer) files + 1
  pub grows : (files : ℕ) → files ≤ files_behind (step_told r.answer) files

-- nothing is done
leaving_leaves : (l : Layout) (h : History) (a : StepAnswer) → IsNoHalt a → ((files : ℕ) → files_behind (step_told a) files ≡ files)
    → LeavesOf l h (leaving a h l)
leaving_leaves l h a goes same = record {
  history = refl;
  live = refl;
  bare = λ ticket none. none;
  running = λ running. running;
  no_halt = λ running. goes;
  next_log = λ files within. omega (arith, within, same files);
  next_table = λ files within. omega (arith, within, same files);
  grows = λ files. omega (arith, same files);
}

-- it is halted already
halted_leaves : (l : Layout) (h : History) (file : FileName) → l.halted ≡ Some file → LeavesOf l h (leaving (rulings.Halted file) h l)
halted_leaves l h file halted = record {
  history = refl;
  live = refl;
  bare = λ ticket none. none;
  running = λ running. running;
  no_halt = λ running. absurd (some_none (sym halted ∙ running));
  next_log = λ files within. within;
  next_table = λ files within. within;
  grows = λ files. omega arith;
}
  where
    some_none : Some file ≡ None → ⊥
    some_none e = cc

made_rotated : (l : Layout) (h : History)
    → LeavesOf l h (record { answer = rulings.Stepped l.active.number; history = h; layout = rotated l; calls = 3; gone = [] })
made_rotated l h = record {
  history = refl;
  live = refl;
  bare = λ ticket none. none;
  running = λ running. running;
  no_halt = λ running. tt;
  next_log = λ files within. omega (arith, within);
  next_table = λ files within. omega (arith, within);
  grows = λ files. omega arith;
}

pub rotate_leaves : (l : Layout) (h : History) → LeavesOf l h (rotate_ruling l h)
rotate_leaves l h = of l.halted refl
  where
    by_version : (b : Bool) → LeavesOf l h (cond b (leaving (rulings.Exhausted counter.Version) h l)
        (record { answer = rulings.Stepped l.active.number; history = h; layout = rotated l; calls = 3; gone = [] }))
    by_version true = leaving_leaves l h (rulings.Exhausted counter.Version) tt (λ files. refl)
    by_version false = made_rotated l h

    by_number : (b : Bool) → LeavesOf l h (cond b (leaving (rulings.Exhausted counter.Log) h l)
        (cond (has_no_epoch l) (leaving (rulings.Exhausted counter.Version) h l)
        (record { answer = rulings.Stepped l.active.number; history = h; layout = rotated l; calls = 3; gone = [] })))
    by_number true = leaving_leaves l h (rulings.Exhausted counter.Log) tt (λ files. refl)
    by_number false = by_version (has_no_epoch l)

    by_frames : (fs : List LogFrame) → LeavesOf l h (rotate_of fs l h)
    by_frames [] = leaving_leaves l h rulings.Idle tt (λ files. refl)
    by_frames (f ∷ fs) = by_number (has_no_number l.next_log 1)

    of : (halted : Option FileName) → l.halted ≡ halted → LeavesOf l h (rotate_unless halted l h)
    of (Some file) is = halted_leaves l h file is
    of None is = by_frames l.active.frames

-- where none of some list passes, none of its front does
pub none_before : (p : Retired → Bool) (front back : List Retired) → filter p (front ++ back) ≡ [] → filter p front ≡ []
none_before p [] back none = refl
none_before p (r ∷ front) back none = by (p r) none (none_before p front back)
  where
    by : (b : Bool) → cond b (r ∷ filter p (front ++ back)) (filter p (front ++ back)) ≡ []
        → (filter p (front ++ back) ≡ [] → filter p front ≡ [])
        → cond b (r ∷ filter p front) (filter p front) ≡ []
    by true none later = absurd cc
    by false none later = later none

-- a table in front of level 0 leaves some
some_in_front : (t : Table) (l : Layout) (levels : List (List Table)) → l.levels ≡ levels
    → tables (record l { levels = in_front t levels }) ≡ [] → tables l ≡ []
some_in_front t l [] are none = ap (λ (ls : List (List Table)). tables (record l { levels = ls })) are
some_in_front t l (level ∷ deeper) are none = absurd cc

made_flushed : (l : Layout) (h : History) (s : Segment)
    → LeavesOf l h (record { answer = rulings.Stepped l.next_table; history = h; layout = flushed l s; calls = 5; gone = [] })
made_flushed l h s = record {
  history = refl;
  live = refl;
  bare = λ ticket none. (
    some_in_front _ l l.levels refl none.0,
    none_before (is_held_table (pins_at ticket l.live)) l.retired _ none.1,
  );
  running = λ running. running;
  no_halt = λ running. tt;
  next_log = λ files within. omega (arith, within);
  next_table = λ files within. omega (arith, within);
  grows = λ files. omega arith;
}

pub flush_leaves : (l : Layout) (h : History) → LeavesOf l h (flush_ruling l h)
flush_leaves l h = of l.halted refl
  where
    by_version : (s : Segment) (b : Bool) → LeavesOf l h (cond b (leaving (rulings.Exhausted counter.Version) h l)
        (record { answer = rulings.Stepped l.next_table; history = h; layout = flushed l s; calls = 5; gone = [] }))
    by_version s true = leaving_leaves l h (rulings.Exhausted counter.Version) tt (λ files. refl)
    by_version s false = made_flushed l h s

    by_number : (s : Segment) (b : Bool) → LeavesOf l h (cond b (leaving (rulings.Exhausted counter.Table) h l)
        (cond (has_no_epoch l) (leaving (rulings.Exhausted counter.Version) h l)
        (record { answer = rulings.Stepped l.next_table; history = h; layout = flushed l s; calls = 5; gone = [] })))
    by_number s true = leaving_leaves l h (rulings.Exhausted counter.Table) tt (λ files. refl)
    by_number s false = by_version s (has_no_epoch l)

    by_first : (o : Option Segment) → LeavesOf l h (flush_of l h o)
    by_first None = leaving_leaves l h rulings.Idle tt (λ files. refl)
    by_first (Some s) = by_number s (has_no_number l.next_table 1)

    of : (halted : Option FileName) → l.halted ≡ halted → LeavesOf l h (flush_unless halted l h)
    of (Some file) is = halted_leaves l h file is
    of None is = by_first (oldest l.frozen)

-- ---- what a step makes

module _ {H R : Type 0} (bytes : H → Option (List ℕ)) (seen now : Option DiskState) (before after : Core H)
    (os : List (Open H R)) (s : State)
    (stands : StandsIn bytes seen before os s) (r : Ruling StepAnswer) (leaves : LeavesOf s.store.layout (history_of s) r)
    (sound : IsSound (state_by s (step_by s.store r))) where
  abbrev h : History
  h = history_of s

  abbrev l : Layout
  l = s.store.layout

  -- what the names stand for stands on
  names_on : Stand bytes os s.store.things h r.layout
  names_on = record {
    each = λ name. still_stands bytes h h l r.layout (extends_itself h) (λ (ticket : ℕ). Unit {0})
        (λ ticket number on lives. subst (λ (xs : List Live). IsLive (record r.layout { live = xs }) ticket number) (sym leaves.live) lives)
        (λ ticket number on lives. leaves.bare ticket) _ _ (λ thing found reads. tt) (stands.names.each name);
    once = stands.names.once;
    apart = stands.names.apart;
  }

  step_stands : Serves bytes now s.openable after r.history r.layout → after.back.state.next_log ≤ after.back.next_log
      → StandsIn bytes now after os (state_by s (step_by s.store r))
  step_stands there within =
      let on = subst (λ (k : History). Serves bytes now s.openable after k r.layout) leaves.history there in
      record {
        engine = on.stands;
        names = names_on;
        sound = sound;
        held = λ openable. on.held openable (leaves.running stands.running);
        running = leaves.running stands.running;
        fits = on.fits;
        within = within;
      }

  module _ (otherwise : Otherwise) (effects : Effects) where
    -- by what the engine answered
    pub step_makes : (result : Result (Option ℕ) StepFail)
        → Decides (Serves bytes now s.openable after) h l r otherwise (step_outcome result) effects
        → ((StepFailed result → ⊥) → after.back.state.next_log ≤ after.back.next_log)
        → MakesStep bytes now after os s (step_by s.store r) (step_answer result)
    step_makes (Ok (Some number)) decides within =
        let (same, there) = decides.answered (rulings.Stepped number) refl in
        (ap (λ (a : StepAnswer). without_lengths (step_told a)) same, step_stands there (within (λ failed. failed)))
    step_makes (Ok None) decides within =
        let (same, there) = decides.answered rulings.Idle refl in
        (ap (λ (a : StepAnswer). without_lengths (step_told a)) same, step_stands there (within (λ failed. failed)))
    step_makes (Err (undone.Exhausted c)) decides within =
        let (same, there) = decides.answered (rulings.Exhausted c) refl in
        (ap (λ (a : StepAnswer). without_lengths (step_told a)) same, step_stands there (within (λ failed. failed)))
    step_makes (Err undone.NoMemory) decides within = tt
    step_makes (Err (undone.Disk name)) decides within = tt
    step_makes (Err (undone.Halted name)) decides within = tt

    -- an engine that stands for what isn't halted isn't halted
    pub step_sound : (result : Result (Option ℕ) StepFail)
        → Decides (Serves bytes now s.openable after) h l r otherwise (step_outcome result) effects → HaltsByRead (step_answer result) → ⊥
    step_sound (Ok (Some number)) decides halts = halts
    step_sound (Ok None) decides halts = halts
    step_sound (Err (undone.Exhausted c)) decides halts = halts
    step_sound (Err undone.NoMemory) decides halts = halts
    step_sound (Err (undone.Disk name)) decides halts = halts
    step_sound (Err (undone.Halted name)) decides halts =
        let (same, there) = decides.answered (rulings.Halted (engine.file_of name)) refl in
        subst IsNoHalt (sym same) (leaves.no_halt stands.running)

-- what may flush goes
pub may_go : (back : Back) → MayFlush back → flush_decision back ≡ decisions.Go
may_go back may = by back.waiting.items may.waits
  where
    left : nat_lt max_file_number back.state.next_table ≡ false
    left = let fits = may.table in grind (arith, nat_tests, fits)

    below : nat_le max_epoch back.epoch ≡ false
    below = let fits = may.version in grind (arith, nat_tests, fits)

    by : (ws : List Waiting) → 1 ≤ length ws → deciding.flush_of ws back ≡ decisions.Go
    by [] some = absurd (omega (arith, some))
    by (w ∷ ws) some =
        ap (λ (b : Bool). cond b (decisions.Exhausted counter.Table)
        (cond (nat_le max_epoch back.epoch) (decisions.Exhausted counter.Version) decisions.Go)) left
        ∙ ap (λ (b : Bool). cond b (decisions.Exhausted counter.Version) decisions.Go) below

-- ---- where the disk failed

pub step_failed : (result : Result (Option ℕ) StepFail) → HaltsByDisk (step_answer result) → StepFailed result
step_failed (Ok (Some number)) halts = halts
step_failed (Ok None) halts = halts
step_failed (Err (undone.Exhausted c)) halts = halts
step_failed (Err undone.NoMemory) halts = halts
step_failed (Err (undone.Disk name)) halts = halts
step_failed (Err (undone.Halted name)) halts = absurd halts

failed_step : (result : Result (Option ℕ) StepFail) → StepFailed result → HaltsByDisk (step_answer result)
failed_step (Ok (Some number)) failed = failed
failed_step (Ok None) failed = failed
failed_step (Err (undone.Exhausted c)) failed = failed
failed_step (Err undone.NoMemory) failed = failed
failed_step (Err (undone.Disk name)) failed = failed
failed_step (Err (undone.Halted name)) failed = absurd failed

-- in the words of the line's answer
module _ (stepped : Result (Option ℕ) StepFail) (result : Result Answer Halt) (is : result ≡ step_answer stepped) where
  pub failed_as : HaltsByDisk result → StepFailed stepped
  failed_as halts = step_failed stepped (subst (λ (r : Result Answer Halt). HaltsByDisk r) is halts)

  pub step_cause : (before now : ℕ) → HasCause before now (StepFailed stepped) → HasCause before now (HaltsByDisk result)
  step_cause before now cause = record {
    later = cause.later;
    rose = λ halts. cause.rose (failed_as halts);
    steady = λ none. cause.steady
        (λ failed. none (subst (λ (r : Result Answer Halt). HaltsByDisk r) (sym is) (failed_step stepped failed)));
  }
