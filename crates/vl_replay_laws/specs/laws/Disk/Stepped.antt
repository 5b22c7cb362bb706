-- What a rotation or a flush does to a disk that holds the state before it, by what the engine carried out.
use Rattle.std.proofs.Common.{◌≡◌, ◌⊎◌, ⊎_elim, inl, inr, ◌≤◌, ◌<◌, ◌+◌, ℕ, List, [], ◌∷◌, ◌++◌, length, refl, ap}
use Rattle.std.proofs.Common.{sym, ◌∙◌, subst, arith, length-append}
use Rattle.std.specs.Prelude.{◌≢◌, Option, None, Some, Ok, Err, Result, OnOk}
use Rattle.std.specs.List.{AllByRecursion}
use Rattle.vl_back.specs.Writing.{KeepsOthers, flush_files}
use Rattle.vl_disk.specs.Calls.{ChangesNothing}
use Rattle.vl_disk.specs.Crash.{Image}
use Rattle.vl_disk.specs.DiskState.{DiskState}
use Rattle.vl_disk.specs.Faults.{after_calls}
use Rattle.vl_disk.specs.Name.{file_number}
use Rattle.vl_disk.specs.Performs.{FailedAt, calls_on}
use Rattle.vl_disk.specs.laws.NameMap.{same_or_other}
use Rattle.vl_disk.specs.declared.name.Name.{Name as FileName}
use Rattle.vl_disk.specs.declared.name.Name.TheVariants.{Log, Manifest, Table}
use Rattle.vl_disk.specs.declared.watched.Watched.{Ghosts}
use Rattle.vl_engine_laws.specs.Carries.{Carries}
use Rattle.vl_engine_laws.specs.Represents as engine
use Rattle.vl_engine_laws.specs.RotateFacts.{at_hold, at_new_log}
use Rattle.vl_engine_laws.specs.RotateFacts.{StopsRotating}
use Rattle.vl_engine_laws.specs.Shown.{Shown}
use Rattle.vl_steps.specs.Stepping.{StepFailed, StepLeavesDisk, step_outcome}
use Rattle.vl_engine_laws.specs.MayStep.{LeavesNumbers}
use Rattle.vl_steps.specs.declared.fails.StepFail.{StepFail}
use Rattle.vl_steps.specs.declared.fails.StepFail.TheVariants as undone
use Rattle.vl_engine_laws.specs.declared.kept.Core.{Core}
use Rattle.vl_engine_model.specs.Decides.{Answered, Effects, as_before}
use Rattle.vl_engine_model.specs.Ruling as rulings
use Rattle.vl_engine_model.specs.Ruling.{Ruling, StepAnswer}
use Rattle.vl_engine_model.specs.Store.Dispatch.{step_by, step_told}
use Rattle.vl_engine_model.specs.declared.layout.Layout.{Layout}
use Rattle.vl_mem.specs.laws.CrashChance.{IsTornByPieces}
use Rattle.vl_model.specs.History.{History, last_number}
use Rattle.vl_recover.specs.crash.Alike.{IsLeft}
use Rattle.vl_script_model.specs.Between.{ShowsBetween}
use Rattle.vl_script_model.specs.Durable.{CarriesOut, CrashesShow, HoldsCommits, HoldsState, LeadsTo, StopsWithin}
use Rattle.vl_script_model.specs.Halts.{HaltsBeside, HaltsByRead}
use Rattle.vl_replay_laws.specs.Replaying.{StandsIn, state_by_step}
use Rattle.vl_script_model.specs.Sequential.{State, files_behind, history_of}
use Rattle.vl_replay_laws.specs.Standing.{step_answer}
use Rattle.vl_script_model.specs.Stopped.{AreNumberedUpTo, StopsStep, step_failed}
use Rattle.vl_script_model.specs.Stored.{IsStopped, IsStored}
use Rattle.vl_script_model.specs.declared.fails.Halt.{Halt}
use Rattle.vl_script_model.specs.declared.fails.Halt.TheVariants as why
use Rattle.vl_replay_laws.specs.declared.open.Open.{Open}
use Rattle.vl_script.specs.declared.answer.Answer.{Answer}
use Rattle.vl_script_model.specs.laws.DiskSteps.{IsWatched, own_commits}
use Rattle.vl_script_model.specs.laws.HeldDisk.{stored_by}
use Rattle.vl_replay_laws.specs.laws.Names.Serving.{represents}
use Rattle.vl_replay_laws.specs.laws.Names.StepMaking as making
use Rattle.vl_replay_laws.specs.laws.Names.StepMaking.{LeavesOf}

-- ---- where a step failed

-- the file at which it did
pub failed_at : (result : Result (Option ℕ) StepFail) → StepFailed result → (name : FileName) × (result ≡ Err (undone.Disk name))
failed_at (Ok (Some number)) failed = absurd failed
failed_at (Ok None) failed = absurd failed
failed_at (Err (undone.Exhausted c)) failed = absurd failed
failed_at (Err undone.NoMemory) failed = absurd failed
failed_at (Err (undone.Disk name)) failed = (name, refl)
failed_at (Err (undone.Halted name)) failed = absurd failed

-- where a line was halted at a file, its step was
pub halted_at : (result : Result (Option ℕ) StepFail) (file : FileName) → step_answer result ≡ Err (why.Disk file)
    → result ≡ Err (undone.Disk file)
halted_at (Ok (Some number)) file is = absurd cc
halted_at (Ok None) file is = absurd cc
halted_at (Err (undone.Exhausted c)) file is = absurd cc
halted_at (Err undone.NoMemory) file is = absurd cc
halted_at (Err (undone.Disk name)) file is = let same : name ≡ file = cc in ap (λ (n : FileName). Err (undone.Disk n)) same
halted_at (Err (undone.Halted name)) file is = absurd cc

-- what is so of each of the files is so of the one that is named
pub at_each : (P : FileName → Type 0) (files : List FileName) (before now : ℕ) (name : FileName) → AllByRecursion P files
    → FailedAt files before now name → P name
at_each P files before now name all failed = pick failed.front (subst (AllByRecursion P) failed.files_are all)
  where
    pick : (front : List FileName) → AllByRecursion P (front ++ name ∷ failed.back) → P name
    pick [] each = each.0
    pick (x ∷ front) each = pick front each.1

-- so many calls were made
pub at_most : (files : List FileName) (before now : ℕ) (name : FileName) → FailedAt files before now name
    → (made : ℕ) × (made ≤ length files) × (now ≡ after_calls made before)
at_most files before now name failed =
    let sum = ap length failed.files_are ∙ length-append failed.front (name ∷ failed.back) in
    (length failed.front + 1, omega (arith, sum), failed.calls)

-- of a rotation
pub rotate_named : (active next before now : ℕ) (name : FileName) → StopsRotating active next before now name
    → (name ≡ Log active) ⊎ (name ≡ Log next)
rotate_named active next before now name (at_hold is calls) = inl is
rotate_named active next before now name (at_new_log failed) =
    inr (at_each (λ (n : FileName). n ≡ Log next) (calls_on 3 (Log next)) before now name (refl, (refl, (refl, tt))) failed)

pub rotate_made : (active next before now : ℕ) (name : FileName) → StopsRotating active next before now name
    → (made : ℕ) × (made ≤ 3) × (now ≡ after_calls made before)
rotate_made active next before now name (at_hold is calls) = (0, omega arith, calls)
rotate_made active next before now name (at_new_log failed) = at_most (calls_on 3 (Log next)) before now name failed

-- of a flush
pub flush_named : (table manifest before now : ℕ) (name : FileName) → FailedAt (flush_files table manifest) before now name
    → (name ≡ Table table) ⊎ (name ≡ Manifest manifest)
flush_named table manifest before now name failed =
    at_each (λ (n : FileName). (n ≡ Table table) ⊎ (n ≡ Manifest manifest)) (flush_files table manifest) before now name
    (inl refl, (inl refl, (inl refl, (inr refl, (inr refl, tt))))) failed

pub flush_made : (table manifest before now : ℕ) (name : FileName) → FailedAt (flush_files table manifest) before now name
    → (made : ℕ) × (made ≤ 5) × (now ≡ after_calls made before)
flush_made table manifest before now name failed = at_most (flush_files table manifest) before now name failed

-- ---- a step over a disk that holds the state

module _ {D H R : Type 0} (g : Ghosts D) (watched : IsWatched g) (bytes : H → Option (List ℕ)) (before after : Core H) (old new : D)
    (os : List (Open H R)) (s : State) (stands : StandsIn bytes (g.told old) before os s) (r : Ruling StepAnswer)
    (leaves : LeavesOf s.store.layout (history_of s) r) where
  abbrev h : History
  h = history_of s

  abbrev l : Layout
  l = s.store.layout

  -- the state behind it
  abbrev pub then : State
  then = state_by_step s (step_by s.store r)

  -- How a step was stopped that makes so many calls. So many of them were made.
  pub record Stops (all : ℕ) : Type 0 where
    pub ruled : r.calls ≡ all
    -- it makes a file
    pub one : files_behind (step_told r.answer) s.files ≡ s.files + 1
    pub some : 0 < all
    pub made : ℕ
    pub most : made ≤ all
    pub calls : g.calls new ≡ after_calls made (g.calls old)
    -- what a crash leaves then gives no number above the next ones, and is torn by pieces
    pub numbers : engine.Represents bytes before (g.told old) h l → (now : DiskState) → g.told new ≡ Some now
        → LeavesNumbers l.next_log (l.next_table + 1) now
    pub torn : engine.Represents bytes before (g.told old) h l → (now : DiskState) → g.told new ≡ Some now → IsTornByPieces now

  -- What the engine did, by its answer.
  pub record Did (all : ℕ) (name : FileName) (result : Result (Option ℕ) StepFail) : Type 0 where
    pub effects : Effects
    pub carries : engine.Represents bytes before (g.told old) h l
        → Carries g bytes old new after h l r (as_before l l) (step_outcome result) effects
    pub untouched : StepLeavesDisk result → ChangesNothing g old new ⊥
    -- of the files only this one came or went
    pub files : KeepsOthers name (g.told old) (g.told new)
    pub near : (disk : DiskState) → IsStored s disk → file_number name ≤ s.files + 1
    pub within : (StepFailed result → ⊥) → after.back.state.next_log ≤ after.back.next_log
    pub sound : HaltsByRead (step_answer result) → ⊥
    pub stops : StepFailed result → Stops all

  module _ (all : ℕ) (name : FileName) (held : HoldsState g IsStored s old) where
    represented : engine.Represents bytes before (g.told old) h l
    represented = represents bytes (g.told old) before os s stands held.there.2.openable

    -- the next numbers are those of the state
    log_near : l.next_log ≤ s.files + 1
    log_near = held.there.2.next_log

    table_near : l.next_table ≤ s.files + 1
    table_near = held.there.2.next_drawn

    -- where nothing was changed the files are numbered as they were
    numbered_same : g.told new ≡ g.told old → (n : ℕ) → s.files ≤ n → (now : DiskState) → g.told new ≡ Some now → AreNumberedUpTo n now
    numbered_same same n more now told =
        let is : held.there.0 ≡ now = some_same held.there.0 now (sym held.there.1 ∙ sym same ∙ told) in
        subst (AreNumberedUpTo n) is (record {
          standing = λ other there. (let up = held.there.2.numbered.standing other there in omega (arith, up, more));
          removed = λ other there. (let up = held.there.2.numbered.removed other there in omega (arith, up, more));
        })
      where
        some_same : (a b : DiskState) → Some a ≡ Some b → a ≡ b
        some_same a b e = cc

    module _ (result : Result (Option ℕ) StepFail) (did : Did all name result) where
      -- and else up to the number of the file that was made
      numbered_one : (now : DiskState) → g.told new ≡ Some now → AreNumberedUpTo (s.files + 1) now
      numbered_one now told = record {
        standing = λ other there. ⊎_elim
            (λ (same : other ≡ name). let up = did.near held.there.0 held.there.2 in
            let is = ap file_number same in omega (arith, up, is))
            (λ (apart : other ≢ name).
            let up = held.there.2.numbered.standing other
            (λ none. there ((did.files held.there.0 now held.there.1 told other apart).0.1 none)) in
            omega (arith, up))
            (same_or_other other name);
        removed = λ other there. ⊎_elim
            (λ (same : other ≡ name). let up = did.near held.there.0 held.there.2 in
            let is = ap file_number same in omega (arith, up, is))
            (λ (apart : other ≢ name).
            let up = held.there.2.numbered.removed other
            (λ none. there ((did.files held.there.0 now held.there.1 told other apart).1.1 none)) in
            omega (arith, up))
            (same_or_other other name);
      }

      carried : Carries g bytes old new after h l r (as_before l l) (step_outcome result) did.effects
      carried = did.carries represented

      -- It was answered by the engine, and so is the line.
      holds_answered : (a : StepAnswer) → step_outcome result ≡ Answered a → (StepFailed result → ⊥)
          → ((now : DiskState) → g.told new ≡ Some now → AreNumberedUpTo then.files now) → HoldsState g IsStored then new
      holds_answered a is fine numbered = record {
        calls = carried.called a is ∙ ap (after_calls r.calls) held.calls;
        there = stored_by bytes after (g.told new) then r.history r.layout refl (sym leaves.history) held.there.2.openable
            (leaves.running stands.running) (carried.decides.answered a is).1 (did.within fine)
            (leaves.next_log s.files log_near) (leaves.next_table s.files table_near) numbered;
      }

      -- what a crash leaves shows the history
      through : CrashesShow g Shown old new h h
      through = subst (λ (k : History). CrashesShow g Shown old new h k) leaves.history (carried.through stands.running)

      shows_it : (now : DiskState) → g.told new ≡ Some now → (image : Image) → IsLeft now image → Shown image h (last_number h)
      shows_it now told image left = exactly
          (through.each now (watched.counts_now new now (g.moment old) told through.time.later) image left)
        where
          exactly : ShowsBetween Shown h h image → Shown image h (last_number h)
          exactly (m, low, high, shown) = let same : m ≡ last_number h = omega (arith, low, high) in subst (Shown image h) same shown

      stops_step : (stops : Stops all) (now : DiskState) → g.told new ≡ Some now → StopsStep Shown s then 0 now
      stops_step stops now told =
          let near = log_near in
          let table = table_near in
          record {
            same = refl;
            left = shows_it now told;
            files = s.files + 1;
            few = omega arith;
            numbered = numbered_one now told;
            next = λ image found left.
                let (log, given, head) = stops.numbers represented now told image found.opening left found.opens in
                record { log = omega (arith, log, near); table = omega (arith, given, table) };
            head = λ image found left.
                let (log, given, head) = stops.numbers represented now told image found.opening left found.opens in
                omega (arith, head, near);
            torn = stops.torn represented now told;
          }

      stops_within : Stops all → StopsWithin g IsStopped s then old new
      stops_within stops =
          let (now, told, may) = carried.again stands.running in
          record {
            passed = 0;
            has_passed = record { mid = old; counted = held.calls; steady = refl; as_planned = λ stop fails. fails };
            all = all;
            more = stops.some;
            all_counted = ap (λ (n : ℕ). after_calls n s.calls) stops.ruled;
            made = stops.made;
            least = omega arith;
            most = stops.most;
            calls = stops.calls ∙ ap (after_calls stops.made) held.calls;
            now = now;
            told = told;
            stopped = step_failed (stops_step stops now told)
                (let up = (stops_step stops now told).few in let one = stops.one in omega (arith, up, one));
          }

    answered_of : (result : Result (Option ℕ) StepFail) → Did all name result → OnOk (step_answer result) (HoldsState g IsStored then new)
    answered_of (Ok (Some number)) did =
        let same = ((carried (Ok (Some number)) did).decides.answered (rulings.Stepped number) refl).0 in
        let one : s.files + 1 ≡ then.files = ap (λ (a : StepAnswer). files_behind (step_told a) s.files) same in
        holds_answered (Ok (Some number)) did (rulings.Stepped number) refl (λ failed. failed)
        (λ now told. subst (λ (n : ℕ). AreNumberedUpTo n now) one (numbered_one (Ok (Some number)) did now told))
    answered_of (Ok None) did =
        holds_answered (Ok None) did rulings.Idle refl (λ failed. failed)
        (numbered_same (did.untouched tt).told then.files (leaves.grows s.files))
    answered_of (Err (undone.Exhausted c)) did =
        holds_answered (Err (undone.Exhausted c)) did (rulings.Exhausted c) refl (λ failed. failed)
        (numbered_same (did.untouched tt).told then.files (leaves.grows s.files))
    answered_of (Err undone.NoMemory) did = tt
    answered_of (Err (undone.Disk at)) did = tt
    answered_of (Err (undone.Halted at)) did = tt

    short_of : (result : Result (Option ℕ) StepFail) → Did all name result → HaltsBeside (step_answer result)
        → HoldsCommits g IsStored s then new
    short_of (Ok (Some number)) did by = absurd by
    short_of (Ok None) did by = absurd by
    short_of (Err (undone.Exhausted c)) did by = absurd by
    short_of (Err undone.NoMemory) did by = own_commits g IsStored s then new (record {
      calls = (did.untouched tt).calls ∙ held.calls;
      there = (held.there.0, (did.untouched tt).told ∙ held.there.1, held.there.2);
    })
    short_of (Err (undone.Disk at)) did by = absurd by
    short_of (Err (undone.Halted at)) did by = absurd (did.sound by)

    leads : (result : Result (Option ℕ) StepFail) → Did all name result
        → LeadsTo g IsStored Shown IsStopped old new s then (step_answer result)
    leads result did = record {
      answered = answered_of result did;
      short = short_of result did;
      tells = (carried result did).again stands.running;
      through = through result did;
      stopped = λ halts clean. stops_within result did (did.stops (making.step_failed result halts));
    }

  -- A rotation or a flush is carried out so.
  pub step_carries : (all : ℕ) (name : FileName) (stepped : Result (Option ℕ) StepFail) → Did all name stepped
      → (result : Result Answer Halt) → result ≡ step_answer stepped
      → CarriesOut g IsStored Shown IsStopped old new s then result
  step_carries all name stepped did result is held =
      subst (λ (x : Result Answer Halt). LeadsTo g IsStored Shown IsStopped old new s then x) (sym is) (leads all name held stepped did)
