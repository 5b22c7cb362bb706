-- What a change of how many versions are kept does to a disk that holds the state before it, by what the engine carried out.
use Rattle.std.proofs.Common.{◌≡◌, ◌≤◌, ◌+◌, ℕ, List, refl, ap, sym, ◌∙◌, subst, arith}
use Rattle.std.specs.Prelude.{Option, Some, Ok, Err, Result, OnOk}
use Rattle.std.specs.Bool.{⊤}
use Rattle.vl_disk.specs.Crash.{Image}
use Rattle.vl_disk.specs.Calls.{ChangesNothing}
use Rattle.vl_disk.specs.DiskState.{DiskState}
use Rattle.vl_disk.specs.Faults.{after_calls}
use Rattle.vl_disk.specs.Performs.{FailedAt, calls_on}
use Rattle.vl_disk.specs.declared.name.Name.{Name as FileName}
use Rattle.vl_disk.specs.declared.name.Name.TheVariants.{Manifest}
use Rattle.vl_disk.specs.declared.watched.Watched.{Ghosts}
use Rattle.vl_engine_laws.specs.Carries.{Carries, SameFiles}
use Rattle.vl_steps.specs.Keeping.{KeepFailed, keep_outcome}
use Rattle.vl_engine_laws.specs.Represents as engine
use Rattle.vl_engine_laws.specs.Shown.{Shown}
use Rattle.vl_engine_laws.specs.MayStep.{LeavesNumbers}
use Rattle.vl_steps.specs.declared.fails.KeepFail.{KeepFail}
use Rattle.vl_steps.specs.declared.fails.KeepFail.TheVariants as unkept
use Rattle.vl_engine_laws.specs.declared.kept.Core.{Core}
use Rattle.vl_engine_model.specs.Decides.{Answered, Effects, as_before}
use Rattle.vl_engine_model.specs.Ruling.{Ruling}
use Rattle.vl_engine_model.specs.Rulings.Keep as rulings
use Rattle.vl_engine_model.specs.Rulings.Keep.{KeepAnswer}
use Rattle.vl_engine_model.specs.Store.Dispatch.{keep_by}
use Rattle.vl_engine_model.specs.declared.layout.Layout.{Layout}
use Rattle.vl_mem.specs.laws.CrashChance.{IsTornByPieces}
use Rattle.vl_model.specs.History.{History, last_number}
use Rattle.vl_recover.specs.crash.Alike.{IsLeft}
use Rattle.vl_script_model.specs.Between.{ShowsBetween}
use Rattle.vl_script_model.specs.Durable.{CarriesOut, CrashesShow, HoldsCommits, HoldsState, LeadsTo, StopsWithin}
use Rattle.vl_script_model.specs.Halts.{HaltsBeside, HaltsByRead}
use Rattle.vl_replay_laws.specs.Replaying.{StandsIn, state_by}
use Rattle.vl_script_model.specs.Sequential.{State, history_of}
use Rattle.vl_replay_laws.specs.Standing.{keep_answer}
use Rattle.vl_script_model.specs.Stopped.{AreNumberedUpTo, StopsStep, step_failed}
use Rattle.vl_script_model.specs.Stored.{IsStopped, IsStored}
use Rattle.vl_script_model.specs.declared.fails.Halt.{Halt}
use Rattle.vl_script_model.specs.declared.fails.Halt.TheVariants as why
use Rattle.vl_replay_laws.specs.declared.open.Open.{Open}
use Rattle.vl_script.specs.declared.answer.Answer.{Answer}
use Rattle.vl_replay_laws.specs.laws.Disk.Committed.{numbered_still}
use Rattle.vl_script_model.specs.laws.DiskSteps.{IsWatched, own_commits}
use Rattle.vl_script_model.specs.laws.HeldDisk.{stored_by}
use Rattle.vl_replay_laws.specs.laws.Disk.Stepped.{at_each, at_most}
use Rattle.vl_replay_laws.specs.laws.Names.KeepMaking.{KeepsOf, keep_failed}
use Rattle.vl_replay_laws.specs.laws.Names.Serving.{represents}

-- ---- where it failed

-- the file at which it did
pub unkept_at : (result : Result ⊤ KeepFail) → KeepFailed result → (name : FileName) × (result ≡ Err (unkept.Disk name))
unkept_at (Ok done) failed = absurd failed
unkept_at (Err unkept.InvalidRequest) failed = absurd failed
unkept_at (Err unkept.NoMemory) failed = absurd failed
unkept_at (Err (unkept.Disk name)) failed = (name, refl)
unkept_at (Err (unkept.Halted name)) failed = absurd failed

pub keep_halted_at : (result : Result ⊤ KeepFail) (file : FileName) → keep_answer result ≡ Err (why.Disk file)
    → result ≡ Err (unkept.Disk file)
keep_halted_at (Ok done) file is = absurd cc
keep_halted_at (Err unkept.InvalidRequest) file is = absurd cc
keep_halted_at (Err unkept.NoMemory) file is = absurd cc
keep_halted_at (Err (unkept.Disk name)) file is = let same : name ≡ file = cc in ap (λ (n : FileName). Err (unkept.Disk n)) same
keep_halted_at (Err (unkept.Halted name)) file is = absurd cc

pub keep_named : (manifest before now : ℕ) (name : FileName) → FailedAt (calls_on 2 (Manifest manifest)) before now name
    → name ≡ Manifest manifest
keep_named manifest before now name failed =
    at_each (λ (n : FileName). n ≡ Manifest manifest) (calls_on 2 (Manifest manifest)) before now name (refl, (refl, tt)) failed

pub keep_made : (manifest before now : ℕ) (name : FileName) → FailedAt (calls_on 2 (Manifest manifest)) before now name
    → (made : ℕ) × (made ≤ 2) × (now ≡ after_calls made before)
keep_made manifest before now name failed = at_most (calls_on 2 (Manifest manifest)) before now name failed

-- ---- over a disk that holds the state

module _ {D H R : Type 0} (g : Ghosts D) (watched : IsWatched g) (bytes : H → Option (List ℕ)) (before after : Core H) (old new : D)
    (os : List (Open H R)) (s : State) (stands : StandsIn bytes (g.told old) before os s) (r : Ruling KeepAnswer)
    (keeps : KeepsOf s.store.layout (history_of s) r) where
  abbrev h : History
  h = history_of s

  abbrev l : Layout
  l = s.store.layout

  -- the state behind it
  abbrev pub behind : State
  behind = state_by s (keep_by s.store r)

  -- How it was stopped, of two calls. So many of them were made.
  pub record StopsKeep : Type 0 where
    pub ruled : r.calls ≡ 2
    pub made : ℕ
    pub most : made ≤ 2
    pub calls : g.calls new ≡ after_calls made (g.calls old)
    -- what a crash leaves then gives no number above the next ones, and is torn by pieces
    pub numbers : engine.Represents bytes before (g.told old) h l → (now : DiskState) → g.told new ≡ Some now
        → LeavesNumbers l.next_log l.next_table now
    pub torn : engine.Represents bytes before (g.told old) h l → (now : DiskState) → g.told new ≡ Some now → IsTornByPieces now

  -- What the engine did, by its answer.
  pub record DidKeep (result : Result ⊤ KeepFail) : Type 0 where
    pub effects : Effects
    pub carries : engine.Represents bytes before (g.told old) h l
        → Carries g bytes old new after h l r (as_before l l) (keep_outcome result) effects
    pub files : SameFiles (g.told old) (g.told new)
    -- where memory ran out it changed nothing
    pub untouched : result ≡ Err unkept.NoMemory → ChangesNothing g old new ⊥
    pub within : (KeepFailed result → ⊥) → after.back.state.next_log ≤ after.back.next_log
    pub sound : HaltsByRead (keep_answer result) → ⊥
    pub stops : KeepFailed result → StopsKeep

  module _ (held : HoldsState g IsStored s old) (result : Result ⊤ KeepFail) (did : DidKeep result) where
    carried : Carries g bytes old new after h l r (as_before l l) (keep_outcome result) did.effects
    carried = did.carries (represents bytes (g.told old) before os s stands held.there.2.openable)

    log_near : l.next_log ≤ s.files + 1
    log_near = held.there.2.next_log

    table_near : l.next_table ≤ s.files + 1
    table_near = held.there.2.next_drawn

    numbered : (now : DiskState) → g.told new ≡ Some now → AreNumberedUpTo s.files now
    numbered now told = numbered_still s.files (g.told old) (g.told new) held.there.0 now did.files held.there.1 told held.there.2.numbered

    -- It was answered by the engine, and so is the line.
    holds_answered : (a : KeepAnswer) → keep_outcome result ≡ Answered a → (KeepFailed result → ⊥) → HoldsState g IsStored behind new
    holds_answered a is fine = record {
      calls = carried.called a is ∙ ap (after_calls r.calls) held.calls;
      there = stored_by bytes after (g.told new) behind r.history r.layout refl (sym keeps.history) held.there.2.openable
          (keeps.running stands.running) (carried.decides.answered a is).1 (did.within fine)
          (let near = log_near in let same = keeps.next_log in omega (arith, near, same))
          (let near = table_near in let same = keeps.next_table in omega (arith, near, same)) numbered;
    }

    -- what a crash leaves shows the history
    through : CrashesShow g Shown old new h h
    through = subst (λ (k : History). CrashesShow g Shown old new h k) keeps.history (carried.through stands.running)

    shows_it : (now : DiskState) → g.told new ≡ Some now → (image : Image) → IsLeft now image → Shown image h (last_number h)
    shows_it now told image left = exactly (through.each now (watched.counts_now new now (g.moment old) told through.time.later) image left)
      where
        exactly : ShowsBetween Shown h h image → Shown image h (last_number h)
        exactly (m, low, high, shown) = let same : m ≡ last_number h = omega (arith, low, high) in subst (Shown image h) same shown

    stops_step : (stops : StopsKeep) (now : DiskState) → g.told new ≡ Some now → StopsStep Shown s behind 0 now
    stops_step stops now told =
        let near = log_near in
        let table = table_near in
        let represented = represents bytes (g.told old) before os s stands held.there.2.openable in
        record {
          same = refl;
          left = shows_it now told;
          files = s.files;
          few = omega arith;
          numbered = numbered now told;
          next = λ image found left.
              let (log, given, head) = stops.numbers represented now told image found.opening left found.opens in
              record { log = omega (arith, log, near); table = omega (arith, given, table) };
          head = λ image found left.
              let (log, given, head) = stops.numbers represented now told image found.opening left found.opens in
              omega (arith, head, near);
          torn = stops.torn represented now told;
        }

    stops_within : StopsKeep → StopsWithin g IsStopped s behind old new
    unfolding stops_step
    stops_within stops =
        let (now, told, may) = carried.again stands.running in
        record {
          passed = 0;
          has_passed = record { mid = old; counted = held.calls; steady = refl; as_planned = λ stop fails. fails };
          all = 2;
          more = omega arith;
          all_counted = ap (λ (n : ℕ). after_calls n s.calls) stops.ruled;
          made = stops.made;
          least = omega arith;
          most = stops.most;
          calls = stops.calls ∙ ap (after_calls stops.made) held.calls;
          now = now;
          told = told;
          stopped = step_failed (stops_step stops now told) (omega arith);
        }

  module _ (held : HoldsState g IsStored s old) where
    answered_of : (result : Result ⊤ KeepFail) → DidKeep result → OnOk (keep_answer result) (HoldsState g IsStored behind new)
    answered_of (Ok done) did = holds_answered held (Ok done) did rulings.Kept refl (λ failed. failed)
    answered_of (Err unkept.InvalidRequest) did =
        holds_answered held (Err unkept.InvalidRequest) did rulings.InvalidRequest refl (λ failed. failed)
    answered_of (Err unkept.NoMemory) did = tt
    answered_of (Err (unkept.Disk at)) did = tt
    answered_of (Err (unkept.Halted at)) did = tt

    short_of : (result : Result ⊤ KeepFail) → DidKeep result → HaltsBeside (keep_answer result) → HoldsCommits g IsStored s behind new
    short_of (Ok done) did by = absurd by
    short_of (Err unkept.InvalidRequest) did by = absurd by
    short_of (Err unkept.NoMemory) did by = own_commits g IsStored s behind new (record {
      calls = (did.untouched refl).calls ∙ held.calls;
      there = (held.there.0, (did.untouched refl).told ∙ held.there.1, held.there.2);
    })
    short_of (Err (unkept.Disk at)) did by = absurd by
    short_of (Err (unkept.Halted at)) did by = absurd (did.sound by)

  -- A change of how many versions are kept is carried out so.
  pub keep_carries : (kept : Result ⊤ KeepFail) → DidKeep kept → (result : Result Answer Halt) → result ≡ keep_answer kept
      → CarriesOut g IsStored Shown IsStopped old new s behind result
  keep_carries kept did result is held =
      subst (λ (x : Result Answer Halt). LeadsTo g IsStored Shown IsStopped old new s behind x) (sym is) (record {
        answered = answered_of held kept did;
        short = short_of held kept did;
        tells = (carried held kept did).again stands.running;
        through = through held kept did;
        stopped = λ halts clean. stops_within held kept did (did.stops (keep_failed kept halts));
      })
