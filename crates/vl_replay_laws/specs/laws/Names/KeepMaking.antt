-- What a change of how many versions are kept makes: it leaves the commits and what lives.
use Rattle.std.proofs.Common.{◌≡◌, ◌≤◌, ℕ, ◌==◌, Bool, true, false, cond, ◌||◌, List, [], refl, ap, sym, ◌∙◌, subst}
use Rattle.std.specs.Prelude.{Option, None, Some, Ok, Err, Result, OnOk, nat_lt}
use Rattle.std.specs.Bool.{⊤}
use Rattle.vl_disk.specs.DiskState.{DiskState}
use Rattle.vl_disk.specs.Faults.{HasCause}
use Rattle.vl_steps.specs.Keeping.{KeepFailed, keep_outcome}
use Rattle.vl_engine_laws.specs.Represents as engine
use Rattle.vl_engine_laws.specs.Represents.{IsLive}
use Rattle.vl_steps.specs.declared.fails.KeepFail.{KeepFail}
use Rattle.vl_steps.specs.declared.fails.KeepFail.TheVariants as unkept
use Rattle.vl_engine_laws.specs.declared.kept.Core.{Core}
use Rattle.vl_engine_model.specs.Decides.{Decides, Effects, Otherwise}
use Rattle.vl_engine_model.specs.Ruling.{Ruling, leaving}
use Rattle.vl_engine_model.specs.Rulings.Keep as rulings
use Rattle.vl_engine_model.specs.Rulings.Keep.{KeepAnswer, keep_ruling, keep_unless, keeping}
use Rattle.vl_engine_model.specs.Store.Dispatch.{keep_by, keep_told}
use Rattle.vl_engine_model.specs.declared.file_name.FileName.{FileName}
use Rattle.vl_engine_model.specs.declared.layout.Layout.{Layout}
use Rattle.vl_engine_model.specs.declared.live.Live.{Live}
use Rattle.vl_model.specs.History.{History}
use Rattle.vl_script_model.specs.Halts.{HaltsByDisk, HaltsByRead}
use Rattle.vl_replay_laws.specs.Replaying.{MakesStep, StandsIn, state_by}
use Rattle.vl_script_model.specs.Sequential.{State, history_of, without_lengths}
use Rattle.vl_replay_laws.specs.Standing.{ReadsNoTable, Stand, keep_answer}
use Rattle.vl_script_model.specs.declared.fails.Halt.{Halt}
use Rattle.vl_replay_laws.specs.declared.open.Open.{Open}
use Rattle.vl_script_model.specs.laws.Laws.{IsSound}
use Rattle.vl_script_model.specs.laws.Betweens.{extends_itself}
use Rattle.vl_replay_laws.specs.laws.Names.Ending.{still_stands}
use Rattle.vl_replay_laws.specs.laws.Names.Serving.{Serves}
use Rattle.vl_script.specs.declared.answer.Answer.{Answer}

-- it isn't answered that the engine is halted
abbrev pub IsNoHalt : KeepAnswer → Type 0
IsNoHalt rulings.Kept = Unit {0}
IsNoHalt (rulings.Halted file) = ⊥
IsNoHalt rulings.InvalidRequest = Unit {0}

-- the ruling leaves this of a layout
pub record KeepsOf (l : Layout) (h : History) (r : Ruling KeepAnswer) : Type 0 where
  pub history : r.history ≡ h
  pub live : r.layout.live ≡ l.live
  pub bare : (ticket : ℕ) → ReadsNoTable ticket r.layout → ReadsNoTable ticket l
  pub running : l.halted ≡ None → r.layout.halted ≡ None
  pub no_halt : l.halted ≡ None → IsNoHalt r.answer
  pub next_log : r.layout.next_log ≡ l.next_log
  pub next_table : r.layout.next_table ≡ l.next_table

pub keep_keeps : (l : Layout) (h : History) (v : ℕ) → KeepsOf l h (keep_ruling l h v)
keep_keeps l h v = of l.halted refl
  where
    left : (a : KeepAnswer) → IsNoHalt a → KeepsOf l h (leaving a h l)
    left a goes = record {
      history = refl;
      live = refl;
      bare = λ ticket none. none;
      running = λ running. running;
      no_halt = λ running. goes;
      next_log = refl;
      next_table = refl;
    }

    by_same : (b : Bool) → KeepsOf l h (cond b (leaving rulings.Kept h l)
        (record { answer = rulings.Kept; history = h; layout = keeping v h l; calls = 2; gone = [] }))
    by_same true = left rulings.Kept tt
    by_same false = record {
      history = refl;
      live = refl;
      bare = λ ticket none. none;
      running = λ running. running;
      no_halt = λ running. tt;
      next_log = refl;
      next_table = refl;
    }

    by_number : (b : Bool) → KeepsOf l h (cond b (leaving rulings.InvalidRequest h l) (cond (v == l.keep) (leaving rulings.Kept h l)
        (record { answer = rulings.Kept; history = h; layout = keeping v h l; calls = 2; gone = [] })))
    by_number true = left rulings.InvalidRequest tt
    by_number false = by_same (v == l.keep)

    some_none : (file : FileName) → Some file ≡ None → ⊥
    some_none file e = cc

    of : (halted : Option FileName) → l.halted ≡ halted → KeepsOf l h (keep_unless halted l h v)
    of (Some file) is = record {
      history = refl;
      live = refl;
      bare = λ ticket none. none;
      running = λ running. running;
      no_halt = λ running. absurd (some_none file (sym is ∙ running));
      next_log = refl;
      next_table = refl;
    }
    of None is = by_number ((v == 0) || nat_lt 16 v)

module _ {H R : Type 0} (bytes : H → Option (List ℕ)) (seen now : Option DiskState) (before after : Core H)
    (os : List (Open H R)) (s : State)
    (stands : StandsIn bytes seen before os s) (r : Ruling KeepAnswer) (keeps : KeepsOf s.store.layout (history_of s) r)
    (sound : IsSound (state_by s (keep_by s.store r))) where
  abbrev h : History
  h = history_of s

  abbrev l : Layout
  l = s.store.layout

  -- what the names stand for stands on
  names_on : Stand bytes os s.store.things h r.layout
  names_on = record {
    each = λ name. still_stands bytes h h l r.layout (extends_itself h) (λ (ticket : ℕ). Unit {0})
        (λ ticket number on lives. subst (λ (xs : List Live). IsLive (record r.layout { live = xs }) ticket number) (sym keeps.live) lives)
        (λ ticket number on lives. keeps.bare ticket) _ _ (λ thing found reads. tt) (stands.names.each name);
    once = stands.names.once;
    apart = stands.names.apart;
  }

  keep_stands : Serves bytes now s.openable after r.history r.layout → after.back.state.next_log ≤ after.back.next_log
      → StandsIn bytes now after os (state_by s (keep_by s.store r))
  keep_stands there within =
      let on = subst (λ (k : History). Serves bytes now s.openable after k r.layout) keeps.history there in
      record {
        engine = on.stands;
        names = names_on;
        sound = sound;
        held = λ openable. on.held openable (keeps.running stands.running);
        running = keeps.running stands.running;
        fits = on.fits;
        within = within;
      }

  module _ (otherwise : Otherwise) (effects : Effects) where
    -- by what the engine answered
    pub keep_makes : (result : Result ⊤ KeepFail)
        → Decides (Serves bytes now s.openable after) h l r otherwise (keep_outcome result) effects
        → ((KeepFailed result → ⊥) → after.back.state.next_log ≤ after.back.next_log)
        → MakesStep bytes now after os s (keep_by s.store r) (keep_answer result)
    keep_makes (Ok done) decides within =
        let (same, there) = decides.answered rulings.Kept refl in
        (ap (λ (a : KeepAnswer). without_lengths (keep_told a)) same, keep_stands there (within (λ failed. failed)))
    keep_makes (Err unkept.InvalidRequest) decides within =
        let (same, there) = decides.answered rulings.InvalidRequest refl in
        (ap (λ (a : KeepAnswer). without_lengths (keep_told a)) same, keep_stands there (within (λ failed. failed)))
    keep_makes (Err unkept.NoMemory) decides within = tt
    keep_makes (Err (unkept.Disk name)) decides within = tt
    keep_makes (Err (unkept.Halted name)) decides within = tt

    -- an engine that stands for what isn't halted isn't halted
    pub keep_sound : (result : Result ⊤ KeepFail)
        → Decides (Serves bytes now s.openable after) h l r otherwise (keep_outcome result) effects → HaltsByRead (keep_answer result) → ⊥
    keep_sound (Ok done) decides halts = halts
    keep_sound (Err unkept.InvalidRequest) decides halts = halts
    keep_sound (Err unkept.NoMemory) decides halts = halts
    keep_sound (Err (unkept.Disk name)) decides halts = halts
    keep_sound (Err (unkept.Halted name)) decides halts =
        let (same, there) = decides.answered (rulings.Halted (engine.file_of name)) refl in
        subst IsNoHalt (sym same) (keeps.no_halt stands.running)

-- what it leaves where it is answered
module _ (leaves : History → Layout → Type 0) (h : History) (l : Layout) (r : Ruling KeepAnswer) (otherwise : Otherwise)
    (effects : Effects) where
  pub keep_leaves : (result : Result ⊤ KeepFail) → Decides leaves h l r otherwise (keep_outcome result) effects
      → OnOk (keep_answer result) (leaves r.history r.layout)
  keep_leaves (Ok done) decides = (decides.answered rulings.Kept refl).1
  keep_leaves (Err unkept.InvalidRequest) decides = (decides.answered rulings.InvalidRequest refl).1
  keep_leaves (Err unkept.NoMemory) decides = tt
  keep_leaves (Err (unkept.Disk name)) decides = tt
  keep_leaves (Err (unkept.Halted name)) decides = tt

-- ---- where the disk failed

pub keep_failed : (result : Result ⊤ KeepFail) → HaltsByDisk (keep_answer result) → KeepFailed result
keep_failed (Ok done) halts = halts
keep_failed (Err unkept.InvalidRequest) halts = halts
keep_failed (Err unkept.NoMemory) halts = halts
keep_failed (Err (unkept.Disk name)) halts = halts
keep_failed (Err (unkept.Halted name)) halts = absurd halts

failed_keep : (result : Result ⊤ KeepFail) → KeepFailed result → HaltsByDisk (keep_answer result)
failed_keep (Ok done) failed = failed
failed_keep (Err unkept.InvalidRequest) failed = failed
failed_keep (Err unkept.NoMemory) failed = failed
failed_keep (Err (unkept.Disk name)) failed = failed
failed_keep (Err (unkept.Halted name)) failed = absurd failed

pub keep_cause : (kept : Result ⊤ KeepFail) (result : Result Answer Halt) → result ≡ keep_answer kept → (before now : ℕ)
    → HasCause before now (KeepFailed kept) → HasCause before now (HaltsByDisk result)
keep_cause kept result is before now cause = record {
  later = cause.later;
  rose = λ halts. cause.rose (keep_failed kept (subst (λ (r : Result Answer Halt). HaltsByDisk r) is halts));
  steady = λ none. cause.steady (λ failed. none (subst (λ (r : Result Answer Halt). HaltsByDisk r) (sym is) (failed_keep kept failed)));
}
