-- What a sweep makes: it leaves the commits, what lives, and the tables that this reads.
use Rattle.std.proofs.Common.{◌≡◌, ◌≤◌, ℕ, List, refl, ap, sym, ◌∙◌, subst}
use Rattle.std.specs.Prelude.{Option, None, Some, Ok, Err, Result, OnOk}
use Rattle.vl_disk.specs.DiskState.{DiskState}
use Rattle.vl_disk.specs.Faults.{HasCause}
use Rattle.vl_space.specs.Sweeping.{SweepFailed, sweep_outcome}
use Rattle.vl_engine_laws.specs.Represents as engine
use Rattle.vl_engine_laws.specs.Represents.{IsLive}
use Rattle.vl_space.specs.declared.fails.SweepFail.{SweepFail}
use Rattle.vl_space.specs.declared.fails.SweepFail.TheVariants as unswept
use Rattle.vl_engine_laws.specs.declared.kept.Core.{Core}
use Rattle.vl_engine_model.specs.Decides.{Decides, Effects, Otherwise}
use Rattle.vl_engine_model.specs.Ruling.{Ruling}
use Rattle.vl_engine_model.specs.Rulings.Sweep as rulings
use Rattle.vl_engine_model.specs.Rulings.Sweep.{SweepAnswer, sweep_ruling, sweep_unless}
use Rattle.vl_engine_model.specs.Stock.{AreOnce, files_of}
use Rattle.vl_engine_model.specs.Store.Dispatch.{sweep_by, sweep_told}
use Rattle.vl_engine_model.specs.declared.file_name.FileName.{FileName}
use Rattle.vl_engine_model.specs.declared.layout.Layout.{Layout}
use Rattle.vl_engine_model.specs.declared.live.Live.{Live}
use Rattle.vl_model.specs.History.{History}
use Rattle.vl_script_model.specs.Halts.{HaltsByDisk, HaltsByRead}
use Rattle.vl_replay_laws.specs.Replaying.{MakesStep, StandsIn, state_by}
use Rattle.vl_script_model.specs.Sequential.{State, history_of, without_lengths}
use Rattle.vl_replay_laws.specs.Standing.{ReadsNoTable, Stand, sweep_answer}
use Rattle.vl_script_model.specs.declared.fails.Halt.{Halt}
use Rattle.vl_replay_laws.specs.declared.open.Open.{Open}
use Rattle.vl_script_model.specs.laws.Laws.{IsSound}
use Rattle.vl_script_model.specs.laws.Betweens.{extends_itself}
use Rattle.vl_replay_laws.specs.laws.Names.Ending.{still_stands}
use Rattle.vl_replay_laws.specs.laws.Names.Serving.{Serves}
use Rattle.vl_replay_laws.specs.laws.Names.Untabled.{reads_swept}
use Rattle.vl_script.specs.declared.answer.Answer.{Answer}

-- it isn't answered that the engine is halted
abbrev pub IsNoHalt : SweepAnswer → Type 0
IsNoHalt (rulings.Removed count) = Unit {0}
IsNoHalt (rulings.Halted file) = ⊥

-- the ruling leaves this of a layout
pub record SweepsOf (l : Layout) (h : History) (r : Ruling SweepAnswer) : Type 0 where
  pub history : r.history ≡ h
  pub live : r.layout.live ≡ l.live
  pub bare : (ticket : ℕ) → ReadsNoTable ticket r.layout → ReadsNoTable ticket l
  pub running : l.halted ≡ None → r.layout.halted ≡ None
  pub no_halt : l.halted ≡ None → IsNoHalt r.answer
  pub next_log : r.layout.next_log ≡ l.next_log
  pub next_table : r.layout.next_table ≡ l.next_table

pub sweep_sweeps : (l : Layout) (h : History) → AreOnce (files_of l.retired) → SweepsOf l h (sweep_ruling l h)
sweep_sweeps l h once = of l.halted refl
  where
    some_none : (file : FileName) → Some file ≡ None → ⊥
    some_none file e = cc

    of : (halted : Option FileName) → l.halted ≡ halted → SweepsOf l h (sweep_unless halted None l h)
    of (Some file) is = record {
      history = refl;
      live = refl;
      bare = λ ticket none. none;
      running = λ running. running;
      no_halt = λ running. absurd (some_none file (sym is ∙ running));
      next_log = refl;
      next_table = refl;
    }
    of None is = record {
      history = refl;
      live = refl;
      bare = reads_swept l once;
      running = λ running. running;
      no_halt = λ running. tt;
      next_log = refl;
      next_table = refl;
    }

module _ {H R : Type 0} (bytes : H → Option (List ℕ)) (seen now : Option DiskState) (before after : Core H)
    (os : List (Open H R)) (s : State)
    (stands : StandsIn bytes seen before os s) (r : Ruling SweepAnswer) (sweeps : SweepsOf s.store.layout (history_of s) r)
    (sound : IsSound (state_by s (sweep_by s.store r))) where
  abbrev h : History
  h = history_of s

  abbrev l : Layout
  l = s.store.layout

  -- what the names stand for stands on
  names_on : Stand bytes os s.store.things h r.layout
  names_on = record {
    each = λ name. still_stands bytes h h l r.layout (extends_itself h) (λ (ticket : ℕ). Unit {0})
        (λ ticket number on lives. subst (λ (xs : List Live). IsLive (record r.layout { live = xs }) ticket number) (sym sweeps.live) lives)
        (λ ticket number on lives. sweeps.bare ticket) _ _ (λ thing found reads. tt) (stands.names.each name);
    once = stands.names.once;
    apart = stands.names.apart;
  }

  sweep_stands : Serves bytes now s.openable after r.history r.layout → after.back.state.next_log ≤ after.back.next_log
      → StandsIn bytes now after os (state_by s (sweep_by s.store r))
  sweep_stands there within =
      let on = subst (λ (k : History). Serves bytes now s.openable after k r.layout) sweeps.history there in
      record {
        engine = on.stands;
        names = names_on;
        sound = sound;
        held = λ openable. on.held openable (sweeps.running stands.running);
        running = sweeps.running stands.running;
        fits = on.fits;
        within = within;
      }

  module _ (otherwise : Otherwise) (effects : Effects) where
    -- by what the engine answered
    pub sweep_makes : (result : Result ℕ SweepFail)
        → Decides (Serves bytes now s.openable after) h l r otherwise (sweep_outcome result) effects
        → after.back.state.next_log ≤ after.back.next_log → MakesStep bytes now after os s (sweep_by s.store r) (sweep_answer result)
    sweep_makes (Ok count) decides within =
        let (same, there) = decides.answered (rulings.Removed count) refl in
        (ap (λ (a : SweepAnswer). without_lengths (sweep_told a)) same, sweep_stands there within)
    sweep_makes (Err (unswept.Disk name)) decides within = tt
    sweep_makes (Err (unswept.Halted name)) decides within = tt

    -- an engine that stands for what isn't halted isn't halted
    pub sweep_sound : (result : Result ℕ SweepFail)
        → Decides (Serves bytes now s.openable after) h l r otherwise (sweep_outcome result) effects → HaltsByRead (sweep_answer result) → ⊥
    sweep_sound (Ok count) decides halts = halts
    sweep_sound (Err (unswept.Disk name)) decides halts = halts
    sweep_sound (Err (unswept.Halted name)) decides halts =
        let (same, there) = decides.answered (rulings.Halted (engine.file_of name)) refl in
        subst IsNoHalt (sym same) (sweeps.no_halt stands.running)

-- what it leaves where it is answered
module _ (leaves : History → Layout → Type 0) (h : History) (l : Layout) (r : Ruling SweepAnswer) (otherwise : Otherwise)
    (effects : Effects) where
  pub sweep_leaves : (result : Result ℕ SweepFail) → Decides leaves h l r otherwise (sweep_outcome result) effects
      → OnOk (sweep_answer result) (leaves r.history r.layout)
  sweep_leaves (Ok count) decides = (decides.answered (rulings.Removed count) refl).1
  sweep_leaves (Err (unswept.Disk name)) decides = tt
  sweep_leaves (Err (unswept.Halted name)) decides = tt

-- ---- where the disk failed

pub sweep_failed : (result : Result ℕ SweepFail) → HaltsByDisk (sweep_answer result) → SweepFailed result
sweep_failed (Ok count) halts = halts
sweep_failed (Err (unswept.Disk name)) halts = halts
sweep_failed (Err (unswept.Halted name)) halts = absurd halts

failed_sweep : (result : Result ℕ SweepFail) → SweepFailed result → HaltsByDisk (sweep_answer result)
failed_sweep (Ok count) failed = failed
failed_sweep (Err (unswept.Disk name)) failed = failed
failed_sweep (Err (unswept.Halted name)) failed = absurd failed

pub sweep_cause : (swept : Result ℕ SweepFail) (result : Result Answer Halt) → result ≡ sweep_answer swept → (before now : ℕ)
    → HasCause before now (SweepFailed swept) → HasCause before now (HaltsByDisk result)
sweep_cause swept result is before now cause = record {
  later = cause.later;
  rose = λ halts. cause.rose (sweep_failed swept (subst (λ (r : Result Answer Halt). HaltsByDisk r) is halts));
  steady = λ none. cause.steady (λ failed. none (subst (λ (r : Result Answer Halt). HaltsByDisk r) (sym is) (failed_sweep swept failed)));
}
