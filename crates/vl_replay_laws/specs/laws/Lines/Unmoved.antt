-- Lines that change nothing: those whose name is in use, and those that are given no answer before anything was done.
use Rattle.std.proofs.Common.{◌≡◌, ℕ, List, refl, ap, sym, ◌∙◌, subst, arith}
use Rattle.std.specs.Prelude.{Option, None, Some, Result, Ok, Err, IsErr, OnOk}
use Rattle.vl_engine_laws.specs.Shown.{Shown}
use Rattle.vl_engine_laws.specs.declared.kept.Core.{Core}
use Rattle.vl_disk.specs.DiskState.{DiskState}
use Rattle.vl_disk.specs.Faults.{after_calls}
use Rattle.vl_disk.specs.declared.watched.Watched.{Ghosts}
use Rattle.vl_engine_model.specs.Store.Lines as store_lines
use Rattle.vl_engine_model.specs.Store.Lines.{Name}
use Rattle.vl_engine_model.specs.Store.Things.{Step, only, thing_of}
use Rattle.vl_script_model.specs.Durable.{CarriesOut, LeadsTo}
use Rattle.vl_script_model.specs.Halts.{HaltsByDisk}
use Rattle.vl_script_model.specs.Sequential.{State, files_after, history_of, state_after, step_to}
use Rattle.vl_script_model.specs.Stored.{IsStopped, IsStored}
use Rattle.vl_script_model.specs.declared.fails.Halt.{Halt}
use Rattle.vl_script_model.specs.laws.Betweens.{extends_itself}
use Rattle.vl_script_model.specs.laws.DiskSteps.{IsWatched, opens_again, own_commits, rests_until}
use Rattle.vl_script_model.specs.laws.Extending.{line_extends}
use Rattle.vl_script_model.specs.laws.ShownDisk.{shown_stays, stored_exactly}
use Rattle.vl_replay_laws.specs.Passing.{TellsUsed, name_made}
use Rattle.vl_replay_laws.specs.Replaying.{MakesStep, StandsIn}
use Rattle.vl_replay_laws.specs.declared.open.Open.{Open}
use Rattle.vl_script.specs.declared.answer.Answer.TheVariants as answers
use Rattle.vl_script.specs.declared.line.Line.{Line}
use Rattle.vl_script.specs.declared.line.Line.TheVariants as lines
use Rattle.vl_replay_laws.specs.laws.Passes.Used.{taken_line}

-- ---- results

on_ok_at_err : {T E : Type 0} (result : Result T E) (P : Type 0) → IsErr result → OnOk result P
on_ok_at_err (Ok x) P err = cc
on_ok_at_err (Err e) P err = tt

-- ---- a line that is given no answer before anything was done

module _ {D : Type 0} (g : Ghosts D) (watched : IsWatched g) (s : State) (disk : D) where
  pub unanswered_carries : {T : Type 0} (line : Line) (result : Result T Halt) → IsErr result → (HaltsByDisk result → ⊥)
      → CarriesOut g IsStored Shown IsStopped disk disk s (state_after s line) result
  unanswered_carries line result err sound held = record {
    answered = on_ok_at_err result _ err;
    short = λ _. own_commits g IsStored s (state_after s line) disk held;
    tells = opens_again g watched IsStored Shown IsStopped shown_stays stored_exactly s disk held;
    through = rests_until g watched IsStored Shown IsStopped shown_stays stored_exactly s (history_of (state_after s line))
        (line_extends s line) disk held;
    stopped = λ by. absurd (sound by);
  }

  -- and one that leaves the state as it is
  pub leaves_carries : {T : Type 0} (t : State) (x : T) → t ≡ s → CarriesOut g IsStored Shown IsStopped disk disk s t (Ok x)
  leaves_carries {T} t x same held = subst (λ (u : State). LeadsTo {T = T} g IsStored Shown IsStopped disk disk s u (Ok x))
      (sym same) (record {
        answered = held;
        short = λ halts. absurd halts;
        tells = opens_again g watched IsStored Shown IsStopped shown_stays stored_exactly s disk held;
        through = rests_until g watched IsStored Shown IsStopped shown_stays stored_exactly s (history_of s)
            (extends_itself (history_of s)) disk held;
        stopped = λ halts. absurd halts;
      })

-- ---- a line whose name is in use

none_some : (a : Name) → None ≡ Some a → ⊥
none_some a e = cc

-- what its step leaves
abbrev by_step : State → Line → Step → State
by_step s line x = record {
  store = x.state;
  calls = after_calls x.calls s.calls;
  files = files_after line x s.files;
  openable = s.openable;
}

module _ (s : State) (line : Line) (name : Name) (used : TellsUsed s line (Some name)) where
  pub taken_step : step_to s line ≡ only (store_lines.Taken name) s.store
  taken_step = taken_line s line name used.0 used.1

  pub taken_makes : {H R : Type 0} (bytes : H → Option (List ℕ)) (told : Option DiskState) (core : Core H) (os : List (Open H R))
      → StandsIn bytes told core os s → MakesStep bytes told core os s (step_to s line) (Ok (answers.Taken name))
  taken_makes bytes told core os stands =
      subst (λ (x : Step). MakesStep bytes told core os s x (Ok (answers.Taken name))) (sym taken_step) (refl, stands)

pub taken_leaves : (s : State) (line : Line) (name : Name) → TellsUsed s line (Some name) → state_after s line ≡ s
taken_leaves s (lines.Begin n) name used = ap (by_step s (lines.Begin n)) (taken_step s (lines.Begin n) name used)
taken_leaves s (lines.View n) name used = ap (by_step s (lines.View n)) (taken_step s (lines.View n) name used)
taken_leaves s (lines.Plan n) name used =
    ap (by_step s (lines.Plan n)) (taken_step s (lines.Plan n) name used)
    ∙ ap (λ (files : ℕ). record s { files = files }) (omega arith)
taken_leaves s (lines.Drain n segment) name used =
    ap (by_step s (lines.Drain n segment)) (taken_step s (lines.Drain n segment) name used)
    ∙ ap (λ (files : ℕ). record s { files = files }) (omega arith)
taken_leaves s (lines.Pick n percent) name used = ap (by_step s (lines.Pick n percent)) (taken_step s (lines.Pick n percent) name used)
taken_leaves s line name used = absurd (none_some name used.0)

-- ---- by what was told

pub free_name : (s : State) (line : Line) {told : Option Name} {name : Name} → told ≡ None → TellsUsed s line told
    → name_made line ≡ Some name → thing_of s.store name ≡ None
free_name s line {told} {name} none tells is = subst (TellsUsed s line) none tells name is

pub used_line : (s : State) (line : Line) {told : Option Name} {name : Name} → told ≡ Some name → TellsUsed s line told
    → TellsUsed s line (Some name)
used_line s line {told} {name} is tells = subst (TellsUsed s line) is tells
