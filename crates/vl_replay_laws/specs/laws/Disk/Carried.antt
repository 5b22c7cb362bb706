-- What a line that isn't a commit does to the disk: nothing, and it holds the state behind the line.
use Rattle.std.proofs.Common.{◌≡◌, ◌≤◌, ◌+◌, ℕ, List, refl, ap, sym, ◌∙◌, subst}
use Rattle.std.specs.Prelude.{Ok, Err, Option, Result, OnOk}
use Rattle.vl_disk.specs.DiskState.{DiskState}
use Rattle.vl_disk.specs.Faults.{after_calls}
use Rattle.vl_disk.specs.declared.watched.Watched.{Ghosts}
use Rattle.vl_engine_laws.specs.Held.{AreBegun, Base, Holds, IsBase}
use Rattle.vl_engine_laws.specs.Pointed.{layout_logs}
use Rattle.vl_engine_laws.specs.Shown.{Shown}
use Rattle.vl_engine_laws.specs.declared.kept.Core.{Core}
use Rattle.vl_engine_model.specs.Store.Commits.{Commits, history_in}
use Rattle.vl_engine_model.specs.Store.Things.{Step}
use Rattle.vl_engine_model.specs.Tidy.{IsTidy}
use Rattle.vl_engine_model.specs.declared.layout.Layout.{Layout}
use Rattle.vl_engine_model.specs.declared.live.Live.{Live}
use Rattle.vl_model.specs.History.{History}
use Rattle.vl_script_model.specs.Durable.{CarriesOut, HoldsState, LeadsTo}
use Rattle.vl_script_model.specs.Halts.{HaltsByDisk}
use Rattle.vl_replay_laws.specs.Replaying.{MakesStep, state_by}
use Rattle.vl_script_model.specs.Sequential.{State, history_of}
use Rattle.vl_script_model.specs.Stored.{IsStopped, IsStored}
use Rattle.vl_script_model.specs.declared.fails.Halt.{Halt}
use Rattle.vl_replay_laws.specs.declared.open.Open.{Open}
use Rattle.vl_script_model.specs.laws.Growing.{Keeps}
use Rattle.vl_script.specs.declared.answer.Answer.{Answer}
use Rattle.vl_script_model.specs.laws.Betweens.{extends_same}
use Rattle.vl_script_model.specs.laws.DiskSteps.{IsWatched, opens_again, own_commits, rests_until}
use Rattle.vl_script_model.specs.laws.ShownDisk.{shown_stays, stored_exactly}

-- what lives is held by no disk
live_base : (b : Base) (l : Layout) (live : List Live) (h : History) → IsBase b l h → IsBase b (record l { live = live }) h
live_base b l live h is = record {
  numbered = is.numbered;
  made = is.made;
  goes = is.goes;
  levels = is.levels;
  frozen = is.frozen;
  led = is.led;
  keep = is.keep;
  since = is.since;
  gone = is.gone;
  spared = is.spared;
  covered = is.covered;
  format = is.format;
}

live_holds : (b : Base) (l : Layout) (live : List Live) (disk : DiskState) → Holds b l disk → Holds b (record l { live = live }) disk
live_holds b l live disk held = record {
  base = held.base;
  files = record { logs = held.files.logs; tables = held.files.tables; flushed = held.files.flushed };
  durable = held.durable;
  lawful = held.lawful;
}

-- the same disk holds the state behind the line
pub stored_on : (s : State) (x : Step) → Keeps s.store x
    → IsTidy (layout_logs x.state.layout) x.state.layout (history_in x.state.commits) → (disk : DiskState)
    → IsStored s disk → IsStored (state_by s x) disk
stored_on s x keeps tidy disk stored = record {
  openable = stored.openable;
  base = stored.base;
  is_base = subst (λ (p : Commits). IsBase stored.base x.state.layout (history_in p)) (sym keeps.commits)
      (subst (λ (m : Layout). IsBase stored.base m (history_of s)) (sym keeps.layout)
      (live_base stored.base s.store.layout x.state.layout.live (history_of s) stored.is_base));
  holds = subst (λ (m : Layout). Holds stored.base m disk) (sym keeps.layout)
      (live_holds stored.base s.store.layout x.state.layout.live disk stored.holds);
  tidy = tidy;
  next_table = subst (λ (m : Layout). stored.base.state.next_table ≤ m.next_table) (sym keeps.layout) stored.next_table;
  begun = subst (λ (m : Layout). AreBegun stored.base.state.next_table m.next_table disk) (sym keeps.layout) stored.begun;
  numbered = stored.numbered;
  next = stored.next;
  next_log = subst (λ (m : Layout). m.next_log ≤ s.files + 1) (sym keeps.layout) stored.next_log;
  next_drawn = subst (λ (m : Layout). m.next_table ≤ s.files + 1) (sym keeps.layout) stored.next_drawn;
}

-- what is tidy in memory is tidy
its_tidy : {H R : Type 0} (bytes : H → Option (List ℕ)) (seen : Option DiskState) (core : Core H) (os : List (Open H R))
    (s : State) (x : Step) (result : Result Answer Halt)
    → MakesStep bytes seen core os s x result
    → OnOk result (IsTidy (layout_logs x.state.layout) x.state.layout (history_in x.state.commits))
its_tidy bytes seen core os s x (Ok answer) makes = makes.1.engine.tidy
its_tidy bytes seen core os s x (Err halt) makes = tt

on_ok : (P Q : Type 0) (result : Result Answer Halt) → (P → Q) → OnOk result P → OnOk result Q
on_ok P Q (Ok answer) weaker p = weaker p
on_ok P Q (Err halt) weaker p = tt

module _ {D H R : Type 0} (g : Ghosts D) (watched : IsWatched g) (bytes : H → Option (List ℕ)) (seen : Option DiskState)
    (core : Core H) (os : List (Open H R)) (s : State) (x : Step)
    (keeps : Keeps s.store x) (result : Result Answer Halt) (makes : MakesStep bytes seen core os s x result)
    (sound : HaltsByDisk result → ⊥) where
  quiet_leads : (disk : D) → HoldsState g IsStored s disk → LeadsTo g IsStored Shown IsStopped disk disk s (state_by s x) result
  quiet_leads disk held =
      let (state, told, stored) = held.there in
      record {
        answered = on_ok (IsTidy (layout_logs x.state.layout) x.state.layout (history_in x.state.commits))
            (HoldsState g IsStored (state_by s x) disk) result
            (λ (tidy : IsTidy (layout_logs x.state.layout) x.state.layout (history_in x.state.commits)). record {
              calls = held.calls ∙ sym (ap (λ (n : ℕ). after_calls n s.calls) keeps.calls);
              there = (state, told, stored_on s x keeps tidy state stored);
            })
            (its_tidy bytes seen core os s x result makes);
        short = λ halts. own_commits g IsStored s (state_by s x) disk held;
        tells = opens_again g watched IsStored Shown IsStopped shown_stays stored_exactly s disk held;
        through = rests_until g watched IsStored Shown IsStopped shown_stays stored_exactly s (history_of (state_by s x))
            (extends_same (history_of s) (history_of (state_by s x)) (ap history_in keeps.commits)) disk held;
        stopped = λ halts. absurd (sound halts);
      }

  -- A line that keeps the commits is carried out so.
  pub quiet_carries : (old new : D) → new ≡ old → CarriesOut g IsStored Shown IsStopped old new s (state_by s x) result
  quiet_carries old new same held =
      subst (λ (disk : D). LeadsTo g IsStored Shown IsStopped old disk s (state_by s x) result) (sym same) (quiet_leads old held)
