-- A merge that the engine has planned is one that is to be carried out in the planned state.
use Rattle.std.proofs.Common.{◌≡◌, ◌≤◌, ℕ, List, [], refl, sym, subst}
use Rattle.std.specs.Prelude.{Option, IsTrue}
use Rattle.vl_compact.specs.declared.job.Job.{Job as TheJob}
use Rattle.vl_disk.specs.DiskState.{DiskState}
use Rattle.vl_disk.specs.declared.writer.Writer.{Ghosts as Writers}
use Rattle.vl_steps.specs.Merging.{FitsReaders, HasMerge}
use Rattle.vl_engine_laws.specs.Lent.{StandsOpen}
use Rattle.vl_engine_laws.specs.Represents as engine
use Rattle.vl_engine_laws.specs.MayStep.{Fits}
use Rattle.vl_engine_laws.specs.declared.kept.Core.{Core}
use Rattle.vl_engine_laws.specs.declared.open.OpenMerge.{OpenMerge}
use Rattle.vl_engine_model.specs.Ruling.{Ruling, pin_of}
use Rattle.vl_engine_model.specs.declared.job.Job.{Job}
use Rattle.vl_version.specs.declared.base.Base.{Base}
use Rattle.vl_replay_laws.specs.Choosing.{chosen}
use Rattle.vl_replay_laws.specs.Drawn.{IsPlanned}
use Rattle.vl_replay_laws.specs.Replaying.{StandsIn}
use Rattle.vl_script_model.specs.Sequential.{State, history_of}
use Rattle.vl_replay_laws.specs.declared.choice.Choice.{Choice}
use Rattle.vl_replay_laws.specs.declared.open.Open.{Open}
use Rattle.vl_replay_laws.specs.laws.Merges.Planned.{Plans}
use Rattle.vl_replay_laws.specs.laws.Merges.Planning.{planned_state}

module _ {W H R S : Type 0} (w k : Writers W) (bytes : H → Option (List ℕ)) (told : Option DiskState)
    (before after : Core H) (merging : Option OpenMerge)
    (os : List (Open H S)) (s : State) (stands : StandsIn bytes told before os s) (job : TheJob (Base H R) H W k) (j : Job)
    (choice : Choice) (plans : Plans choice s.store.layout (history_of s) j) (core : after ≡ before) where
  abbrev ruling : Ruling (Option Job)
  ruling = chosen choice s.store.layout (history_of s)

  pub opened_planned : StandsOpen bytes after merging ruling.history ruling.layout → Fits told after ruling.history ruling.layout
      → (IsTrue s.openable → engine.Represents bytes after told ruling.history ruling.layout) → HasMerge w bytes job j
      → FitsReaders bytes job
      → IsPlanned w bytes told after merging job (planned_state j s) j
  opened_planned opened fits represents has looks =
      let there = subst (λ (r : Ruling (Option Job)). StandsOpen bytes after merging r.history r.layout) plans.ruled opened in
      record {
        serves = record {
          stands = there.stands;
          opens = there.opens;
          held = λ openable. (subst (λ (r : Ruling (Option Job)). engine.Represents bytes after told r.history r.layout)
              plans.ruled (represents openable)).held stands.running;
          running = stands.running;
          fits = subst (λ (r : Ruling (Option Job)). Fits told after r.history r.layout) plans.ruled fits;
          within = subst (λ (c : Core H). c.back.state.next_log ≤ c.back.next_log) (sym core) stands.within;
        };
        open_job = record { job = j; pin = pin_of s.store.layout; moved = []; lent = [] };
        is_open = refl;
        same = refl;
        lent = refl;
        unmoved = refl;
        has = has;
        looks = looks;
      }
