-- What an install leaves in memory and writes, at each of its exits, without a premise on what the engine stands for.
use Rattle.std.specs.Prelude.{◌≡◌, ℕ, nat_le, true, List, map, Option, None, Some, Result, Ok, Err, OnOk}
use Rattle.std.specs.Option.{ForSome}
use Rattle.std.proofs.Common.{ap, sym, arith, ◌∙◌}
use Rattle.std.proofs.lemmas.Bool.Decides.{nat_tests}
use Rattle.vl_back.specs.InstallStaging.{replacing_of}
use Rattle.vl_compact.specs.declared.files.Synced.{Synced}
use Rattle.vl_compact.specs.declared.job.Job.{Job as Merging}
use Rattle.vl_disk.specs.declared.name.Name.{Name}
use Rattle.vl_disk.specs.declared.watched.Watched.{Ghosts}
use Rattle.vl_disk.specs.declared.writer.Writer.{Ghosts as Writers}
use Rattle.vl_steps.specs.Installing.{InstallsCore, InstallsUnraced, IsInstallWritten}
use Rattle.vl_steps.specs.Merging.{HasAllMerge}
use Rattle.vl_steps.specs.declared.fails.InstallFail.TheVariants as install
use Rattle.vl_steps.specs.declared.fails.InstallFail.{InstallFail}
use Rattle.vl_engine_laws.specs.declared.kept.Core.{Core}
use Rattle.vl_engine_laws.specs.declared.open.OpenMerge.{OpenMerge}
use Rattle.vl_engine_laws.specs.laws.InstallDiskEdits.{install_next}
use Rattle.vl_engine_model.specs.Rulings.Install.{race}
use Rattle.vl_engine_model.specs.declared.job.Job.{Job}
use Rattle.vl_manifest.specs.declared.state.ManifestState.{ManifestState}
use Rattle.vl_model.specs.Conflicts.{Named}
use Rattle.vl_model.specs.Limits.{max_epoch}
use Rattle.vl_table.specs.Tables.{number_of}
use Rattle.vl_version.specs.declared.base.Base.{Base}

module _ {D H R W : Type 0} (g : Ghosts D) (bytes : H → Option (List ℕ)) (w : Writers W) {s : _}
    (job : Merging (Base H R) H W s) (old new : D) (before after : Core H) where
  -- What is kept in memory,
  pub core_by : before.front.halted ≡ None → (result : Result (Unit {0}) (InstallFail (Base H R) H W s))
      → InstallsUnraced g bytes w job old new before after result → InstallsCore before after result
  core_by none (Ok done) did = record {
    running = none;
    front = did.1.front;
    epoch = did.1.back.version;
    manifest = did.1.back.number;
    next_log = did.1.back.next_log;
    next_table = ap (λ (x : ManifestState). x.next_table) did.1.back.state
        ∙ install_next (replacing_of before.back (map number_of job.inputs.tables.items)
        (map (λ (t : Synced W s). t.number) job.made.items) did.1.ready.levels.level did.1.ready.levels.position did.1.is_ready.gone)
        before.back.state did.1.ready.staged.state did.1.is_ready.staged.says;
    waiting = did.1.back.waiting;
  }
  core_by none (Err (install.Halted name)) did = absurd did
  core_by none (Err (install.Raced key number)) did = absurd did
  core_by none (Err (install.Exhausted counter)) did =
      let used : nat_le max_epoch before.back.epoch ≡ true = did.used in
      record { running = none; counter_is = did.counter_is; used = grind (arith, nat_tests, used); same = did.core }
  core_by none (Err (install.NoMemory back)) did = did.1
  core_by none (Err (install.Disk name)) did = record {
    running = none;
    front = did.1.front;
    epoch = did.1.epoch;
    state = did.1.state;
    version = did.1.version;
  }

  -- and what was written where the tables were put in.
  pub written_by : (result : Result (Unit {0}) (InstallFail (Base H R) H W s))
      → InstallsUnraced g bytes w job old new before after result
      → OnOk result (IsInstallWritten g bytes w job before old new)
  written_by (Ok done) did = record {
    ready = did.1.ready;
    is_ready = did.1.is_ready;
    begun = did.1.begun;
    unchanged = did.1.unchanged;
    levels = did.1.levels;
    writes = did.1.writes;
  }
  written_by (Err why) did = tt

-- Where it halted before, it answers by that file.
pub halted_at : {V H W : Type 0} {s : _} (halted : Option Name) (at name : Name) → halted ≡ Some at → halted ≡ Some name
    → ◌≡◌ {A = Result (Unit {0}) (InstallFail V H W s)} (Err (install.Halted at)) (Err (install.Halted name))
halted_at halted at name had is = cc

-- Where it didn't, it says nothing.
pub not_halted : {P : Type 0} (halted : Option Name) (name : Name) → halted ≡ None → halted ≡ Some name → P
not_halted halted name none is = absurd cc

-- Where no deletion was found to stand against it, none does.
pub none_races : {H R W : Type 0} (bytes : H → Option (List ℕ)) (w : Writers W) {s : _} (job : Merging (Base H R) H W s)
    (merging : Option OpenMerge) (named : Option Named)
    → ForSome merging (λ (m : OpenMerge). (j : Job) → HasAllMerge w bytes job j → named ≡ race j m.moved.items) → named ≡ None
    → (j : Job) → HasAllMerge w bytes job j → ForSome merging (λ (m : OpenMerge). race j m.moved.items ≡ None)
none_races bytes w job merging named told none j whole merge is = sym (told merge is j whole) ∙ none
