-- What an install is made ready of, as the calls that made its parts have it.
use Rattle.std.specs.Prelude.{◌≡◌, ℕ, suc, List, [], ◌∷◌, length, map, Option}
use Rattle.std.proofs.Common.{sym, ap, subst, refl}
use Rattle.vl_back.specs.InstallStaging.{IsStagedInstall, replacing_of}
use Rattle.vl_compact.specs.Laid.{AreLevelsOf}
use Rattle.vl_compact.specs.Places.{HasPlace}
use Rattle.vl_compact.specs.Progress.{HasAll}
use Rattle.vl_compact.specs.Replacing.{AreReady, HasRoom}
use Rattle.vl_compact.specs.declared.files.Synced.{Synced}
use Rattle.vl_compact.specs.declared.job.Job.{Job}
use Rattle.vl_disk.specs.declared.writer.Writer.{Ghosts as Writers}
use Rattle.vl_steps.specs.Installing.{IsReadyFor, first_made}
use Rattle.vl_steps.specs.declared.install.ReadyInstall.{ReadyInstall}
use Rattle.vl_engine_laws.specs.declared.kept.Core.{Core}
use Rattle.vl_engine_model.specs.Merging.{gone_after, needless}
use Rattle.vl_engine_model.specs.declared.job.Job as laid_job
use Rattle.vl_engine_model.specs.declared.job.Target.{Target}
use Rattle.vl_engine_model.specs.declared.table.Table as laid
use Rattle.vl_table.specs.Tables.{number_of}
use Rattle.vl_version.specs.Bases.{HasSources}
use Rattle.vl_version.specs.Replacing.{IsReplaced}
use Rattle.vl_version.specs.declared.base.Base.{Base}
use Rattle.vl_version.specs.declared.levels.Levels.{Levels}

pub as_many : {A B : Type 0} (f : A → B) (xs : List A) → length (map f xs) ≡ length xs
as_many f [] = refl
as_many f (x ∷ xs) = ap suc (as_many f xs)

module _ {H R W : Type 0} (bytes : H → Option (List ℕ)) (w : Writers W) (core : Core H) {s : _} (job : Job (Base H R) H W s)
    (ready : ReadyInstall H) where
  abbrev inputs_in : List ℕ
  inputs_in = map number_of job.inputs.tables.items

  abbrev made_in : List ℕ
  made_in = map (λ (t : Synced W s). t.number) job.made.items

  pub ready_by : (gone : ℕ)
      → ((j : laid_job.Job) → HasAll w bytes (λ (b : Base H R) inputs ms. HasSources bytes b.version inputs ms) job j
      → gone ≡ gone_after 0 (needless j))
      → (inputs without made : List ℕ) (first : Option (List ℕ)) (levels : Levels H) (target : Target) (count : ℕ)
      → inputs ≡ inputs_in → without ≡ inputs_in → made ≡ made_in → first ≡ first_made job.made.items
      → levels ≡ core.version.behind.levels → target ≡ job.inputs.target → count ≡ length job.made.items
      → IsStagedInstall core.back (replacing_of core.back inputs made ready.levels.level ready.levels.position gone) ready.staged
      → IsReplaced bytes core.version ready.version
      → ((ls : List (List laid.Table)) → AreLevelsOf bytes levels ls → HasPlace target without ls
      → AreReady bytes target without first ls [] ready.levels)
      → HasRoom count ready.levels → IsReadyFor bytes w core job ready
  ready_by gone gone_is inputs without made first levels target count inputs_are without_are made_are first_is levels_are target_is count_is
      staged version laid_out room = record {
        gone = gone;
        gone_is = gone_is;
        staged = subst
            (λ (ms : List ℕ). IsStagedInstall core.back (replacing_of core.back inputs_in ms ready.levels.level ready.levels.position gone)
            ready.staged) made_are
            (subst
            (λ (is : List ℕ). IsStagedInstall core.back (replacing_of core.back is made ready.levels.level ready.levels.position gone)
            ready.staged) inputs_are staged);
        version = version;
        levels = λ ls are place.
            let placed : HasPlace target without ls = subst (λ (t : Target). HasPlace t without ls) (sym target_is)
            (subst (λ (is : List ℕ). HasPlace job.inputs.target is ls) (sym without_are) place) in
            let made_ready = laid_out ls (subst (λ (lv : Levels H). AreLevelsOf bytes lv ls) (sym levels_are) are) placed in
            subst (λ (f : Option (List ℕ)). AreReady bytes job.inputs.target inputs_in f ls [] ready.levels) first_is
            (subst (λ (is : List ℕ). AreReady bytes job.inputs.target is first ls [] ready.levels) without_are
            (subst (λ (t : Target). AreReady bytes t without first ls [] ready.levels) target_is made_ready));
        room = subst (λ (n : ℕ). HasRoom n ready.levels) count_is room;
      }
