-- What an engine's next calls ask of its disk is still so behind a call.
use Rattle.std.specs.Prelude.{◌≡◌, ℕ, List, Option, None, Some, IsSome, is_some, true, refl}
use Rattle.std.specs.FinMap.{get}
use Rattle.std.specs.Option.{ForSome}
use Rattle.std.proofs.Common.{sym, ap, subst, ◌∙◌}
use Rattle.vl_back.specs.declared.back.Back.{Back}
use Rattle.vl_disk.specs.Disk.{IsChangedBy, IsFree, Stands}
use Rattle.vl_disk.specs.DiskState.{DiskState, File}
use Rattle.vl_disk.specs.declared.name.Name.TheVariants as names
use Rattle.vl_disk.specs.declared.name.Name.{Name}
use Rattle.vl_steps.specs.laws.Filing.{files_written}
use Rattle.vl_engine_laws.specs.Carries.{HasSameFiles}
use Rattle.vl_engine_laws.specs.Fit.{IsFitFor, IsFitForSteps}
use Rattle.vl_engine_laws.specs.Writing.{written}
use Rattle.vl_engine_laws.specs.declared.kept.Core.{Core}

-- ---- where the same files stand

module _ (old new : DiskState) (same : HasSameFiles old new) where
  stands_then : (name : Name) → Stands name old → Stands name new
  stands_then name stands = by (get new.standing name) refl
    where
      by : (o : Option File) → get new.standing name ≡ o → IsSome (get new.standing name)
      by None is = absurd (never (get old.standing name) ((same name).0.0 is) stands)
        where
          never : (p : Option File) → p ≡ None → is_some p ≡ true → ⊥
          never None none some = cc
          never (Some file) none some = cc
      by (Some file) is = ap is_some is

  free_then : (name : Name) → IsFree name old → IsFree name new
  free_then name free = (same name).0.1 free

  pub fit_for_steps : (back : Back) → IsFitForSteps back old → IsFitForSteps back new
  fit_for_steps back fit = record {
    manifest = stands_then (names.Manifest back.manifest.number) fit.manifest;
    logs = λ n above. free_then (names.Log n) (fit.logs n above);
    tables = λ n above. free_then (names.Table n) (fit.tables n above);
  }

  pub fit_for : {H : Type 0} (core : Core H) → IsFitFor core old → IsFitFor core new
  fit_for core fit = record {
    log = stands_then (names.Log core.front.log.number) fit.log;
    steps = λ running. fit_for_steps core.back (fit.steps running);
  }

-- ---- where memory alone changed

module _ {H : Type 0} (before after : Core H) (number : after.front.log.number ≡ before.front.log.number)
    (halted : after.front.halted ≡ before.front.halted) (back : after.back ≡ before.back) where
  pub fit_still : (disk : DiskState) → IsFitFor before disk → IsFitFor after disk
  fit_still disk fit = record {
    log = subst (λ (n : ℕ). Stands (names.Log n) disk) (sym number) fit.log;
    steps = λ running. subst (λ (b : Back). IsFitForSteps b disk) (sym back) (fit.steps (sym halted ∙ running));
  }

  -- behind a commit
  pub fit_written : (name : Name) (frame : List ℕ) (old new : Option DiskState) → ForSome old (IsFitFor before)
      → IsChangedBy (written name frame) old new → ForSome new (IsFitFor after)
  fit_written name frame None new fit changed state told = absurd (apart changed told)
    where
      apart : new ≡ None → new ≡ Some state → ⊥
      apart none some = cc
  fit_written name frame (Some old) new fit changed state told =
      subst (IsFitFor after) (same changed told)
      (fit_still (written name frame old)
      (fit_for old (written name frame old) (files_written name frame old) before (fit old refl)))
    where
      same : new ≡ Some (written name frame old) → new ≡ Some state → written name frame old ≡ state
      same changed told = cc

-- Where it is halted, just the active log has to stand.
pub fit_halted : {H : Type 0} (core : Core H) (name : Name) → core.front.halted ≡ Some name → (told : Option DiskState)
    → ForSome told (Stands (names.Log core.front.log.number)) → ForSome told (IsFitFor core)
fit_halted core name halted told stands state is = record { log = stands state is; steps = λ running. absurd (apart halted running) }
  where
    apart : core.front.halted ≡ Some name → core.front.halted ≡ None → ⊥
    apart some none = cc
