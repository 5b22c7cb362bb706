-- What installs make of the greatest version of a deletion that was dropped for good.
use Rattle.std.proofs.Common.{◌≡◌, ℕ, ◌≤◌, Bool, true, false, List, [], ◌∷◌, refl, arith}
use Rattle.std.specs.Prelude.{Option, Some, None, max, if◌then◌else◌}
use Rattle.std.specs.List.{AllByRecursion}
use Rattle.vl_model.specs.Conflicts.{Named}
use Rattle.vl_model.specs.History.{History}
use Rattle.vl_model.specs.declared.counter.Counter.TheVariants as counter
use Rattle.vl_model.specs.declared.entry.Entry.{Entry}
use Rattle.vl_engine_model.specs.Jobs.{Made, job_ended}
use Rattle.vl_engine_model.specs.Merging.{gone_after, needless}
use Rattle.vl_engine_model.specs.Ruling.{Ruling, leaving, has_no_epoch}
use Rattle.vl_engine_model.specs.Rulings.Install.{InstallAnswer, Installed, Exhausted, installed, race, moved_since}
use Rattle.vl_engine_model.specs.Rulings.Install.{install_checked, install_unless, install_ruling}
use Rattle.vl_engine_model.specs.declared.file_name.FileName.{FileName}
use Rattle.vl_engine_model.specs.declared.job.Job.{Job}
use Rattle.vl_engine_model.specs.declared.layout.Layout.{Layout}
use Rattle.vl_engine_model_laws.specs.Kept.{IsRaisedBy}

-- ---- the greatest version

pub raised-kept : (gone : ℕ) (es : List Entry) → gone ≤ gone_after gone es
raised-kept gone [] = omega arith
raised-kept gone (e ∷ es) = let later = raised-kept gone es in omega (arith, later)

more : (n m : ℕ) → n ≤ m → (es : List Entry) → AllByRecursion (λ (e : Entry). e.version ≤ n) es
    → AllByRecursion (λ (e : Entry). e.version ≤ m) es
more n m le [] all = tt
more n m le (e ∷ es) all = ((let low = all.0 in omega (arith, low, le)), more n m le es all.1)

pub raised-reached : (gone : ℕ) (es : List Entry) → AllByRecursion (λ (e : Entry). e.version ≤ gone_after gone es) es
raised-reached gone [] = tt
raised-reached gone (e ∷ es) =
    (omega arith, more (gone_after gone es) (max e.version (gone_after gone es)) (omega arith) es (raised-reached gone es))

pub raised-least : (gone n : ℕ) (es : List Entry) → gone ≤ n
    → AllByRecursion (λ (e : Entry). e.version ≤ n) es → gone_after gone es ≤ n
raised-least gone n [] le all = le
raised-least gone n (e ∷ es) le all =
    let later = raised-least gone n es le all.1 in let low = all.0 in omega (arith, later, low)

pub raised : (gone : ℕ) (es : List Entry) → IsRaisedBy es gone (gone_after gone es)
raised gone es = record { kept = raised-kept gone es; reached = raised-reached gone es; least = λ n le all. raised-least gone n es le all }

-- ---- an install

module _ (l : Layout) (h : History) (job : Job) (made : Made) where
  -- where it is answered it is put in, and else the job only ends
  abbrev pub Either : Ruling InstallAnswer → Type 0
  Either r = (r.answer ≡ Installed → IsRaisedBy (needless job) l.gone r.layout.gone)
      × ((r.answer ≡ Installed → ⊥) → r.layout.gone ≡ l.gone)

  by_version : (b : Bool) → Either (if b then leaving (Exhausted counter.Version) h (job_ended made l)
      else record { answer = Installed; history = h; layout = installed job made l; calls = 2; gone = [] })
  by_version true = (λ is. absurd cc, λ refused. refl)
  by_version false = (λ is. raised l.gone (needless job), λ refused. absurd (refused refl))

  checked : (o : Option Named) → Either (install_checked l h job made o)
  checked (Some named) = (λ is. absurd cc, λ refused. refl)
  checked None = by_version (has_no_epoch l)

  unless : (halted : Option FileName) → Either (install_unless halted l h job made)
  unless (Some name) = (λ is. absurd cc, λ refused. refl)
  unless None = checked (race job (moved_since l.job))

  pub install_raises : Either (install_ruling l h job made)
  install_raises = unless l.halted
